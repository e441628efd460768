-- The moves of a half-solved part keep the whole state.
use Rattle.std.proofs.Common.{ℕ, ◌≡◌, ◌≤◌, ◌<◌, ◌==◌, ◌&&◌, ◌||◌, not, cond, Bool, true, false, List, [], ◌∷◌, map, filter, length, refl, sym, ap, ◌∙◌, subst, arith}
use Rattle.std.proofs.Math.Bool.{and-false}
use Rattle.std.proofs.lemmas.Bool.{and_parts, eq-eqb, both_ways, false≢true}
use Rattle.std.proofs.lemmas.List.Elements.{All-map}
use Rattle.fb_graph.specs.Parity.{is_in}
use Rattle.fb_graph.specs.Problem.{Problem}
use Rattle.fb_graph.specs.Laws.{Link}
use Rattle.fb_graph.specs.Dual.{Node, is_outer, taller_node}
use Rattle.fb_graph.proofs.Sets.{distinct-filter, is_in-filter}
use Rattle.fb_graph.specs.Moves.{MayAbsorb, MayUncover, without_top, absorbed_nodes, uncovered_nodes}
use Rattle.fb_graph.specs.Nests.{IsNest, child_sets}
use Rattle.fb_laws.specs.PartStates.{IsRing, AreCycles, AreLiveNames, all_cycle_links}
use Rattle.fb_graph.specs.Alike.{AreAlike}
use Rattle.fb_graph.specs.Singles.{Single, node_of, nodes_of}
use Rattle.fb_laws.specs.StateMoves.{PartBegins, SearchFrom, StateFree, StateStepped, StateAbsorbed, StateUncovered, StateAttached, StateEnded, StateMet, StateReleased, state_roles}
use Rattle.fb_graph.specs.Steps.{stepped_nodes, stepped_node}
use Rattle.fb_laws.specs.Works.{AreMatchedLinks, names_without}
use Rattle.fb_graph.proofs.Among.{cover_among}
use Rattle.fb_graph.proofs.ChangedNodes.{by_name, change}
use Rattle.fb_laws.proofs.CycleLinks.{cycles_under_one}
use Rattle.fb_laws.proofs.CycleMoves.{cycles_mapped, links_kept, links_stepped, names_kept, top_changed}
use Rattle.fb_graph.proofs.TallerNodes.{taller_alike}
use Rattle.fb_laws.proofs.MoveBridges.{no_leaf, uncovered_back}
use Rattle.fb_graph.proofs.NestParts.{names_live}
use Rattle.fb_laws.proofs.NestedStates.{nested_work_begins, nested_search_begins, nested_free, nested_stepped, nested_absorbed, nested_uncovered, nested_attached, nested_ended, nested_met, nested_released}
use Rattle.fb_laws.proofs.PartStates.{unmatched_outer}
use Rattle.fb_laws.proofs.SearchStates.{search_permuted, search_roles}
use Rattle.fb_graph.proofs.SingleStates.{names_are}
use Rattle.fb_graph.proofs.StepTurns.{top_stepped}
use Rattle.fb_graph.proofs.MappedNodes.{mapped_live}

no_links : (singles : List Single) → all_cycle_links (nodes_of singles) (λ n. []) ≡ []
no_links [] = refl
no_links (s ∷ ss) = no_links ss

pub part_begins : PartBegins
part_begins p singles names vertices real bare defects =
    let work = nested_work_begins p singles names vertices real bare defects in
    record {
      work = work;
      cycles = record {
        rings =
            All-map (λ n. IsRing (child_sets (nodes_of singles) n) []) node_of singles
            (λ i d less. tt);
        links = subst (AreMatchedLinks p (nodes_of singles)) (sym (no_links singles)) work.work.matching.links_are;
      };
      names = record {
        live = λ n within.
            sym (names_live (nodes_of singles) n) ∙ (ap (λ l. is_in l n) (names_are singles) ∙ within);
        distinct = names;
      };
    }

pub search_from_root : SearchFrom
search_from_root p s root state within = record {
  search = nested_search_begins p s.nodes s.matches s.unmatched root state.work (unmatched_outer p s root state within) within;
  cycles = state.cycles;
  names = state.names;
}

pub state_free : StateFree
state_free p s even no_odd clear state =
    nested_free p s.nodes s.tree s.rest s.unmatched s.root s.parity even no_odd clear state.search

pub state_stepped : StateStepped
state_stepped p s k limits even may state =
    let are = search_roles p s.nodes s.tree s.rest s.unmatched s.root s.parity state.search.search in
    record {
      search = nested_stepped p s.nodes s.tree s.rest s.unmatched s.root s.parity k limits even may state.search;
      cycles =
          cycles_mapped p (stepped_node (state_roles s) k) s.nodes s.cycles (λ n. refl) (λ n. refl)
          (λ c inner. top_stepped (state_roles s) k c s.nodes)
          (links_stepped p (state_roles s) s.nodes k (all_cycle_links s.nodes s.cycles) state.search.nest.dual are may.tops
          (cycles_under_one p s.nodes s.cycles state.search.nest state.cycles.rings) state.cycles.links)
          state.cycles;
      names =
          names_kept s.nodes (stepped_nodes (state_roles s) k s.nodes) s.unmatched
          (λ n live. mapped_live (stepped_node (state_roles s) k) (λ m. refl) s.nodes n ∙ live) state.names;
    }

-- the node of an outer name changed in its layers, with the same loads
module _ (nodes : List Node) (name : ℕ) (g : Node → Node) (names : (n : Node) → (g n).name ≡ n.name) where
  same_name : (n : Node) → (change name g n).name ≡ n.name
  same_name n = by_name (λ m. m.name ≡ n.name) name g n (λ e. names n) (λ other. refl)

  pub changed_cycles : (p : Problem) (cycles : ℕ → List Link) → ((n : Node) → (g n).children ≡ n.children)
      → is_outer nodes name ≡ true → AreAlike nodes (map (change name g) nodes) → AreCycles p nodes cycles
      → AreCycles p (map (change name g) nodes) cycles
  changed_cycles p cycles children outer alike are =
      cycles_mapped p (change name g) nodes cycles same_name
      (λ n. by_name (λ m. m.children ≡ n.children) name g n (λ e. children n) (λ other. refl))
      (λ c inner.
      top_changed name g names c (λ same. both_ways (is_outer nodes c) inner (ap (is_outer nodes) same ∙ outer)) nodes)
      (links_kept p nodes (map (change name g) nodes) (all_cycle_links nodes cycles) alike.defects alike.loads are.links)
      are

  pub changed_names : (unmatched : List ℕ) → AreLiveNames nodes unmatched → AreLiveNames (map (change name g) nodes) unmatched
  changed_names unmatched are =
      names_kept nodes (map (change name g) nodes) unmatched
      (λ n live. mapped_live (change name g) same_name nodes n ∙ live) are

-- the node under which the vertex to be absorbed meets its edge is outer
pub absorbing_outer : (p : Problem) (nodes : List Node) (name k u v : ℕ) → MayAbsorb p nodes name k u v → is_outer nodes name ≡ true
absorbing_outer p nodes name k u v may =
    let over = cover_among nodes u name may.covered in
    ap (is_outer nodes) (sym over.named) ∙ over.outer

pub absorbed_alike : (p : Problem) (nodes : List Node) (name k u v : ℕ) → IsNest p nodes → MayAbsorb p nodes name k u v
    → AreAlike nodes (absorbed_nodes name v nodes)
absorbed_alike p nodes name k u v nest may = (taller_alike nodes name v (no_leaf p nodes v nest.dual may.uncovered)).0

pub uncovered_alike : (p : Problem) (nodes : List Node) (name : ℕ) → IsNest p nodes → MayUncover nodes name
    → AreAlike nodes (uncovered_nodes name nodes)
uncovered_alike p nodes name nest may =
    let (v, given) = uncovered_back p nodes name may nest in
    subst (λ ns. AreAlike ns (uncovered_nodes name nodes)) given.back
    (taller_alike (uncovered_nodes name nodes) name v given.no_defect).1

pub state_absorbed : StateAbsorbed
state_absorbed p s name k u v even may state = record {
  search = nested_absorbed p s.nodes s.tree s.rest s.unmatched s.root s.parity name k u v even may state.search;
  cycles =
      changed_cycles s.nodes name (taller_node v) (λ n. refl) p s.cycles (λ n. refl)
      (absorbing_outer p s.nodes name k u v may) (absorbed_alike p s.nodes name k u v state.search.nest may) state.cycles;
  names = changed_names s.nodes name (taller_node v) (λ n. refl) s.unmatched state.names;
}

pub state_uncovered : StateUncovered
state_uncovered p s name may state = record {
  search = nested_uncovered p s.nodes s.tree s.rest s.unmatched s.root s.parity name may state.search;
  cycles =
      changed_cycles s.nodes name without_top (λ n. refl) p s.cycles (λ n. refl) may.outer
      (uncovered_alike p s.nodes name state.search.nest may) state.cycles;
  names = changed_names s.nodes name without_top (λ n. refl) s.unmatched state.names;
}

pub state_attached : StateAttached
state_attached p s e rest even may state = record {
  search =
      nested_attached p s.nodes s.tree e rest s.unmatched s.root s.parity even
      (record {
        nest = state.search.nest;
        search =
            search_permuted p s.nodes s.tree s.rest (e.matched ∷ rest) s.unmatched s.root s.parity may.links
            state.search.search;
        even = state.search.even;
        walks = state.search.walks;
        outer = state.search.outer;
      })
      may.parent may.tree may.matched may.tight;
  cycles = state.cycles;
  names = state.names;
}

pub filter-le : (test : ℕ → Bool) (xs : List ℕ) → length (filter test xs) ≤ length xs
filter-le test [] = omega arith
filter-le test (x ∷ xs) = step (test x) (filter-le test xs)
  where
    step : (b : Bool) → length (filter test xs) ≤ length xs
        → length (cond b (x ∷ filter test xs) (filter test xs)) ≤ length (x ∷ xs)
    step true h = omega (arith, h)
    step false h = omega (arith, h)

-- a name taken out of a list that has it
pub fewer_without : (name : ℕ) (xs : List ℕ) → is_in xs name ≡ true → length (names_without name xs) < length xs
fewer_without name [] within = absurd (false≢true within)
fewer_without name (x ∷ xs) within = step (x == name) refl (fewer_without name xs)
  where
    step : (b : Bool) → (x == name) ≡ b → (is_in xs name ≡ true → length (names_without name xs) < length xs)
        → length (cond (not b) (x ∷ names_without name xs) (names_without name xs)) < length (x ∷ xs)
    step true e ih = let h = filter-le (λ n. not (n == name)) xs in omega (arith, h)
    step false e ih = let h = ih (sym (ap (λ b. b || is_in xs name) e) ∙ within) in omega (arith, h)

gone : (name : ℕ) (xs : List ℕ) → is_in (names_without name xs) name ≡ false
gone name xs =
    is_in-filter (λ n. not (n == name)) xs name
    ∙ (ap (λ b. is_in xs name && not b) (eq-eqb name name refl) ∙ and-false (is_in xs name))

pub kept_without : (name : ℕ) (xs : List ℕ) (n : ℕ) → is_in (names_without name xs) n ≡ true → is_in xs n ≡ true
kept_without name xs n within =
    (and_parts (is_in xs n) (not (n == name)) (sym (is_in-filter (λ m. not (m == name)) xs n) ∙ within)).0

pub without_names : (nodes : List Node) (name : ℕ) (names : List ℕ) → AreLiveNames nodes names
    → AreLiveNames nodes (names_without name names)
without_names nodes name names are = record {
  live = λ n within. are.live n (kept_without name names n within);
  distinct = distinct-filter (λ n. not (n == name)) names are.distinct;
}

pub state_ended : StateEnded
state_ended p s name out v leaves_tree leaves_node boundary state = record {
  state = record {
    work =
        nested_ended p s.nodes s.tree s.rest s.unmatched s.root s.parity name out v state.search leaves_tree.plus
        leaves_tree.tight leaves_node boundary;
    cycles = state.cycles;
    names = without_names s.nodes s.root s.unmatched state.names;
  };
  fewer = fewer_without s.root s.unmatched state.search.search.open_root;
  matched = gone s.root s.unmatched;
  others = kept_without s.root s.unmatched;
}

pub state_met : StateMet
state_met p s name other out leaves_tree connects open_other differs state =
    let h = filter-le (λ n. not (n == s.root)) (names_without other s.unmatched) in
    let g = fewer_without other s.unmatched open_other in
    record {
      state = record {
        work =
            nested_met p s.nodes s.tree s.rest s.unmatched s.root s.parity name other out state.search leaves_tree.plus
            open_other differs leaves_tree.tight connects;
        cycles = state.cycles;
        names =
            without_names s.nodes s.root (names_without other s.unmatched)
            (without_names s.nodes other s.unmatched state.names);
      };
      fewer = omega (arith, h, g);
      matched = gone s.root (names_without other s.unmatched);
      others = λ n within.
          kept_without other s.unmatched n (kept_without s.root (names_without other s.unmatched) n within);
    }

pub state_released : StateReleased
state_released p s name other out old rest b leaves_tree connects moved away boundary state = record {
  state = record {
    work =
        nested_released p s.nodes s.tree old rest s.unmatched s.root s.parity name other out b
        (record {
          nest = state.search.nest;
          search =
              search_permuted p s.nodes s.tree s.rest (old ∷ rest) s.unmatched s.root s.parity moved state.search.search;
          even = state.search.even;
          walks = state.search.walks;
          outer = state.search.outer;
        })
        leaves_tree.plus leaves_tree.tight connects away boundary;
    cycles = state.cycles;
    names = without_names s.nodes s.root s.unmatched state.names;
  };
  fewer = fewer_without s.root s.unmatched state.search.search.open_root;
  matched = gone s.root s.unmatched;
  others = kept_without s.root s.unmatched;
}
