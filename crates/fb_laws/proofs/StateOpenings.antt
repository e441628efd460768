-- A minus blossom opened in a half-solved part keeps the whole state.
use Rattle.std.proofs.Common.{ℕ, ◌≡◌, ◌==◌, ◌≤◌, ◌⊎◌, inl, inr, not, cond, Bool, true, false, List, [], ◌∷◌, ◌++◌, map, length, All, Some, refl, sym, ap, ◌∙◌, subst, arith, if◌then◌else◌}
use Rattle.std.specs.List.Sorted.{IsPermutation}
use Rattle.std.proofs.lemmas.Bool.{both_ways, eqb-true, false_from_ne_true, false≢true}
use Rattle.std.proofs.lemmas.List.{map-append}
use Rattle.std.proofs.lemmas.List.Sorted.{IsPermutation-sym}
use Rattle.fb_graph.specs.Parity.{is_in}
use Rattle.fb_graph.specs.Problem.{Problem, crosses}
use Rattle.fb_graph.specs.Certificate.{AreDistinct}
use Rattle.fb_graph.specs.Laws.{Link}
use Rattle.fb_graph.specs.Links.{IsTightLink}
use Rattle.fb_graph.specs.Dual.{Node, all_cuts, cover_of, is_empty, is_live, is_outer, leaves, top_at}
use Rattle.fb_graph.specs.Moves.{MaySplit, split_nodes}
use Rattle.fb_graph.specs.Nests.{IsNest, AreMany, child_sets}
use Rattle.fb_graph.proofs.Among.{IsAmong, All_among, among_All, among_left, among_live, among_right, live_among, map_among, outer_among, top_among}
use Rattle.fb_graph.proofs.InsertedCuts.{same_weigh}
use Rattle.fb_graph.proofs.Nodes.{All-flat_map, All-pieces}
use Rattle.fb_graph.proofs.Places.{among_split, split_All, split_among}
use Rattle.fb_graph.proofs.Sets.{is_in-All, is_in-cases, is_in-head, is_in-tail}
use Rattle.fb_graph.proofs.SplitNests.{at, insertion, nest_split, same_leaves}
use Rattle.fb_laws.specs.Fusion.{IsLinkOf}
use Rattle.fb_laws.specs.NestedSearches.{IsNestedSearch}
use Rattle.fb_laws.specs.OpenedCycles.{Couple, IsOpenedCycle, Pass, AreCoupled, ArePassed, grown_on, last_of, matched_beside, matched_on, opened_tree, paired_of}
use Rattle.fb_laws.specs.PartStates.{AreChained, IsRing, AreCycles, AreLiveNames, IsSearchState, SearchState, all_cycle_links, links_at}
use Rattle.fb_laws.specs.Paths.{Joins}
use Rattle.fb_laws.specs.SearchOpenings.{IsSplit, IsOpenedTree}
use Rattle.fb_laws.specs.StateOpenings.{AreLinkedRound, CycleFreed, IsFreed, StateOpened, StateOpens}
use Rattle.fb_laws.specs.TreeCycles.{AreLinked}
use Rattle.fb_laws.specs.Trees.{Entry, Connects, grown_links, minus_names, paired_links}
use Rattle.fb_laws.specs.Works.{AreMatchedLinks}
use Rattle.fb_laws.specs.Opening.{EndsAtDefects}
use Rattle.fb_laws.proofs.CycleMoves.{child_inner, links_kept, rings_over}
use Rattle.fb_laws.proofs.CycleWays.{way_round}
use Rattle.fb_laws.proofs.NestedStates.{nested_opened}
use Rattle.fb_laws.proofs.OpenedBlossoms.{distinct_permuted, in_permuted, same_permuted}
use Rattle.fb_laws.proofs.OpenedCycles.{cycle_opened, parent_plus}
use Rattle.fb_laws.proofs.RingLinks.{links_among}
use Rattle.fb_laws.proofs.SearchStates.{links_joined, links_left}
use Rattle.fb_laws.proofs.SearchTrees.{connects_sym, exclusive_names}
use Rattle.fb_laws.proofs.SplitStates.{child_covers, end_under_child, is_split}
use Rattle.fb_laws.proofs.TreePaths.{among_minus, not_both, tree_connects}
use Rattle.fb_graph.proofs.Floods.{is_in-both}
use Rattle.fb_graph.proofs.NestParts.{joins_many, split_is_bare}

-- the sets of all nodes but the one that is split
top_split : (name c : ℕ) → (c ≡ name → ⊥) → (nodes : List Node) → top_at (split_nodes name nodes) c ≡ top_at nodes c
top_split name c other [] = refl
top_split name c other (n ∷ ns) = step (n.name == name) refl (top_split name c other ns)
  where
    step : (b : Bool) → (n.name == name) ≡ b → top_at (split_nodes name ns) c ≡ top_at ns c
        → top_at (cond (not b) (n ∷ split_nodes name ns) (split_nodes name ns)) c ≡ top_at (n ∷ ns) c
    step false e ih = ap (λ s. cond (n.name == c) n.top.vertices s) ih
    step true e ih =
        let differs : (n.name == c) ≡ false =
        false_from_ne_true (n.name == c) (λ same. other (sym (eqb-true n.name c same) ∙ eqb-true n.name name e)) in
        ih ∙ ap (λ x. cond x n.top.vertices (top_at ns c)) (sym differs)

module _ (p : Problem) (nodes : List Node) (cycles : ℕ → List Link) (name : ℕ) (may : MaySplit nodes name) (nest : IsNest p nodes) where
  split_links : (links : List Link) → AreMatchedLinks p nodes links → AreMatchedLinks p (split_nodes name nodes) links
  split_links links are =
      links_kept p nodes (split_nodes name nodes) links (same_leaves p nodes name may nest)
      (λ e.
      sym
      (same_weigh (λ s. crosses s e) (at p nodes name may nest).node.top (all_cuts (split_nodes name nodes)) (all_cuts nodes)
      (insertion p nodes name may nest)))
      are

  fewer : (P : Link → Type 0) → All P (all_cycle_links nodes cycles) → All P (all_cycle_links (split_nodes name nodes) cycles)
  fewer P h =
      All-flat_map P (links_at cycles) (split_nodes name nodes)
      (split_All (λ n. All P (links_at cycles n)) name nodes (All-pieces P (links_at cycles) nodes h))

  pub cycles_split : AreCycles p nodes cycles → AreCycles p (split_nodes name nodes) cycles
  cycles_split old = record {
    rings =
        rings_over nodes (split_nodes name nodes) (split_nodes name nodes) cycles
        (λ n a c child.
        top_split name c
        (λ same.
        both_ways (is_in n.children name) (outer_among nodes name may.outer n (among_split name nodes n a).0)
        (ap (is_in n.children) (sym same) ∙ child))
        nodes)
        (split_All (λ n. IsRing (child_sets nodes n) (cycles n.name)) name nodes old.rings);
    links =
        split_links (all_cycle_links (split_nodes name nodes) cycles)
        (record {
          tight = fewer (IsTightLink p (all_cuts nodes)) old.links.tight;
          own = fewer (IsLinkOf p) old.links.own;
          at_defects =
              fewer
              (EndsAtDefects p (leaves nodes))
              old.links.at_defects;
        });
  }

  -- what a child of the blossom holds it covers
  freed_covers : (b : Node) → IsAmong b nodes → b.name ≡ name → (c : ℕ) → is_in b.children c ≡ true → (v : ℕ)
      → is_in (top_at nodes c) v ≡ true → cover_of (split_nodes name nodes) v ≡ Some c
  freed_covers b a named c child v within =
      let (m, h, is) =
      live_among nodes c
      (is_in-All (λ x. is_live nodes x ≡ true) b.children
      (All_among (λ n. All (λ x. is_live nodes x ≡ true) n.children) nodes nest.forest.live b a) c child) in
      subst (λ x. cover_of (split_nodes x nodes) v ≡ Some c) named
      (child_covers p nodes b b.children a (subst (MaySplit nodes) (sym named) may) nest (λ n. refl) m h
      (ap (is_in b.children) is ∙ child) v
      (ap (λ s. is_in s v) (sym (top_among nodes nest.dual.names m h) ∙ ap (top_at nodes) is) ∙ within)
      ∙ ap Some is)

linked_of_chain : (nodes others : List Node) (from : ℕ) (names : List ℕ) (links : List Link)
    → ((c : ℕ) → is_in (from ∷ names) c ≡ true → (v : ℕ) → is_in (top_at nodes c) v ≡ true → cover_of others v ≡ Some c)
    → AreChained (top_at nodes from) (map (top_at nodes) names) links → AreLinked others from names links
linked_of_chain nodes others from [] [] covers chained = tt
linked_of_chain nodes others from [] (l ∷ links) covers chained = absurd chained
linked_of_chain nodes others from (n ∷ names) [] covers chained = absurd chained
linked_of_chain nodes others from (n ∷ names) (l ∷ links) covers (joins, rest) = (
  connects joins,
  linked_of_chain nodes others n names links (λ c within. covers c (is_in-tail from (n ∷ names) c within)) rest,
)
  where
    here : (v : ℕ) → is_in (top_at nodes from) v ≡ true → cover_of others v ≡ Some from
    here = covers from (is_in-head from (n ∷ names))

    there : (v : ℕ) → is_in (top_at nodes n) v ≡ true → cover_of others v ≡ Some n
    there = covers n (is_in-tail from (n ∷ names) n (is_in-head n names))

    connects : Joins l (top_at nodes from) (top_at nodes n) → Connects others l from n
    connects (v, inl (at_from, to), within) = inl (here l.from at_from, ap (cover_of others) to ∙ there v within)
    connects (v, inr (at_to, from_), within) = inr (here l.to at_to, ap (cover_of others) from_ ∙ there v within)

round_of_ring : (nodes others : List Node) (children : List ℕ) (links : List Link)
    → ((c : ℕ) → is_in children c ≡ true → (v : ℕ) → is_in (top_at nodes c) v ≡ true → cover_of others v ≡ Some c)
    → IsRing (map (top_at nodes) children) links → AreLinkedRound others children links
round_of_ring nodes others [] links covers ring = tt
round_of_ring nodes others (first ∷ names) links covers ring =
    linked_of_chain nodes others first (names ++ first ∷ []) links (λ c within. covers c (either c (is_in-cases first (names ++ first ∷ []) c within)))
    (subst (λ sets. AreChained (top_at nodes first) sets links) (sym (map-append (top_at nodes) names (first ∷ []))) ring)
  where
    last : (c : ℕ) → (is_in names c ≡ true) ⊎ (is_in (first ∷ []) c ≡ true) → is_in (first ∷ names) c ≡ true
    last c (inl within) = is_in-tail first names c within
    last c (inr within) = one (is_in-cases first [] c within)
      where
        one : (first ≡ c) ⊎ (is_in [] c ≡ true) → is_in (first ∷ names) c ≡ true
        one (inl same) = subst (λ m. is_in (first ∷ names) m ≡ true) same (is_in-head first names)
        one (inr none) = absurd (false≢true none)

    either : (c : ℕ) → (first ≡ c) ⊎ (is_in (names ++ first ∷ []) c ≡ true) → is_in (first ∷ names) c ≡ true
    either c (inl same) = subst (λ m. is_in (first ∷ names) m ≡ true) same (is_in-head first names)
    either c (inr within) = last c (is_in-both names (first ∷ []) c within)

-- the links of a blossom's cycle
tight_at : (p : Problem) (nodes : List Node) (cycles : ℕ → List Link) (b : Node) → IsAmong b nodes → is_empty b.children ≡ false
    → AreCycles p nodes cycles → AreMatchedLinks p nodes (cycles b.name)
tight_at p nodes cycles b a some are =
    subst (AreMatchedLinks p nodes) (ap (λ t. if t then [] else cycles b.name) some)
    (record {
      tight = piece (IsTightLink p (all_cuts nodes)) are.links.tight;
      own = piece (IsLinkOf p) are.links.own;
      at_defects =
          piece
          (EndsAtDefects p (leaves nodes))
          are.links.at_defects;
    })
  where
    piece : (P : Link → Type 0) → All P (all_cycle_links nodes cycles) → All P (links_at cycles b)
    piece P h = All_among (λ n. All P (links_at cycles n)) nodes (All-pieces P (links_at cycles) nodes h) b a

pub cycle_freed : CycleFreed
cycle_freed p nodes cycles name may nest are =
    among_All (λ n. n.name ≡ name → IsFreed p nodes n.children name (cycles name)) nodes
    (λ n a named. record {
      linked =
          round_of_ring nodes (split_nodes name nodes) n.children (cycles name)
          (freed_covers p nodes cycles name may nest n a named)
          (subst (λ m. IsRing (child_sets nodes n) (cycles m)) named
          (All_among (λ x. IsRing (child_sets nodes x) (cycles x.name)) nodes are.rings n a));
      tight =
          subst (λ m. AreMatchedLinks p nodes (cycles m)) named
          (tight_at p nodes cycles n a
          (split_is_bare nodes name may n a named).0
          are);
    })

-- names that aren't the blossom's stay
pub names_split : (nodes : List Node) (name : ℕ) (names : List ℕ) → is_in names name ≡ false → AreLiveNames nodes names
    → AreLiveNames (split_nodes name nodes) names
names_split nodes name names out are = record {
  live = λ n within.
      let (m, a, named) = live_among nodes n (are.live n within) in
      among_live (split_nodes name nodes) m n
      (split_among name nodes m a
      (λ same. both_ways (is_in names n) (ap (is_in names) (sym named ∙ same) ∙ out) within)) named;
  distinct = are.distinct;
}

pub state_opened : StateOpened
state_opened p s newer older e from way couples tree_is may cycle state = record {
  search =
      nested_opened p s.nodes newer older (opened_tree newer e older from way) e (last_of from way) (paired_of from way couples)
      (matched_on way ++ matched_beside couples) s.rest (matched_beside couples ++ s.rest) s.unmatched s.root s.parity may opened
      search;
  cycles = cycles_split p s.nodes s.cycles e.minus may state.search.nest state.cycles;
  names = names_split s.nodes e.minus s.unmatched (opened.closed e.minus (is_in-head e.minus (last_of from way ∷ paired_of from way couples))) state.names;
}
  where
    search : IsNestedSearch p s.nodes (newer ++ e ∷ older) s.rest s.unmatched s.root s.parity
    search = subst (λ t. IsNestedSearch p s.nodes t s.rest s.unmatched s.root s.parity) tree_is state.search

    opened : IsOpenedTree p s.nodes (split_nodes e.minus s.nodes) newer older (opened_tree newer e older from way) e (last_of from way)
        (paired_of from way couples) (matched_on way ++ matched_beside couples) s.rest (matched_beside couples ++ s.rest) s.unmatched s.root
    opened =
        cycle_opened p s.nodes (split_nodes e.minus s.nodes) newer older e s.rest s.unmatched s.root s.parity from way couples cycle
        (nest_split p s.nodes e.minus may state.search.nest).dual search.search

module _ (p : Problem) (s : SearchState) (e : Entry) (within : IsAmong e s.tree) (may : MaySplit s.nodes e.minus) (state : IsSearchState p s) (b : Node) (there : IsAmong b s.nodes) (named : b.name ≡ e.minus) where
  has_split : (children : List ℕ) → ((n : ℕ) → is_in children n ≡ is_in b.children n)
      → IsSplit s.nodes (split_nodes e.minus s.nodes) e.minus children
  has_split children same =
      subst (λ x. IsSplit s.nodes (split_nodes x s.nodes) x children) named
      (is_split p s.nodes b children there (subst (MaySplit s.nodes) (sym named) may) state.search.nest same)

  one_link : (l : Link) → IsAmong l (grown_links s.tree ++ paired_links s.tree) → AreMatchedLinks p s.nodes (l ∷ [])
  one_link l a =
      links_among p s.nodes (l ∷ []) (grown_links s.tree ++ paired_links s.tree) (λ x h. only x h)
      (links_joined p s.nodes (grown_links s.tree) (paired_links s.tree) state.search.search.grown
      (links_left p s.nodes (paired_links s.tree) s.rest state.search.search.matching.links_are))
    where
      only : (x : Link) → IsAmong x (l ∷ []) → IsAmong x (grown_links s.tree ++ paired_links s.tree)
      only x (inl same) = subst (λ y. IsAmong y (grown_links s.tree ++ paired_links s.tree)) same a
      only x (inr none) = absurd none

  both : Connects s.nodes e.tree e.parent e.minus × Connects s.nodes e.matched e.minus e.plus
  both = tree_connects s.nodes s.root s.tree state.search.search.joined e within

  abbrev Child : (ℕ → Type 0) → Type 0
  Child P = (c : ℕ) × (is_in b.children c ≡ true) × P c

  above : Child (λ c. Connects (split_nodes e.minus s.nodes) e.tree e.parent c)
  above =
      end_under_child p s.nodes (split_nodes e.minus s.nodes) e.minus e.parent b.children e.tree state.search.nest.dual
      (has_split b.children (λ n. refl))
      (one_link e.tree (among_left (grown_links s.tree) (paired_links s.tree) e.tree (map_among (λ x. x.tree) s.tree e within)))
      (λ same.
      both_ways (is_in (minus_names s.tree) e.parent)
      (exclusive_names s.root s.tree state.search.search.names e.parent
      (parent_plus s.nodes s.root s.tree state.search.search.joined e within))
      (ap (is_in (minus_names s.tree)) same ∙ among_minus s.tree e within))
      both.0

  below : Child (λ c. Connects (split_nodes e.minus s.nodes) e.matched e.plus c)
  below =
      end_under_child p s.nodes (split_nodes e.minus s.nodes) e.minus e.plus b.children e.matched state.search.nest.dual
      (has_split b.children (λ n. refl))
      (one_link e.matched (among_right (grown_links s.tree) (paired_links s.tree) e.matched (map_among (λ x. x.matched) s.tree e within)))
      (λ same. not_both s.root s.tree state.search.search.names e e within within (sym same))
      (connects_sym s.nodes e.matched e.minus e.plus both.1)

  abbrev Opens : Type 0
  Opens =
      (from : ℕ) × (way : List Pass) × (couples : List Couple)
      × IsOpenedCycle p s.nodes (split_nodes e.minus s.nodes) e from way couples s.unmatched

  many : AreMany b.children
  many = joins_many p s.nodes state.search.nest b there (split_is_bare s.nodes e.minus may b there named).0

  opens : Opens
  opens = by (b.children) refl
    where
      freed : IsFreed p s.nodes b.children e.minus (s.cycles e.minus)
      freed =
          All_among (λ n. n.name ≡ e.minus → IsFreed p s.nodes n.children e.minus (s.cycles e.minus)) s.nodes
          (cycle_freed p s.nodes s.cycles e.minus may state.search.nest state.cycles) b there named

      finish : (first : ℕ) (names : List ℕ) → b.children ≡ first ∷ names → (from to : ℕ)
          → Connects (split_nodes e.minus s.nodes) e.tree e.parent from → Connects (split_nodes e.minus s.nodes) e.matched to e.plus
          → (way : List Pass) × (couples : List Couple) × (last_of from way ≡ to) × ArePassed (split_nodes e.minus s.nodes) from way
          × AreCoupled (split_nodes e.minus s.nodes) couples × IsPermutation (first ∷ names) (last_of from way ∷ paired_of from way couples)
          × ((q : Problem) (ns : List Node) → AreMatchedLinks q ns (s.cycles e.minus)
          → AreMatchedLinks q ns (matched_on way ++ (grown_on way ++ matched_beside couples)))
          → Opens
      finish first names is from to over under (way, couples, ends, passed, coupled, moved, kept) = (
        from,
        way,
        couples,
        record {
          split =
              has_split (last_of from way ∷ paired_of from way couples)
              (λ n. same_permuted (first ∷ names) (last_of from way ∷ paired_of from way couples) moved n ∙ ap (λ l. is_in l n) (sym is));
          distinct =
              distinct_permuted (first ∷ names) (last_of from way ∷ paired_of from way couples) moved
              (subst AreDistinct is many.distinct);
          above = over;
          below = subst (λ n. Connects (split_nodes e.minus s.nodes) e.matched n e.plus) (sym ends) under;
          passed = passed;
          coupled = coupled;
          links = kept p s.nodes freed.tight;
          closed = λ n among.
              false_from_ne_true (is_in s.unmatched n)
              (λ open_.
              both_ways (is_outer s.nodes n)
              (child_inner s.nodes b n there
              (ap (λ l. is_in l n) is
              ∙ in_permuted (last_of from way ∷ paired_of from way couples) (first ∷ names)
              (IsPermutation-sym (first ∷ names) (last_of from way ∷ paired_of from way couples) moved) n among))
              (state.search.outer n open_));
        },
      )

      by : (children : List ℕ) → b.children ≡ children → Opens
      by [] is = absurd (let three : 3 ≤ length b.children = many.three in omega (arith, three, ap length is))
      by (first ∷ names) is =
          let (from, in_from, over) = above in
          let (to, in_to, under) = below in
          finish first names is from to over (connects_sym (split_nodes e.minus s.nodes) e.matched e.plus to under)
          (way_round (split_nodes e.minus s.nodes) first names (s.cycles e.minus) from to
          (subst (λ l. AreLinkedRound (split_nodes e.minus s.nodes) l (s.cycles e.minus)) is freed.linked)
          (let size : length b.children ≡ length (first ∷ names) = ap length is in omega (arith, size, many.odd))
          (ap (λ l. is_in l from) (sym is) ∙ in_from) (ap (λ l. is_in l to) (sym is) ∙ in_to))

pub state_opens : StateOpens
state_opens p s newer older e tree_is may state =
    let (b, there, named) = live_among s.nodes e.minus may.live in
    opens p s e (subst (IsAmong e) (sym tree_is) (among_right newer (e ∷ older) e (inl refl))) may state b there named
