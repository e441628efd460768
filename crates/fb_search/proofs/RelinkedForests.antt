-- Where the links that trees keep stay, whatever other links there are, they keep what they kept.
use Rattle.std.proofs.Common.{ℕ, ◌≡◌, true, List, [], ◌∷◌, ◌++◌, map, is_some, unwrap_or, refl, sym, ap, ◌∙◌, subst}
use Rattle.std.proofs.lemmas.Bool.{false≢true}
use Rattle.fb_graph.specs.Laws.{Link}
use Rattle.fb_graph.specs.Parity.{is_in}
use Rattle.fb_graph.specs.Problem.{Problem}
use Rattle.fb_graph.proofs.Among.{All_among}
use Rattle.fb_graph.proofs.Floods.{is_in-left, is_in-right}
use Rattle.fb_laws.specs.Forests.{AnyTree}
use Rattle.fb_laws.specs.ForestStates.{ForestState, IsForestState}
use Rattle.fb_laws.specs.LinkNumbers.{tree_links}
use Rattle.fb_laws.specs.Trees.{grown_links, paired_links}
use Rattle.fb_laws.proofs.ForestParts.{forest_state_relisted}
use Rattle.fb_links.specs.Table.{Adds, link_at}
use Rattle.fb_links.specs.declared.walk.Step.{Step}
use Rattle.fb_links.proofs.MovedLinks.{Table}
use Rattle.fb_half.specs.Matchings.{IsMatchOf, match_links}
use Rattle.fb_half.specs.Parts.{AreLinksOf, AreStepsOf, problem_in}
use Rattle.fb_half.specs.Translations.{cycles_by, link_by, link_of, ring_at, ring_links}
use Rattle.fb_trees.specs.Branches.{Grown}
use Rattle.fb_trees.specs.Forests.{trees_in}
use Rattle.fb_search.specs.InternalGrowing.{GrowingValue, IsGrowing, IsGrowingBeside, forest_links, forest_state_at, grown_ids, tree_by, waiting_in}
use Rattle.fb_search.proofs.EndedMatches.{leads_still}
use Rattle.fb_search.proofs.EndedParts.{map_same, ring_within}
use Rattle.fb_search.proofs.Linked.{links_made}
use Rattle.fb_search.proofs.MadeLinks.{entries_same}

-- trees whose links stay
trees_same : (old new : Table) (gs : List Grown) → ((id : ℕ) → is_in (grown_ids gs) id ≡ true → link_by new id ≡ link_by old id)
    → map (tree_by new) gs ≡ map (tree_by old) gs
trees_same old new [] same = refl
trees_same old new (g ∷ gs) same =
    (λ k.
    record {
      root = g.root;
      branches =
          entries_same old new g.branches
          (λ id h.
          same id (is_in-left (tree_links g.branches) (grown_ids gs) id (is_in-left (grown_links g.branches) (paired_links g.branches) id h)))
          (λ id h.
          same id (is_in-left (tree_links g.branches) (grown_ids gs) id (is_in-right (grown_links g.branches) (paired_links g.branches) id h)))
          k;
    }
    ∷ trees_same old new gs (λ id h. same id (is_in-right (tree_links g.branches) (grown_ids gs) id h)) k)

-- the trees with other walks by number
abbrev pub relinked_growing : Table → GrowingValue → GrowingValue
relinked_growing links w = record w { part = record w.part { links = links } }

abbrev state_with : GrowingValue → Table → ℕ → List AnyTree → List Link → ForestState
state_with w new parity trees rest = record {
  nodes = w.part.nodes;
  cycles = cycles_by new w.part.store;
  trees = trees;
  rest = rest;
  unmatched = w.part.matching.unmatched;
  waiting = waiting_in w;
  parity = parity;
}

pub growing_relinked : (w : GrowingValue) (some more : List ℕ) (new : Table) → IsGrowingBeside some w
    → ((id : ℕ) → is_in (forest_links w) id ≡ true → link_at new id ≡ link_at w.part.links id)
    → AreLinksOf (problem_in w.part) new (more ++ forest_links w) → IsGrowingBeside more (relinked_growing new w)
growing_relinked w some more new are stays links = record {
  job = are.job;
  slot = are.slot;
  node = are.node;
  state = (are.state.0, state);
  agreed = are.agreed;
  links = links;
  matching = record {
    distinct = are.matching.distinct;
    live = are.matching.live;
    all = are.matching.all;
    connects =
        leads_still p w.part.nodes w.part.links new w.part.matching.matches
        (λ id h. stays id (in_kept id (is_in-left matches rings id h)))
        (λ m among.
        All_among (λ e. IsMatchOf p w.part.nodes (link_by w.part.links e.link) e.first e.second) w.part.matching.matches
        are.matching.connects m among);
  };
  room = are.room;
  watch = are.watch;
  bounds = are.bounds;
  minus = are.minus;
}
  where
    p : Problem
    p = problem_in w.part

    trees : List ℕ
    trees = grown_ids (trees_in w.forest)

    matches : List ℕ
    matches = match_links w.part.matching.matches

    rings : List ℕ
    rings = ring_links w.part.nodes w.part.store

    in_kept : (id : ℕ) → is_in (matches ++ rings) id ≡ true → is_in (forest_links w) id ≡ true
    in_kept id h = is_in-right trees (matches ++ rings) id h

    by : (id : ℕ) → is_in (forest_links w) id ≡ true → link_by new id ≡ link_by w.part.links id
    by id h = ap (λ o. link_of (unwrap_or o [])) (stays id h)

    same_trees : map (tree_by new) (trees_in w.forest) ≡ map (tree_by w.part.links) (trees_in w.forest)
    same_trees = trees_same w.part.links new (trees_in w.forest) (λ id h. by id (is_in-left trees (matches ++ rings) id h))

    same_rest : map (link_by new) matches ≡ map (link_by w.part.links) matches
    same_rest = map_same (link_by new) (link_by w.part.links) matches (λ id h. by id (in_kept id (is_in-left matches rings id h)))

    state : IsForestState p (forest_state_at (relinked_growing new w) are.state.0)
    state =
        subst (λ ts. IsForestState p (state_with w new are.state.0 ts (map (link_by new) matches))) (sym same_trees)
        (subst (λ rest. IsForestState p (state_with w new are.state.0 (map (tree_by w.part.links) (trees_in w.forest)) rest)) (sym same_rest)
        (forest_state_relisted p (forest_state_at w are.state.0) (cycles_by new w.part.store) w.part.matching.unmatched (waiting_in w)
        (λ n live.
        map_same (link_by new) (link_by w.part.links) (ring_at w.part.store n)
        (λ id h. by id (in_kept id (is_in-right matches rings id (ring_within w.part.nodes w.part.store n live id h)))))
        are.state.1.names.distinct (λ n. refl) are.state.1.waiting (λ n. refl) are.state.1))

-- A link along edges of the problem is made.
pub growing_linked : (w : GrowingValue) (id : ℕ) (walk : List Step) (new : Table) → IsGrowing w → Adds w.part.links new id walk
    → AreStepsOf (problem_in w.part) walk → IsGrowingBeside (id ∷ []) (relinked_growing new w)
growing_linked w id walk new are adds steps =
    growing_relinked w [] (id ∷ []) new are
    (λ k within. adds.others k (λ same. fresh (subst (λ n. is_in (forest_links w) n ≡ true) same within)))
    (links_made (problem_in w.part) w.part.links new (forest_links w) id walk are.links adds steps)
  where
    fresh : is_in (forest_links w) id ≡ true → ⊥
    fresh h = false≢true (sym (sym (are.links.live id) ∙ ap is_some adds.fresh) ∙ h)
