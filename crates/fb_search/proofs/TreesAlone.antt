-- One of several trees as one that is alone: the matching has the matched links of the other trees too, and their other links are
-- kept beside those of the tree.
use Rattle.std.proofs.Common.{ℕ, ◌≡◌, List, [], ◌∷◌, ◌++◌, map, All, Option, Some, refl, sym, ap, ◌∙◌, subst, append_assoc}
use Rattle.std.specs.List.Sorted.{IsPermutation}
use Rattle.std.proofs.lemmas.List.{map-append}
use Rattle.std.proofs.lemmas.List.Concat.{flat_map-append}
use Rattle.std.proofs.lemmas.List.Elements.{All-append, All-cons, All-head, All-nil, All-tail}
use Rattle.std.proofs.lemmas.List.Sorted.{IsPermutation-append_comm, IsPermutation-append_left, IsPermutation-append_right, IsPermutation-refl, IsPermutation-trans}
use Rattle.fb_graph.specs.Problem.{Problem}
use Rattle.fb_graph.specs.Dual.{Node}
use Rattle.fb_links.specs.declared.walk.Step.{Step}
use Rattle.fb_laws.specs.Forests.{AnyTree, forest_paired}
use Rattle.fb_laws.specs.PartStates.{SearchState}
use Rattle.fb_laws.specs.ForestStates.{IsForestState, among_trees, tree_of}
use Rattle.fb_laws.specs.LinkNumbers.{tree_links}
use Rattle.fb_laws.specs.TreeCycles.{nodes_along}
use Rattle.fb_laws.specs.Trees.{EntryOf, IsTree, grown_links, paired_links}
use Rattle.fb_laws.proofs.ForestOpenings.{forest_cycle_along}
use Rattle.fb_laws.proofs.ForestStates.{all_mid, forest_tree}
use Rattle.fb_laws.proofs.OpenedBlossoms.{distinct_permuted, same_permuted}
use Rattle.fb_laws.proofs.PermutedTrees.{pull}
use Rattle.fb_half.specs.declared.matches.Match.{Match}
use Rattle.fb_half.specs.Matchings.{IsMatchOf, IsMatchingOf, MatchingValue, listed_names, match_links, matched_names, names_of}
use Rattle.fb_half.specs.Parts.{AreLinksOf, problem_in}
use Rattle.fb_half.specs.Translations.{entry_by, link_by, ring_links}
use Rattle.fb_trees.specs.Branches.{Grown}
use Rattle.fb_trees.specs.Forests.{tree_at, trees_in}
use Rattle.fb_search.specs.InternalEndings.{beside_match}
use Rattle.fb_search.specs.InternalGrowing.{GrowingValue, IsGrowing, all_along, grown_ids, tree_by, waiting_in}
use Rattle.fb_search.specs.InternalSearching.{SearchValue}
use Rattle.fb_search.proofs.ForestPlaces.{after_by, along_first, before_by, own_state, state_among, trees_after, trees_before, trees_beside, trees_split}
use Rattle.fb_search.proofs.Linked.{links_reordered}
use Rattle.fb_search.specs.InternalOpenings.{EndsAtChild, MayEnter}
use Rattle.fb_search.proofs.BranchEnds.{opens_by}
use Rattle.fb_search.proofs.Openings.{IsOpening, Opens}
use Rattle.fb_trees.specs.Rooted.{IsBranchAt}
use Rattle.fb_graph.specs.Moves.{MaySplit}
use Rattle.fb_search.proofs.RingSearches.{ids_listed}

-- the matches of the trees' nodes but for their roots
abbrev pub tree_matches : List Grown → List Match
tree_matches [] = []
tree_matches (g ∷ gs) = map beside_match g.branches ++ tree_matches gs

-- their links that are not matched
abbrev pub only_grown : List Grown → List ℕ
only_grown [] = []
only_grown (g ∷ gs) = grown_links g.branches ++ only_grown gs

-- the tree alone
abbrev pub alone : GrowingValue → ℕ → Grown → SearchValue
alone w t g = record {
  part = record w.part {
    matching = record {
      matches = w.part.matching.matches ++ tree_matches (trees_beside w.forest t);
      unmatched = w.part.matching.unmatched;
    };
  };
  tree = g;
  watched = w.watched;
}

own_names : (es : List (EntryOf ℕ)) → matched_names (map beside_match es) ≡ nodes_along es
own_names [] = refl
own_names (e ∷ es) = ap (λ l. e.minus ∷ e.plus ∷ l) (own_names es)

pub matched_all : (gs : List Grown) → matched_names (tree_matches gs) ≡ all_along gs
matched_all [] = refl
matched_all (g ∷ gs) =
    flat_map-append names_of (map beside_match g.branches) (tree_matches gs)
    ∙ (ap (λ l. l ++ matched_names (tree_matches gs)) (own_names g.branches)
    ∙ ap (λ l. nodes_along g.branches ++ l) (matched_all gs))

own_links : (es : List (EntryOf ℕ)) → match_links (map beside_match es) ≡ paired_links es
own_links [] = refl
own_links (e ∷ es) = ap (λ l. e.matched ∷ l) (own_links es)

ids_parted : (gs : List Grown) → IsPermutation (grown_ids gs) (only_grown gs ++ match_links (tree_matches gs))
ids_parted [] = IsPermutation-refl []
ids_parted (g ∷ gs) =
    IsPermutation-trans ((grown ++ paired) ++ grown_ids gs) ((grown ++ paired) ++ (others ++ matched))
    ((grown ++ others) ++ match_links (map beside_match g.branches ++ tree_matches gs))
    (IsPermutation-append_right (grown ++ paired) (grown_ids gs) (others ++ matched) (ids_parted gs))
    (subst (λ l. IsPermutation ((grown ++ paired) ++ (others ++ matched)) ((grown ++ others) ++ l))
    (ap (λ l. l ++ matched) (sym (own_links g.branches))
    ∙ sym (map-append (λ m. m.link) (map beside_match g.branches) (tree_matches gs)))
    (subst (λ l. IsPermutation l ((grown ++ others) ++ (paired ++ matched))) (sym (append_assoc grown paired (others ++ matched)))
    (subst (IsPermutation (grown ++ (paired ++ (others ++ matched)))) (sym (append_assoc grown others (paired ++ matched)))
    (IsPermutation-append_right grown (paired ++ (others ++ matched)) (others ++ (paired ++ matched)) (pull paired others matched)))))
  where
    grown : List ℕ
    grown = grown_links g.branches

    paired : List ℕ
    paired = paired_links g.branches

    others : List ℕ
    others = only_grown gs

    matched : List ℕ
    matched = match_links (tree_matches gs)

-- the links that are kept, as those of the tree alone with the others beside them
pub alone_ids : (xs ys : List Grown) (g : Grown) (matches rings : List ℕ)
    → IsPermutation (grown_ids (xs ++ g ∷ ys) ++ (matches ++ rings))
    (only_grown (xs ++ ys)
    ++ (tree_links g.branches ++ ((matches ++ match_links (tree_matches (xs ++ ys))) ++ rings)))
alone_ids xs ys g matches rings =
    IsPermutation-trans (grown_ids (xs ++ g ∷ ys) ++ (matches ++ rings)) (own ++ ((grown_ids (xs ++ ys) ++ matches) ++ rings))
    (others ++ (own ++ ((matches ++ matched) ++ rings))) (ids_listed xs ys g matches rings)
    (IsPermutation-trans (own ++ ((grown_ids (xs ++ ys) ++ matches) ++ rings)) (own ++ ((others ++ (matches ++ matched)) ++ rings))
    (others ++ (own ++ ((matches ++ matched) ++ rings)))
    (IsPermutation-append_right own ((grown_ids (xs ++ ys) ++ matches) ++ rings) ((others ++ (matches ++ matched)) ++ rings)
    (IsPermutation-append_left rings (grown_ids (xs ++ ys) ++ matches) (others ++ (matches ++ matched))
    (IsPermutation-trans (grown_ids (xs ++ ys) ++ matches) ((others ++ matched) ++ matches) (others ++ (matches ++ matched))
    (IsPermutation-append_left matches (grown_ids (xs ++ ys)) (others ++ matched) (ids_parted (xs ++ ys)))
    (subst (λ l. IsPermutation l (others ++ (matches ++ matched))) (sym (append_assoc others matched matches))
    (IsPermutation-append_right others (matched ++ matches) (matches ++ matched) (IsPermutation-append_comm matched matches))))))
    (subst (λ l. IsPermutation (own ++ l) (others ++ (own ++ ((matches ++ matched) ++ rings))))
    (sym (append_assoc others (matches ++ matched) rings)) (pull own others ((matches ++ matched) ++ rings))))
  where
    own : List ℕ
    own = tree_links g.branches

    others : List ℕ
    others = only_grown (xs ++ ys)

    matched : List ℕ
    matched = match_links (tree_matches (xs ++ ys))

-- what is listed, as the tree alone lists it
pub alone_names : (xs ys : List Grown) (g : Grown) (unmatched : List ℕ) (matches : List Match)
    → IsPermutation ((unmatched ++ matched_names matches) ++ all_along (xs ++ g ∷ ys))
    ((unmatched ++ matched_names (matches ++ tree_matches (xs ++ ys))) ++ nodes_along g.branches)
alone_names xs ys g unmatched matches =
    subst (λ l. IsPermutation ((unmatched ++ matched) ++ all_along (xs ++ g ∷ ys)) ((unmatched ++ l) ++ own))
    (ap (λ l. matched ++ l) (sym (matched_all (xs ++ ys))) ∙ sym (flat_map-append names_of matches (tree_matches (xs ++ ys))))
    (subst (λ l. IsPermutation ((unmatched ++ matched) ++ all_along (xs ++ g ∷ ys)) (l ++ own)) (append_assoc unmatched matched others)
    (subst (IsPermutation ((unmatched ++ matched) ++ all_along (xs ++ g ∷ ys))) (sym (append_assoc (unmatched ++ matched) others own))
    (IsPermutation-append_right (unmatched ++ matched) (all_along (xs ++ g ∷ ys)) (others ++ own)
    (IsPermutation-trans (all_along (xs ++ g ∷ ys)) (own ++ others) (others ++ own) (along_first xs ys g)
    (IsPermutation-append_comm own others)))))
  where
    own : List ℕ
    own = nodes_along g.branches

    others : List ℕ
    others = all_along (xs ++ ys)

    matched : List ℕ
    matched = matched_names matches

-- the same nodes listed otherwise
pub relisted : (p : Problem) (nodes : List Node) (table : List (Option (List Step))) (m n : MatchingValue) (others after : List ℕ)
    → IsMatchingOf p nodes table m others → IsPermutation (listed_names m ++ others) (listed_names n ++ after)
    → All (λ e. IsMatchOf p nodes (link_by table e.link) e.first e.second) n.matches → IsMatchingOf p nodes table n after
relisted p nodes table m n others after was moved connects = record {
  distinct = distinct_permuted (listed_names m ++ others) (listed_names n ++ after) moved was.distinct;
  live = λ name there. was.live name (sym (same_permuted (listed_names m ++ others) (listed_names n ++ after) moved name) ∙ there);
  all = λ name live outer.
      same_permuted (listed_names m ++ others) (listed_names n ++ after) moved name ∙ was.all name live outer;
  connects = connects;
}

module _ (p : Problem) (nodes : List Node) (table : List (Option (List Step))) where
  abbrev pub IsKeptMatch : Match → Type 0
  IsKeptMatch e = IsMatchOf p nodes (link_by table e.link) e.first e.second

  own_connects : (root : ℕ) (es : List (EntryOf ℕ)) → IsTree nodes root (map (entry_by table) es) → All IsKeptMatch (map beside_match es)
  own_connects root [] joined = All-nil IsKeptMatch
  own_connects root (e ∷ es) joined =
      All-cons IsKeptMatch (beside_match e) (map beside_match es) joined.2 (own_connects root es joined.3)

  -- the matched links of trees connect their nodes
  pub all_connects : (gs : List Grown) → All (λ t. IsTree nodes t.root t.branches) (map (tree_by table) gs)
      → All IsKeptMatch (tree_matches gs)
  all_connects [] joined = All-nil IsKeptMatch
  all_connects (g ∷ gs) joined =
      All-append IsKeptMatch (map beside_match g.branches) (tree_matches gs)
      (own_connects g.root g.branches
      (All-head (λ t. IsTree nodes t.root t.branches) (tree_by table g) (map (tree_by table) gs) joined))
      (all_connects gs (All-tail (λ t. IsTree nodes t.root t.branches) (tree_by table g) (map (tree_by table) gs) joined))

module _ (w : GrowingValue) (t : ℕ) (g : Grown) (at : tree_at w.forest t ≡ Some g) (are : IsGrowing w) where
  abbrev own : SearchState
  own = own_state w g are.state.0

  abbrev Before : List Grown
  Before = trees_before w.forest t

  abbrev After : List Grown
  After = trees_after w.forest t

  abbrev matches : List ℕ
  matches = match_links w.part.matching.matches

  abbrev rings : List ℕ
  rings = ring_links w.part.nodes w.part.store

  pub among_others : IsForestState (problem_in w.part)
      (among_trees (before_by w t) (after_by w t) (waiting_in w) (own_state w g are.state.0))
  among_others = subst (IsForestState (problem_in w.part)) (state_among w t g are.state.0 at) are.state.1

  abbrev Joined : AnyTree → Type 0
  Joined u = IsTree w.part.nodes u.root u.branches

  connect : All (IsKeptMatch (problem_in w.part) w.part.nodes w.part.links) (tree_matches (trees_beside w.forest t))
  connect =
      all_connects (problem_in w.part) w.part.nodes w.part.links (trees_beside w.forest t)
      (subst (All Joined) (sym (map-append (tree_by w.part.links) Before After))
      (all_mid Joined (before_by w t) (after_by w t) (tree_of own) among_others.forest.joined).1)

  -- It is kept as the tree of a search is, but for the potentials of the other roots.
  pub opening_among : IsOpening (only_grown (trees_beside w.forest t)) (alone w t g)
  opening_among = record {
    parity = are.state.0;
    rest = forest_paired (before_by w t ++ after_by w t) ++ own.rest;
    nest = are.state.1.nest;
    search =
        forest_tree (problem_in w.part) w.part.nodes (before_by w t) (after_by w t) (tree_of own) own.rest w.part.matching.unmatched
        (waiting_in w) are.state.0 among_others.forest;
    agreed = are.agreed;
    links =
        subst
        (λ ms. AreLinksOf (problem_in w.part) w.part.links (only_grown (Before ++ After) ++ (tree_links g.branches ++ (ms ++ rings))))
        (sym (map-append (λ m. m.link) w.part.matching.matches (tree_matches (Before ++ After))))
        (links_reordered (problem_in w.part) w.part.links (grown_ids (Before ++ g ∷ After) ++ (matches ++ rings))
        (only_grown (Before ++ After)
        ++ (tree_links g.branches ++ ((matches ++ match_links (tree_matches (Before ++ After))) ++ rings)))
        (alone_ids Before After g matches rings)
        (subst (λ ts. AreLinksOf (problem_in w.part) w.part.links (grown_ids ts ++ (matches ++ rings))) (trees_split w.forest t g at)
        are.links));
    matching =
        relisted (problem_in w.part) w.part.nodes w.part.links w.part.matching (alone w t g).part.matching
        (all_along (trees_in w.forest)) (nodes_along g.branches) are.matching
        (subst
        (λ ts.
        IsPermutation (listed_names w.part.matching ++ all_along ts)
        (listed_names (alone w t g).part.matching ++ nodes_along g.branches))
        (sym (trees_split w.forest t g at))
        (alone_names Before After g w.part.matching.unmatched w.part.matching.matches))
        (All-append (IsKeptMatch (problem_in w.part) w.part.nodes w.part.links) w.part.matching.matches (tree_matches (Before ++ After))
        are.matching.connects connect);
    along = λ newer older e children place steps may.
        forest_cycle_along (problem_in w.part) (before_by w t) (after_by w t) (waiting_in w) own newer older e children place steps
        among_others
        (record {
          tree = may.tree;
          may_split = may.may_split;
          children_are = may.children_are;
          place_below = may.place_below;
          steps_below = may.steps_below;
          above = may.above;
          below = may.below;
        });
  }

-- the children at which the links of a branch end are found without the matching
pub enters_part : (w : GrowingValue) (t : ℕ) (g : Grown) (name other link : ℕ) → MayEnter (alone w t g).part name other link
    → MayEnter w.part name other link
enters_part w t g name other link may = record {
  nest = may.nest;
  agreed = may.agreed;
  may_split = may.may_split;
  live = may.live;
  tight = may.tight;
  apart = may.apart;
  connects = may.connects;
}

pub opens_alone : (w : GrowingValue) (t : ℕ) (g : Grown) (at : tree_at w.forest t ≡ Some g) (are : IsGrowing w) (name : ℕ)
    (e : EntryOf ℕ) (above below : ℕ) → MaySplit w.part.nodes name → IsBranchAt g name e
    → ((other : ℕ) → MayEnter w.part name other e.tree → EndsAtChild w.part name other e.tree above)
    → ((other : ℕ) → MayEnter w.part name other e.matched → EndsAtChild w.part name other e.matched below)
    → Opens (alone w t g) name e above below
opens_alone w t g at are name e above below may branch first second =
    opens_by (alone w t g) name e above below (opening_among w t g at are) may branch
    (λ other enters.
    let ends = first other (enters_part w t g name other e.tree enters) in
    record { on_cycle = ends.on_cycle; connects = ends.connects })
    (λ other enters.
    let ends = second other (enters_part w t g name other e.matched enters) in
    record { on_cycle = ends.on_cycle; connects = ends.connects })
