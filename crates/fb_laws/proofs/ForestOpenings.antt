-- A minus blossom of one of several trees opened keeps the whole state.
use Rattle.std.proofs.Common.{ℕ, ◌≡◌, ◌⊎◌, inl, inr, Bool, true, false, List, ◌∷◌, ◌++◌, Some, sym, ap, ◌∙◌, subst, get_or}
use Rattle.std.proofs.lemmas.Bool.{both_ways, cases_Bool, false_from_ne_true}
use Rattle.std.proofs.lemmas.List.{map-append}
use Rattle.fb_graph.specs.Parity.{is_in}
use Rattle.fb_graph.specs.Problem.{Problem}
use Rattle.fb_graph.specs.Laws.{Link}
use Rattle.fb_graph.specs.Dual.{Node, cover_of}
use Rattle.fb_graph.specs.Moves.{MaySplit, split_nodes}
use Rattle.fb_graph.specs.Nests.{IsNest}
use Rattle.fb_graph.proofs.Sets.{is_in-head}
use Rattle.fb_graph.proofs.SourceWalks.{walks_split}
use Rattle.fb_graph.proofs.SplitNests.{nest_split}
use Rattle.fb_laws.specs.Forests.{AnyTree, IsForest, forest_names, forest_paired, forest_roots}
use Rattle.fb_laws.specs.ForestOpenings.{ForestCycleAlong, ForestOpenedAlong, ForestStateOpened}
use Rattle.fb_laws.specs.ForestStates.{IsForestState, among_trees, tree_of}
use Rattle.fb_laws.specs.OpenedCycles.{Couple, IsOpenedCycle, Pass, last_of, matched_beside, matched_on, opened_tree, paired_of}
use Rattle.fb_laws.specs.PartStates.{SearchState}
use Rattle.fb_laws.specs.RingWays.{couples_after, way_to}
use Rattle.fb_laws.specs.SearchOpenings.{IsOpenedTree}
use Rattle.fb_laws.specs.Searches.{IsOuterNode, IsSearch}
use Rattle.fb_laws.specs.StateRings.{round_of}
use Rattle.fb_laws.specs.Trees.{Entry, paired_links, tree_names}
use Rattle.fb_laws.proofs.ForestBlossoms.{beside_within}
use Rattle.fb_laws.proofs.ForestStates.{AreTrees, AreWaiting, forest_put, forest_tree, root_not_waiting, tree_apart, trees_beside, waiting_beside}
use Rattle.fb_laws.proofs.ForestSteps.{name_set}
use Rattle.fb_laws.proofs.JoinedThree.{mid_names}
use Rattle.fb_laws.proofs.LoweredParts.{set_outer}
use Rattle.fb_laws.proofs.OpenedCycles.{cycle_opened}
use Rattle.fb_laws.proofs.OpenedSearches.{cover_split, links_split}
use Rattle.fb_laws.proofs.OpenedTrees.{search_opened}
use Rattle.fb_laws.proofs.PermutedTrees.{pull}
use Rattle.fb_laws.proofs.SearchStates.{links_left, links_right, search_permuted}
use Rattle.fb_laws.proofs.SearchTrees.{minus_in_tree}
use Rattle.fb_laws.proofs.StateOpenings.{cycles_split, names_split}
use Rattle.fb_laws.proofs.StateRings.{way_along}
use Rattle.fb_laws.proofs.TreesBeside.{AreKept, trees_kept}
use Rattle.fb_laws.proofs.UnmatchedNames.{outer_split}
use Rattle.fb_laws.proofs.WaitingNodes.{parity_kept, waiting_apart, waiting_outer}

module _ (p : Problem) (before after : List AnyTree) (waiting : List ℕ) (s : SearchState) (newer older : List Entry) (e : Entry) (from : ℕ)
    (way : List Pass) (couples : List Couple) (tree_is : s.tree ≡ newer ++ e ∷ older) (may : MaySplit s.nodes e.minus)
    (cycle : IsOpenedCycle p s.nodes (split_nodes e.minus s.nodes) e from way couples s.unmatched)
    (state : IsForestState p (among_trees before after waiting s)) where
  abbrev Split : List Node
  Split = split_nodes e.minus s.nodes

  abbrev Children : List ℕ
  Children = last_of from way ∷ paired_of from way couples

  abbrev Other : List Link
  Other = forest_paired (before ++ after) ++ s.rest

  abbrev opened_one : AnyTree
  opened_one = record { root = s.root; branches = opened_tree newer e older from way }

  nest : IsNest p (split_nodes e.minus s.nodes)
  nest = nest_split p s.nodes e.minus may state.nest

  whole : IsSearch p s.nodes s.tree (forest_paired (before ++ after) ++ s.rest) s.unmatched s.root s.parity
  whole = forest_tree p s.nodes before after (tree_of s) s.rest s.unmatched waiting s.parity state.forest

  search : IsSearch p s.nodes (newer ++ e ∷ older) (forest_paired (before ++ after) ++ s.rest) s.unmatched s.root s.parity
  search = subst (λ t. IsSearch p s.nodes t Other s.unmatched s.root s.parity) tree_is whole

  opened : IsOpenedTree p s.nodes (split_nodes e.minus s.nodes) newer older (opened_tree newer e older from way) e
      (last_of from way) (paired_of from way couples) (matched_on way ++ matched_beside couples)
      (forest_paired (before ++ after) ++ s.rest) (matched_beside couples ++ (forest_paired (before ++ after) ++ s.rest))
      s.unmatched s.root
  opened =
      cycle_opened p s.nodes Split newer older e Other s.unmatched s.root s.parity from way couples cycle nest.dual search

  -- a name of the tree is in none of the others
  away : (n : ℕ) → is_in (tree_names s.root (newer ++ e ∷ older)) n ≡ true → is_in (forest_names (before ++ after)) n ≡ false
  away n within =
      tree_apart p s.nodes before after (tree_of s) s.rest s.unmatched waiting s.parity state.forest n
      (ap (λ t. is_in (tree_names s.root t) n) tree_is ∙ within)

  -- what waits is neither the blossom nor one of its children
  waiting_other : (n : ℕ) → is_in waiting n ≡ true → n ≡ e.minus → ⊥
  waiting_other n waits same =
      both_ways (is_in (tree_names s.root s.tree) n) (waiting_apart p before after waiting s state n waits)
      (ap (λ t. is_in (tree_names s.root t) n) tree_is
      ∙ ap (is_in (tree_names s.root (newer ++ e ∷ older))) same
      ∙ minus_in_tree s.root (newer ++ e ∷ older) e.minus (mid_names s.root newer older e).0)

  waiting_out : (n : ℕ) → is_in waiting n ≡ true → is_in (last_of from way ∷ paired_of from way couples) n ≡ false
  waiting_out n waits =
      let (d, leaf, cover) = waiting_outer p (among_trees before after waiting s) state n waits in
      (cycle.split.outside d n leaf cover (waiting_other n waits)).1

  not_blossom : (n : ℕ) → is_in (forest_names (before ++ after)) n ≡ true → n ≡ e.minus → ⊥
  not_blossom n within same =
      both_ways (is_in (forest_names (before ++ after)) n)
      (away n
      (ap (is_in (tree_names s.root (newer ++ e ∷ older))) same
      ∙ minus_in_tree s.root (newer ++ e ∷ older) e.minus (mid_names s.root newer older e).0))
      within

  name_outer : (n : ℕ) → is_in (forest_names (before ++ after)) n ≡ true → IsOuterNode s.nodes n
  name_outer n within =
      set_outer p s.nodes n state.nest.dual
      (name_set p s.nodes (before ++ tree_of s ∷ after) s.rest s.unmatched waiting s.parity state.forest n
      (beside_within before after (tree_of s) n within))

  not_child : (n : ℕ) → is_in (forest_names (before ++ after)) n ≡ true
      → is_in (last_of from way ∷ paired_of from way couples) n ≡ false
  not_child n within =
      let (d, leaf, cover) = name_outer n within in
      (cycle.split.outside d n leaf cover (not_blossom n within)).1

  -- nodes other than the blossom and its children stay
  kept : (names : ℕ → Bool) → ((n : ℕ) → names n ≡ true → n ≡ e.minus → ⊥)
      → ((n : ℕ) → names n ≡ true → is_in (last_of from way ∷ paired_of from way couples) n ≡ false)
      → AreKept p s.nodes (split_nodes e.minus s.nodes) names
  kept names unsplit childless = record {
    defects = cycle.split.defects;
    heights = cycle.split.heights;
    under = λ d n leaf within cover. (cycle.split.outside d n leaf cover (unsplit n within)).0;
    back = λ d n leaf within cover.
        by d n within (cover_split p s.nodes Split e.minus Children cycle.split state.nest.dual nest.dual d n leaf cover);
    links = links_split p s.nodes Split e.minus Children cycle.split state.nest.dual nest.dual;
  }
    where
      by : (d n : ℕ) → names n ≡ true
          → (cover_of s.nodes d ≡ Some n) × (n ≡ e.minus → ⊥) × (is_in (last_of from way ∷ paired_of from way couples) n ≡ false)
          ⊎ (cover_of s.nodes d ≡ Some e.minus) × (is_in (last_of from way ∷ paired_of from way couples) n ≡ true)
          → cover_of s.nodes d ≡ Some n
      by d n within (inl (here, other, out)) = here
      by d n within (inr (here, child)) = absurd (both_ways (is_in Children n) (childless n within) child)

  beside : AreTrees p (split_nodes e.minus s.nodes) (before ++ after) s.parity
  beside =
      trees_kept p s.nodes Split (before ++ after) s.parity
      (kept (is_in (forest_names (before ++ after))) not_blossom not_child) state.nest.dual
      (links_left p s.nodes (forest_paired (before ++ after)) s.rest
      (links_right p s.nodes (paired_links s.tree) Other whole.matching.links_are))
      (trees_beside p s.nodes before after (tree_of s) s.rest s.unmatched waiting s.parity state.forest)

  opened_search : IsSearch p (split_nodes e.minus s.nodes) (opened_tree newer e older from way)
      (forest_paired (before ++ after) ++ (matched_beside couples ++ s.rest)) s.unmatched s.root s.parity
  opened_search =
      search_permuted p Split (opened_tree newer e older from way) (matched_beside couples ++ Other)
      (forest_paired (before ++ after) ++ (matched_beside couples ++ s.rest)) s.unmatched s.root s.parity
      (pull (matched_beside couples) (forest_paired (before ++ after)) s.rest)
      (search_opened p s.nodes Split newer older (opened_tree newer e older from way) e (last_of from way)
      (paired_of from way couples) (matched_on way ++ matched_beside couples) Other (matched_beside couples ++ Other) s.unmatched
      s.root s.parity opened nest.dual search)

  -- what is in the opened tree is in no other one
  apart : (n : ℕ) → is_in (tree_names s.root (opened_tree newer e older from way)) n ≡ true
      → is_in (forest_names (before ++ after)) n ≡ false
  apart n among = by (cases_Bool (is_in (last_of from way ∷ paired_of from way couples) n))
    where
      by : (is_in (last_of from way ∷ paired_of from way couples) n ≡ true)
          ⊎ (is_in (last_of from way ∷ paired_of from way couples) n ≡ false) → is_in (forest_names (before ++ after)) n ≡ false
      by (inl child) =
          false_from_ne_true (is_in (forest_names (before ++ after)) n)
          (λ within. both_ways (is_in Children n) (not_child n within) child)
      by (inr out) = away n (opened.old n among out)

  -- what waits stays as it was
  still_waiting : AreWaiting (split_nodes e.minus s.nodes) (before ++ after) waiting
  still_waiting = record {
    apart = (waiting_beside p s.nodes before after (tree_of s) s.rest s.unmatched waiting s.parity state.forest).apart;
    even = parity_kept p s.nodes Split (is_in waiting) 0 (kept (is_in waiting) waiting_other waiting_out) state.forest.even;
  }

  roots : (n : ℕ) → is_in s.unmatched n ≡ is_in (forest_roots (before ++ opened_one ∷ after) ++ waiting) n
  roots n =
      state.forest.roots n
      ∙ ap (λ l. is_in (l ++ waiting) n)
      (map-append (λ (t : AnyTree). t.root) before (tree_of s ∷ after)
      ∙ sym (map-append (λ (t : AnyTree). t.root) before (opened_one ∷ after)))

  opened_forest : IsForest p (split_nodes e.minus s.nodes) (before ++ opened_one ∷ after) (matched_beside couples ++ s.rest)
      s.unmatched waiting s.parity
  opened_forest =
      forest_put p Split before after opened_one (matched_beside couples ++ s.rest) s.unmatched waiting s.parity beside still_waiting
      (root_not_waiting p s.nodes before after (tree_of s) s.rest s.unmatched waiting s.parity state.forest) opened_search apart roots

  none_left : is_in s.unmatched e.minus ≡ false
  none_left = opened.closed e.minus (is_in-head e.minus Children)

pub forest_state_opened : ForestStateOpened
forest_state_opened p before after waiting s newer older e from way couples tree_is may cycle state = record {
  nest = nest p before after waiting s newer older e from way couples tree_is may cycle state;
  forest = opened_forest p before after waiting s newer older e from way couples tree_is may cycle state;
  walks = walks_split p s.nodes e.minus may state.nest state.walks;
  outer = outer_split s.nodes e.minus s.unmatched state.outer;
  cycles = cycles_split p s.nodes s.cycles e.minus may state.nest state.cycles;
  names =
      names_split s.nodes e.minus s.unmatched
      (none_left p before after waiting s newer older e from way couples tree_is may cycle state) state.names;
  waiting = state.waiting;
}

pub forest_cycle_along : ForestCycleAlong
forest_cycle_along p before after waiting s newer older e children place steps state may =
    way_along p s newer older e children place steps state.nest state.cycles state.outer may

pub forest_opened_along : ForestOpenedAlong
forest_opened_along p before after waiting s newer older e children place steps state may =
    forest_state_opened p before after waiting s newer older e (get_or children place 0) (way_to steps (round_of s e children place))
    (couples_after steps (round_of s e children place)) may.tree may.may_split
    (forest_cycle_along p before after waiting s newer older e children place steps state may) state
