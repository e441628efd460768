-- A cycle of one of several trees that becomes a blossom keeps what is kept while trees grow, and leaves less to do.
use Rattle.std.proofs.Common.{ℕ, ◌≡◌, ◌≤◌, ◌≢◌, ◌<◌, inr, true, false, List, [], ◌∷◌, ◌++◌, map, set, length, All, Option, Some, is_some, refl, sym, ap, ◌∙◌, subst, append_assoc, arith}
use Rattle.std.specs.List.Sorted.{IsPermutation}
use Rattle.std.proofs.lemmas.Bool.{both_ways, false_from_ne_true}
use Rattle.std.proofs.lemmas.List.{map-append}
use Rattle.std.proofs.lemmas.List.Sorted.{IsPermutation-append_comm, IsPermutation-append_left, IsPermutation-append_right, IsPermutation-cons, IsPermutation-sym, IsPermutation-trans, length_permutation}
use Rattle.fb_graph.specs.Parity.{is_in}
use Rattle.fb_graph.specs.Certificate.{AreDistinct}
use Rattle.fb_graph.specs.Limits.{IsWithinLimits}
use Rattle.fb_graph.specs.Dual.{is_live, is_outer}
use Rattle.fb_graph.specs.Moves.{MayJoin, blossom, joined_nodes}
use Rattle.fb_graph.specs.Steps.{Roles}
use Rattle.fb_graph.proofs.Floods.{is_in-left, is_in-right}
use Rattle.fb_graph.proofs.JoinedNests.{height}
use Rattle.fb_graph.proofs.Members.{distinct_left}
use Rattle.fb_links.specs.declared.cycle.CycleStep.{CycleStep}
use Rattle.fb_blossoms.specs.Nodes.{Adds}
use Rattle.fb_blossoms.specs.Nodes as blossoms
use Rattle.fb_laws.specs.Forests.{forest_roles, forest_roots}
use Rattle.fb_laws.specs.ForestStates.{IsForestState, among_trees, tree_of}
use Rattle.fb_laws.specs.LinkNumbers.{tree_links}
use Rattle.fb_laws.specs.Measures.{IsLower}
use Rattle.fb_laws.specs.PartStates.{SearchState}
use Rattle.fb_laws.specs.SearchBlossoms.{renamed_name}
use Rattle.fb_laws.specs.SearchLayers.{left_to_do}
use Rattle.fb_laws.specs.StateBlossoms.{MayClose, joined_state}
use Rattle.fb_laws.specs.TreeCycles.{nodes_along}
use Rattle.fb_laws.specs.Trees.{tree_names}
use Rattle.fb_laws.proofs.ForestBlossoms.{forest_state_closed}
use Rattle.fb_laws.proofs.ForestMeasures.{forest_closed_less}
use Rattle.fb_laws.proofs.ForestParts.{forest_state_relisted}
use Rattle.fb_laws.proofs.MergedParts.{distinct_across}
use Rattle.fb_laws.proofs.OpenedBlossoms.{distinct_permuted, same_permuted}
use Rattle.fb_trees.specs.Branches.{Grown}
use Rattle.fb_trees.specs.Forests.{IsReplacedIn, all_roles, role_among, tree_at, trees_in}
use Rattle.fb_trees.specs.Replacements as replacements
use Rattle.fb_trees.specs.TreeSteps.{IsCycle}
use Rattle.fb_trees.proofs.ForestsCounted.{as_many}
use Rattle.fb_trees.proofs.Mapped.{joined_moved}
use Rattle.fb_half.specs.Matchings.{IsMatchingOf, MatchingValue, listed_names, match_links, matched_names}
use Rattle.fb_half.specs.Values.{IsScopeOf}
use Rattle.fb_plan.specs.declared.scope.NodeScope.{NodeScope}
use Rattle.fb_plan.specs.Scopes.{scope_graph}
use Rattle.fb_half.specs.Parts.{AreAgreed, AreLinksOf, problem_in}
use Rattle.fb_half.specs.Translations.{cycles_by, entry_by, link_by, ring_links}
use Rattle.fb_obstacles.specs.Watched.{Watched}
use Rattle.fb_search.specs.InternalClosings.{IsReplacedBy, WatchesMinusBy}
use Rattle.fb_search.specs.InternalGrowing.{GrowingValue, IsGrowing, all_along, forest_state_at, grown_ids, roles_among, tree_by, waiting_in}
use Rattle.fb_search.specs.InternalGrowingRings.{ClosesIn}
use Rattle.fb_search.specs.InternalGrowth.{GrowsOn}
use Rattle.fb_search.proofs.Agreed.{agreed_joined, nodes_of}
use Rattle.fb_search.proofs.BegunSearches.{kept_limits}
use Rattle.fb_search.proofs.ClosedCycles.{many_replaced, may_close, root_unlisted, steps_join}
use Rattle.fb_search.proofs.ClosedWatches.{bounded_joined, watch_joined, watches_minus}
use Rattle.fb_search.proofs.Cycles.{cycle_from, paths_of, same_cycle}
use Rattle.fb_search.proofs.ForestPlaces.{after_by, along_first, before_by, ids_first, own_state, trees_after, trees_before, trees_split, trees_with}
use Rattle.fb_search.proofs.GrowingRoles.{all_are, minus_live, roles_numbers}
use Rattle.fb_search.proofs.JoinConditions.{cycle_within, outer_made}
use Rattle.fb_search.proofs.JoinLinks.{links_closed}
use Rattle.fb_search.proofs.JoinMatchings.{matching_ring}
use Rattle.fb_search.proofs.JoinStates.{links_stored, made_links, names_joined}
use Rattle.fb_search.proofs.KeptNodes.{named_before}
use Rattle.fb_search.proofs.Linked.{links_reordered}
use Rattle.fb_search.proofs.MinusBounds.{minus_joined}
use Rattle.fb_search.proofs.Renamed.{tree_listed}
use Rattle.fb_search.proofs.RingCycles.{ring_among, ring_closes}
use Rattle.fb_search.proofs.RingMinus.{minus_was_among}
use Rattle.fb_search.proofs.RingRoles.{minus_still_among, plus_was_among, role_here, set_here}
use Rattle.fb_search.proofs.RolesAmong.{minus_among}
use Rattle.fb_search.proofs.ScopeWalks.{scoped}
use Rattle.fb_search.proofs.WaitingNames.{linked_roots, waiting_distinct, waits_unmatched}
use Rattle.fb_search.proofs.WaitingStates.{waiting_read}

-- the trees with these nodes of one of them as one blossom
abbrev pub closed_growing : GrowingValue → ℕ → Grown → ℕ → List ℕ → List (Option blossoms.Node) → MatchingValue → Watched
    → GrowingValue
closed_growing w t g name gone store matching watched = record {
  part = record w.part { nodes = joined_nodes name gone w.part.nodes; store = store; matching = matching };
  forest = set w.forest t (Some (replacements.joined_grown g gone name));
  watched = watched;
}

-- what is listed of a matching and of several trees: the others, the other trees' nodes, and the one tree's
along_listed : (xs ys : List Grown) (g : Grown) (unmatched beside matched : List ℕ) → IsPermutation unmatched (g.root ∷ beside)
    → IsPermutation ((unmatched ++ matched) ++ all_along (xs ++ g ∷ ys))
    (((beside ++ matched) ++ all_along (xs ++ ys)) ++ tree_names g.root g.branches)
along_listed xs ys g unmatched beside matched root_in =
    IsPermutation-trans ((unmatched ++ matched) ++ all_along (xs ++ g ∷ ys)) ((unmatched ++ matched) ++ (own ++ others))
    (((beside ++ matched) ++ others) ++ names)
    (IsPermutation-append_right (unmatched ++ matched) (all_along (xs ++ g ∷ ys)) (own ++ others) (along_first xs ys g))
    (subst (λ l. IsPermutation l (((beside ++ matched) ++ others) ++ names)) (append_assoc (unmatched ++ matched) own others)
    (IsPermutation-trans (((unmatched ++ matched) ++ own) ++ others) (((beside ++ matched) ++ names) ++ others)
    (((beside ++ matched) ++ others) ++ names)
    (IsPermutation-append_left others ((unmatched ++ matched) ++ own) ((beside ++ matched) ++ names)
    (tree_listed unmatched beside matched g.root g.branches root_in))
    (subst (IsPermutation (((beside ++ matched) ++ names) ++ others)) (sym (append_assoc (beside ++ matched) others names))
    (subst (λ l. IsPermutation l ((beside ++ matched) ++ (others ++ names))) (sym (append_assoc (beside ++ matched) names others))
    (IsPermutation-append_right (beside ++ matched) (names ++ others) (others ++ names) (IsPermutation-append_comm names others))))))
  where
    own : List ℕ
    own = nodes_along g.branches

    others : List ℕ
    others = all_along (xs ++ ys)

    names : List ℕ
    names = tree_names g.root g.branches

-- the links of all trees, those of one of them first
pub ids_listed : (xs ys : List Grown) (g : Grown) (matches rings : List ℕ)
    → IsPermutation (grown_ids (xs ++ g ∷ ys) ++ (matches ++ rings))
    (tree_links g.branches ++ ((grown_ids (xs ++ ys) ++ matches) ++ rings))
ids_listed xs ys g matches rings =
    subst (λ l. IsPermutation (grown_ids (xs ++ g ∷ ys) ++ (matches ++ rings)) (tree_links g.branches ++ l))
    (sym (append_assoc (grown_ids (xs ++ ys)) matches rings))
    (subst (IsPermutation (grown_ids (xs ++ g ∷ ys) ++ (matches ++ rings)))
    (append_assoc (tree_links g.branches) (grown_ids (xs ++ ys)) (matches ++ rings))
    (IsPermutation-append_left (matches ++ rings) (grown_ids (xs ++ g ∷ ys)) (tree_links g.branches ++ grown_ids (xs ++ ys))
    (ids_first xs ys g)))

module _ (w : GrowingValue) (a b closing : ℕ) (closes : ClosesIn w a b closing) (steps : List CycleStep)
    (is : IsCycle closes.grown a b closing steps) (name : ℕ) (store : List (Option blossoms.Node))
    (adds : Adds w.part.store store name (blossoms.blossom w.part.store steps)) where
  abbrev t : ℕ
  t = closes.tree

  abbrev g : Grown
  g = closes.grown

  abbrev s : SearchState
  s = own_state w closes.grown closes.growing.state.0

  abbrev cycle : List ℕ
  cycle = cycle_from closes.grown.root is.shared is.up is.down

  abbrev Before : List Grown
  Before = trees_before w.forest closes.tree

  abbrev After : List Grown
  After = trees_after w.forest closes.tree

  abbrev Joined : Grown
  Joined = replacements.joined_grown closes.grown cycle name

  -- no node had the blossom's name
  pub ring_new : is_live w.part.nodes name ≡ false
  ring_new = closes.growing.agreed.live name ∙ ap (λ (o : Option blossoms.Node). is_some o) adds.fresh

  may : MayClose (problem_in w.part) s name a b (link_by w.part.links closing)
  may = may_close w.part g closes.growing.state.0 a b closing (ring_closes w a b closing closes) name s.rest ring_new

  in_tree : (n : ℕ) → is_in cycle n ≡ true → is_in (tree_names closes.grown.root closes.grown.branches) n ≡ true
  in_tree =
      cycle_within (problem_in w.part) s w.part.links g.branches refl name a b closing is.shared is.up is.down may is.paths
      (ring_closes w a b closing closes).rest (ring_closes w a b closing closes).nest (ring_closes w a b closing closes).search

  module _ (matching : MatchingValue)
      (listed : IsReplacedBy closes.grown.root (renamed_name (is_in cycle) name closes.grown.root) w.part.matching matching)
      (watched : Watched) (limits : IsWithinLimits (problem_in w.part))
      (watches : WatchesMinusBy (problem_in w.part) w.part.nodes (role_among w.forest) cycle w.watched watched)
      (below : All (λ k. k < watched.edge_count) watched.edges) where
    -- with the matches as they were
    abbrev kept : MatchingValue
    kept = record { matches = w.part.matching.matches; unmatched = matching.unmatched }

    abbrev after : GrowingValue
    after = closed_growing w closes.tree closes.grown name cycle store kept watched

    -- of the unmatched nodes the root alone may be on the cycle
    others_out : (n : ℕ) → is_in listed.beside n ≡ true → is_in cycle n ≡ false
    others_out n beside = false_from_ne_true (is_in cycle n) (λ on. clash (in_tree n on))
      where
        names : List ℕ
        names = tree_names closes.grown.root closes.grown.branches

        outside : List ℕ
        outside = (listed.beside ++ matched_names w.part.matching.matches) ++ all_along (Before ++ After)

        distinct : AreDistinct (outside ++ names)
        distinct =
            distinct_permuted (listed_names w.part.matching ++ all_along (Before ++ g ∷ After)) (outside ++ names)
            (along_listed Before After g w.part.matching.unmatched listed.beside (matched_names w.part.matching.matches) listed.was)
            (subst (λ ts. AreDistinct (listed_names w.part.matching ++ all_along ts)) (trees_split w.forest t g closes.at)
            closes.growing.matching.distinct)

        clash : is_in (tree_names closes.grown.root closes.grown.branches) n ≡ true → ⊥
        clash there =
            both_ways (is_in names n)
            (distinct_across outside names n distinct
            (is_in-left (listed.beside ++ matched_names w.part.matching.matches) (all_along (Before ++ After)) n
            (is_in-left listed.beside (matched_names w.part.matching.matches) n beside)))
            there

    matching_after : IsMatchingOf (problem_in w.part) (joined_nodes name cycle w.part.nodes) w.part.links kept
        (all_along (trees_in after.forest))
    matching_after =
        subst (λ ts. IsMatchingOf (problem_in w.part) (joined_nodes name cycle w.part.nodes) w.part.links kept (all_along ts))
        (sym (trees_with w.forest t g Joined closes.at))
        (matching_ring (problem_in w.part) s w.part.links g.branches refl name a b closing is.shared is.up is.down may is.paths
        (ring_closes w a b closing closes).rest (ring_closes w a b closing closes).nest (ring_closes w a b closing closes).search
        w.part.matching (all_along (Before ++ g ∷ After))
        ((listed.beside ++ matched_names w.part.matching.matches) ++ all_along (Before ++ After))
        (subst (λ ts. IsMatchingOf (problem_in w.part) w.part.nodes w.part.links w.part.matching (all_along ts))
        (trees_split w.forest t g closes.at) closes.growing.matching)
        (along_listed Before After g w.part.matching.unmatched listed.beside (matched_names w.part.matching.matches) listed.was)
        kept (all_along (Before ++ Joined ∷ After)) refl
        (IsPermutation-sym (listed_names kept ++ all_along (Before ++ Joined ∷ After))
        (((listed.beside ++ matched_names w.part.matching.matches) ++ all_along (Before ++ After))
        ++ tree_names Joined.root Joined.branches)
        (along_listed Before After Joined matching.unmatched listed.beside (matched_names w.part.matching.matches)
        (IsPermutation-sym (Joined.root ∷ listed.beside) matching.unmatched listed.unmatched)))
        (λ n there.
        is_in-left (listed.beside ++ matched_names w.part.matching.matches) (all_along (Before ++ After)) n
        (is_in-right listed.beside (matched_names w.part.matching.matches) n there)))

    links_after : AreLinksOf (problem_in w.part) w.part.links
        (grown_ids (trees_in after.forest)
        ++ (match_links w.part.matching.matches ++ ring_links (joined_nodes name cycle w.part.nodes) store))
    links_after =
        subst
        (λ ts.
        AreLinksOf (problem_in w.part) w.part.links
        (grown_ids ts ++ (match_links w.part.matching.matches ++ ring_links (joined_nodes name cycle w.part.nodes) store)))
        (sym (trees_with w.forest t g Joined closes.at))
        (links_reordered (problem_in w.part) w.part.links (tree_links Joined.branches ++ (others ++ rings_after))
        (grown_ids (Before ++ Joined ∷ After) ++ (matches ++ rings_after))
        (IsPermutation-sym (grown_ids (Before ++ Joined ∷ After) ++ (matches ++ rings_after))
        (tree_links Joined.branches ++ (others ++ rings_after)) (ids_listed Before After Joined matches rings_after))
        (links_closed (problem_in w.part) s w.part.links g.branches refl name a b closing is.shared is.up is.down may is.paths
        (ring_closes w a b closing closes).rest (ring_closes w a b closing closes).nest (ring_closes w a b closing closes).search
        w.part.store store steps others is.nodes is.links adds
        (links_reordered (problem_in w.part) w.part.links (closing ∷ (grown_ids (Before ++ g ∷ After) ++ (matches ++ rings)))
        (closing ∷ (tree_links g.branches ++ (others ++ rings)))
        (IsPermutation-cons closing (grown_ids (Before ++ g ∷ After) ++ (matches ++ rings)) (tree_links g.branches ++ (others ++ rings))
        (ids_listed Before After g matches rings))
        (subst (λ ts. AreLinksOf (problem_in w.part) w.part.links (closing ∷ (grown_ids ts ++ (matches ++ rings))))
        (trees_split w.forest t g closes.at) closes.growing.links))))
      where
        matches : List ℕ
        matches = match_links w.part.matching.matches

        rings : List ℕ
        rings = ring_links w.part.nodes w.part.store

        rings_after : List ℕ
        rings_after = ring_links (joined_nodes name cycle w.part.nodes) store

        others : List ℕ
        others = grown_ids (Before ++ After) ++ match_links w.part.matching.matches

    -- the trees as the law has them after it
    abbrev by_law : SearchState
    by_law = joined_state name cycle (made_links s w.part.links name closing is.shared is.up is.down) s

    trees_are : before_by w closes.tree ++ tree_of by_law ∷ after_by w closes.tree
        ≡ map (tree_by w.part.links) (trees_in after.forest)
    trees_are =
        ap (λ u. before_by w t ++ u ∷ after_by w t)
        (λ i. record { root = Joined.root; branches = joined_moved (link_by w.part.links) (is_in cycle) name g.branches i })
        ∙ (sym (map-append (tree_by w.part.links) Before (Joined ∷ After))
        ∙ ap (map (tree_by w.part.links)) (sym (trees_with w.forest t g Joined closes.at)))

    state_by_law : IsForestState (problem_in w.part)
        (among_trees (before_by w closes.tree) (after_by w closes.tree) (waiting_in w) by_law)
    state_by_law =
        subst
        (λ c.
        IsForestState (problem_in w.part)
        (among_trees (before_by w t) (after_by w t) (waiting_in w)
        (joined_state name c (made_links s w.part.links name closing is.shared is.up is.down) s)))
        (same_cycle w.part.links g.root is.shared is.up is.down)
        (forest_state_closed (problem_in w.part) (before_by w t) (after_by w t) (waiting_in w) s name a b (link_by w.part.links closing)
        (map (entry_by w.part.links) is.shared) (map (entry_by w.part.links) is.up) (map (entry_by w.part.links) is.down) may
        (paths_of w.part.links s.tree g.branches refl a b is.shared is.up is.down is.paths) (ring_among w a b closing closes))

    unmatched_once : AreDistinct matching.unmatched
    unmatched_once =
        distinct_left matching.unmatched (matched_names w.part.matching.matches)
        (distinct_left (listed_names kept) (all_along (trees_in after.forest)) matching_after.distinct)

    same_unmatched : (n : ℕ) → is_in matching.unmatched n ≡ is_in (map (renamed_name (is_in cycle) name) w.part.matching.unmatched) n
    same_unmatched =
        same_permuted (map (renamed_name (is_in cycle) name) w.part.matching.unmatched) matching.unmatched
        (names_joined s w.part.links name closing is.shared is.up is.down listed.beside matching.unmatched listed.was others_out
        listed.unmatched)

    -- the same nodes wait
    waits_as_before : (n : ℕ) → is_in (waiting_in after) n ≡ is_in (waiting_in w) n
    waits_as_before =
        waiting_read (problem_in w.part) (among_trees (before_by w t) (after_by w t) (waiting_in w) by_law) (trees_in after.forest)
        matching.unmatched state_by_law (ap forest_roots trees_are ∙ linked_roots w.part.links (trees_in after.forest)) same_unmatched

    state_after : IsForestState (problem_in w.part) (forest_state_at after closes.growing.state.0)
    state_after =
        subst
        (λ ts.
        IsForestState (problem_in w.part)
        (record (among_trees (before_by w t) (after_by w t) (waiting_in w) by_law) {
          cycles = cycles_by w.part.links store;
          unmatched = matching.unmatched;
          waiting = waiting_in after;
          trees = ts;
        }))
        trees_are
        (forest_state_relisted (problem_in w.part) (among_trees (before_by w t) (after_by w t) (waiting_in w) by_law)
        (cycles_by w.part.links store) matching.unmatched (waiting_in after)
        (λ n live.
        links_stored s w.part.links name closing is.shared is.up is.down w.part.store store steps (λ n. refl) is.links adds n)
        unmatched_once
        same_unmatched (waiting_distinct after unmatched_once) waits_as_before state_by_law)

    agreed : AreAgreed (joined_nodes name cycle w.part.nodes) store
    agreed =
        subst (λ gone. AreAgreed (joined_nodes name gone w.part.nodes) store) is.nodes
        (agreed_joined w.part.nodes w.part.store store name steps closes.growing.agreed
        (steps_join w.part g closes.growing.state.0 a b closing (ring_closes w a b closing closes) steps is name ring_new) adds)

    made : is_outer (joined_nodes name cycle w.part.nodes) name ≡ true
    made =
        outer_made (problem_in w.part) s w.part.links g.branches refl name a b closing is.shared is.up is.down may is.paths
        (ring_closes w a b closing closes).rest (ring_closes w a b closing closes).nest (ring_closes w a b closing closes).search

    may_join : MayJoin w.part.nodes name cycle
    may_join =
        subst (MayJoin w.part.nodes name) is.nodes
        (steps_join w.part g closes.growing.state.0 a b closing (ring_closes w a b closing closes) steps is name ring_new)

    ring_kept : IsGrowing after
    ring_kept = record {
      job = closes.growing.job;
      slot = closes.growing.slot;
      node = closes.growing.node;
      state = (closes.growing.state.0, state_after);
      agreed = agreed;
      links = links_after;
      matching = matching_after;
      room = watches.room ∙ closes.growing.room;
      watch =
          watch_joined (problem_in w.part) w.part.nodes (role_among w.forest) (role_among after.forest) name cycle w.watched watched
          limits closes.growing.state.1.nest.dual.names closes.growing.state.1.nest.dual.apart state_after.nest.dual.apart made
          may_join (λ n child. role_here w.forest t g closes.at n (in_tree n child)) (plus_was_among w.forest t g closes.at cycle name)
          (minus_still_among w.forest t g closes.at cycle name) watches closes.growing.watch
          (subst (λ n. All (λ k. k < n) watched.edges) (watches.room ∙ closes.growing.room) below);
      bounds =
          bounded_joined (problem_in w.part) w.part.nodes (role_among w.forest) (role_among after.forest) name cycle w.watched watched
          limits closes.growing.state.1.nest.dual.names closes.growing.state.1.nest.dual.apart state_after.nest.dual.apart made
          may_join (λ n child. role_here w.forest t g closes.at n (in_tree n child)) (plus_was_among w.forest t g closes.at cycle name)
          (minus_still_among w.forest t g closes.at cycle name) watches
          (height (problem_in w.part) w.part.nodes name cycle may_join closes.growing.state.1.nest) closes.growing.bounds;
      minus =
          minus_joined (roles_among w.forest) (roles_among after.forest) name cycle w.part.nodes w.watched watched watches.minus
          (minus_was_among w.forest t g closes.at (all_are w closes.growing.state.0 closes.growing.state.1).exclusive cycle name)
          (λ minus.
          both_ways (is_live w.part.nodes name) ring_new
          (minus_live w closes.growing.state.0 closes.growing.state.1 name (minus_among w.forest name minus)))
          closes.growing.minus;
    }

    roles_before : forest_roles (before_by w closes.tree ++ tree_of s ∷ after_by w closes.tree) ≡ all_roles (trees_in w.forest)
    roles_before =
        ap forest_roles
        (sym (map-append (tree_by w.part.links) Before (g ∷ After))
        ∙ ap (map (tree_by w.part.links)) (sym (trees_split w.forest t g closes.at)))
        ∙ roles_numbers w.part.links (trees_in w.forest)

    less_after : IsLower
        (left_to_do (problem_in w.part) (joined_nodes name cycle w.part.nodes) (all_roles (trees_in after.forest)) true)
        (left_to_do (problem_in w.part) w.part.nodes (all_roles (trees_in w.forest)) false)
    less_after =
        subst
        (λ (r : Roles).
        IsLower
        (left_to_do (problem_in w.part) (joined_nodes name cycle w.part.nodes) (all_roles (trees_in after.forest)) true)
        (left_to_do (problem_in w.part) w.part.nodes r false))
        roles_before
        (subst
        (λ (r : Roles).
        IsLower (left_to_do (problem_in w.part) (joined_nodes name cycle w.part.nodes) r true)
        (left_to_do (problem_in w.part) w.part.nodes
        (forest_roles (before_by w closes.tree ++ tree_of s ∷ after_by w closes.tree)) false))
        (ap forest_roles trees_are ∙ roles_numbers w.part.links (trees_in after.forest))
        (subst
        (λ c.
        IsLower
        (left_to_do (problem_in w.part) (joined_nodes name c w.part.nodes)
        (forest_roles
        (before_by w t
        ++ tree_of (joined_state name c (made_links s w.part.links name closing is.shared is.up is.down) s) ∷ after_by w t)) true)
        (left_to_do (problem_in w.part) w.part.nodes (forest_roles (before_by w t ++ tree_of s ∷ after_by w t)) false))
        (same_cycle w.part.links g.root is.shared is.up is.down)
        (forest_closed_less (problem_in w.part) (before_by w t) (after_by w t) (waiting_in w) s name a b (link_by w.part.links closing)
        (map (entry_by w.part.links) is.shared) (map (entry_by w.part.links) is.up) (map (entry_by w.part.links) is.down) false true
        may (paths_of w.part.links s.tree g.branches refl a b is.shared is.up is.down is.paths) (ring_among w a b closing closes))))

    ring_grows : GrowsOn w after
    ring_grows = record {
      grown = record {
        part = record { job = refl; slot = refl; node = refl };
        waits = λ n waits. sym (waits_as_before n) ∙ waits;
        kept = λ n waits.
            named_before n (blossom name cycle w.part.nodes) w.part.nodes
            (closes.growing.state.1.names.live n (waits_unmatched w n (sym (waits_as_before n) ∙ waits)));
        least = omega (arith, same, trees);
        most = omega (arith, same, trees);
      };
      less = inr (count, less_after);
    }
      where
        same : length matching.unmatched ≡ length w.part.matching.unmatched
        same =
            length_permutation (Joined.root ∷ listed.beside) matching.unmatched listed.unmatched
            ∙ length_permutation w.part.matching.unmatched (g.root ∷ listed.beside) listed.was

        trees : length (trees_in (set w.forest t (Some Joined))) ≡ length (trees_in w.forest)
        trees = as_many w.forest t g Joined closes.at

        count : length matching.unmatched ≤ length w.part.matching.unmatched
        count = omega (arith, same)

    pub ring_both : IsGrowing (closed_growing w closes.tree closes.grown name cycle store matching watched)
        × GrowsOn w (closed_growing w closes.tree closes.grown name cycle store matching watched)
    ring_both =
        subst
        (λ ms.
        IsGrowing
        (closed_growing w t g name cycle store (record { matches = ms; unmatched = matching.unmatched }) watched)
        × GrowsOn w
        (closed_growing w t g name cycle store (record { matches = ms; unmatched = matching.unmatched }) watched))
        (sym listed.matches) (ring_kept, ring_grows)

  module _ (gone : List ℕ) (same : gone ≡ nodes_of steps) (link : ℕ) (forest : List (Option Grown))
      (replaced : IsReplacedIn w.forest gone (record { node = name; link = link } ∷ []) closes.tree closes.grown forest) where
    tree_is : replaced.after ≡ replacements.joined_grown closes.grown gone name
    tree_is =
        many_replaced closes.grown replaced.after gone (record { node = name; link = link })
        (subst (λ ns. 3 ≤ length ns) (sym same)
        (steps_join w.part g closes.growing.state.0 a b closing (ring_closes w a b closing closes) steps is name ring_new).many.three)
        replaced.replaced

    pub forest_is : forest ≡ set w.forest closes.tree (Some (replacements.joined_grown closes.grown gone name))
    forest_is = replaced.new_is ∙ ap (λ h. set w.forest closes.tree (Some h)) tree_is

    -- the tree's number is still its number
    pub tree_now : tree_at forest closes.tree ≡ Some (replacements.joined_grown closes.grown gone name)
    tree_now = ap (λ f. tree_at f closes.tree) forest_is ∙ set_here w.forest closes.tree closes.grown _ closes.at

    -- the root's name after it isn't listed yet, if it is another one
    pub ring_root_new : (new : ℕ) → new ≡ renamed_name (is_in gone) name closes.grown.root → new ≢ closes.grown.root
        → is_in (listed_names w.part.matching) new ≡ false
    ring_root_new new named =
        subst (λ n. n ≢ closes.grown.root → is_in (listed_names w.part.matching) n ≡ false) (sym named)
        (root_unlisted w.part g closes.growing.state.0 a b closing (ring_closes w a b closing closes) name gone ring_new)

    -- What the trees are after it grows on.
    pub ring_made : (scope : NodeScope) → IsScopeOf scope w.part → IsWithinLimits (scoped scope)
        → (matching : MatchingValue) (new : ℕ) → new ≡ renamed_name (is_in gone) name closes.grown.root
        → IsReplacedBy closes.grown.root new w.part.matching matching → (watched : Watched)
        → WatchesMinusBy (scoped scope) w.part.nodes (role_among w.forest) gone w.watched watched
        → All (λ k. k < watched.edge_count) watched.edges
        → IsGrowing (record (closed_growing w closes.tree closes.grown name gone store matching watched) { forest = forest })
        × GrowsOn w (record (closed_growing w closes.tree closes.grown name gone store matching watched) { forest = forest })
    ring_made scope own limits matching new named listed watched watches below =
        subst
        (λ f.
        IsGrowing (record (closed_growing w closes.tree closes.grown name gone store matching watched) { forest = f })
        × GrowsOn w (record (closed_growing w closes.tree closes.grown name gone store matching watched) { forest = f }))
        (sym forest_is)
        (subst
        (λ ns.
        IsReplacedBy closes.grown.root (renamed_name (is_in ns) name closes.grown.root) w.part.matching matching
        → WatchesMinusBy (problem_in w.part) w.part.nodes (role_among w.forest) ns w.watched watched
        → IsGrowing (closed_growing w closes.tree closes.grown name ns store matching watched)
        × GrowsOn w (closed_growing w closes.tree closes.grown name ns store matching watched))
        (sym (same ∙ is.nodes))
        (λ listed watches.
        ring_both matching listed watched
        (kept_limits w.part (scope_graph scope) scope.plan.now scope.node own.graph own.plan own.node limits) watches below)
        (subst (λ n. IsReplacedBy closes.grown.root n w.part.matching matching) named listed)
        (watches_minus w.part (scope_graph scope) scope.plan.now scope.node w.part.nodes (role_among w.forest) gone w.watched watched
        own.graph watches))
