-- A minus blossom of one of several trees that is opened keeps what is kept while trees grow, and leaves less to do.
use Rattle.std.proofs.Common.{ℕ, ◌≡◌, ◌≢◌, ◌⊎◌, inl, inr, true, false, List, [], ◌∷◌, ◌++◌, map, set, length, All, Option, Some, refl, sym, ap, ◌∙◌, subst, append_assoc, le_refl, arith}
use Rattle.std.specs.List.Sorted.{IsPermutation}
use Rattle.std.proofs.lemmas.Bool.{both_ways, false_from_ne_true}
use Rattle.std.proofs.lemmas.List.{map-append}
use Rattle.std.proofs.lemmas.List.Concat.{flat_map-append}
use Rattle.std.proofs.lemmas.List.Elements.{All-append, All-cons, All-nil}
use Rattle.std.proofs.lemmas.List.Sorted.{IsPermutation-append_comm, IsPermutation-append_left, IsPermutation-append_right, IsPermutation-map, IsPermutation-refl, IsPermutation-sym, IsPermutation-trans}
use Rattle.fb_graph.specs.Parity.{is_in}
use Rattle.fb_graph.specs.Certificate.{AreDistinct}
use Rattle.fb_graph.specs.Dual.{is_live, is_outer, top_at}
use Rattle.fb_graph.proofs.Members.{distinct_left}
use Rattle.fb_graph.specs.Limits.{IsWithinLimits}
use Rattle.fb_graph.specs.Moves.{split_nodes}
use Rattle.fb_graph.specs.Steps.{Roles}
use Rattle.fb_graph.proofs.Among.{live_among}
use Rattle.fb_graph.proofs.Floods.{is_in-left, is_in-right}
use Rattle.fb_graph.proofs.Nodes.{All-left, All-right}
use Rattle.fb_graph.proofs.Places.{among_split}
use Rattle.fb_links.specs.declared.cycle.CycleStep.{CycleStep}
use Rattle.fb_links.proofs.MovedLinks.{Table}
use Rattle.fb_blossoms.specs.Nodes.{cycle_of}
use Rattle.fb_blossoms.specs.Nodes as blossoms
use Rattle.fb_laws.specs.Forests.{forest_roles}
use Rattle.fb_laws.specs.ForestStates.{IsForestState, among_trees, tree_of}
use Rattle.fb_laws.specs.LinkNumbers.{tree_links}
use Rattle.fb_laws.specs.Measures.{IsLower}
use Rattle.fb_laws.specs.PartStates.{SearchState}
use Rattle.fb_laws.specs.SearchLayers.{left_to_do}
use Rattle.fb_laws.specs.StateOpenings.{opened_state}
use Rattle.fb_laws.specs.StateOrders.{AgreeAt}
use Rattle.fb_laws.specs.TreeCycles.{nodes_along}
use Rattle.fb_laws.specs.Trees.{EntryOf, minus_names, plus_names}
use Rattle.fb_laws.proofs.ForestMeasures.{forest_opened_less}
use Rattle.fb_laws.proofs.ForestOpenings.{forest_state_opened}
use Rattle.fb_laws.proofs.OpenedBlossoms.{distinct_permuted, same_permuted}
use Rattle.fb_laws.proofs.SearchStates.{named_set}
use Rattle.fb_laws.specs.Works.{IsSetOf}
use Rattle.fb_laws.proofs.ForestParts.{forest_state_permuted, forest_state_relisted}
use Rattle.fb_half.specs.declared.matches.Match.{Match}
use Rattle.fb_half.specs.declared.seams.Seams.{Seams}
use Rattle.fb_half.specs.Seams.{AreListed, IsListed}
use Rattle.fb_half.specs.Matchings.{IsMatchingOf, listed_names, match_links, matched_names, names_of}
use Rattle.fb_half.specs.Parts.{AreLinksOf, problem_in}
use Rattle.fb_half.specs.Translations.{cycles_by, entry_by, link_by, ring_at, ring_links}
use Rattle.fb_regions.specs.declared.roles.Role.TheVariants.{Minus}
use Rattle.fb_trees.specs.Branches.{Grown}
use Rattle.fb_trees.specs.Forests.{IsOutside, MayReplaceIn, all_minus, all_plus, all_roles, role_among, tree_at, trees_in}
use Rattle.fb_trees.specs.Replacements.{way_of}
use Rattle.fb_trees.specs.Rooted.{is_node}
use Rattle.fb_trees.proofs.ForestsCounted.{as_many}
use Rattle.fb_trees.proofs.Mapped.{names_moved, opened_moved}
use Rattle.fb_trees.proofs.Names.{minus_in_names}
use Rattle.fb_regions.specs.Paces.{grows, shrinks}
use Rattle.fb_obstacles.specs.Obstacles.{IsWatched, slack_at}
use Rattle.fb_obstacles.specs.Watched.{AreBounded, Watched}
use Rattle.fb_search.specs.InternalEndings.{beside_match}
use Rattle.fb_search.specs.InternalGrowing.{GrowingValue, IsGrowing, all_along, forest_state_at, grown_ids, roles_among, tree_by, waiting_in}
use Rattle.fb_search.specs.InternalGrowth.{GrowsOn}
use Rattle.fb_search.specs.InternalOpenings.{EntersWay, couples_on}
use Rattle.fb_search.specs.InternalSearching.{SearchValue}
use Rattle.fb_search.proofs.Agreed.{agreed_split}
use Rattle.fb_search.proofs.ForestPlaces.{after_by, before_by, minus_either, minus_more, own_state, plus_either, plus_more, trees_after, trees_before, trees_beside, trees_split, trees_with}
use Rattle.fb_search.proofs.GrowingRoles.{all_are, minus_live, roles_numbers}
use Rattle.fb_search.proofs.KeptNodes.{named_split}
use Rattle.fb_search.proofs.Linked.{links_reordered}
use Rattle.fb_search.proofs.OpenedConditions.{couples_fresh, inner, rest, way, way_named, way_opens, way_within}
use Rattle.fb_search.proofs.OpenedLinks.{AreSameLinks, entries_same, links_same, ring_among}
use Rattle.fb_search.proofs.OpenedMatchings.{matching_opened, opened_listed}
use Rattle.fb_search.proofs.OpenedMinus.{minus_reopened}
use Rattle.fb_search.proofs.ListedSteps.{Lists, no_second}
use Rattle.fb_search.proofs.OpenedNumbers.{branches_are, links_after, links_kept_all}
use Rattle.fb_search.proofs.OpenedStates.{couples, law_cycle, may_split, moved, passes, tree_was}
use Rattle.fb_search.proofs.OpenedWatches.{bounded_split, minus_now, plus_was, watch_split}
use Rattle.fb_search.proofs.OpenedWays.{couples_links}
use Rattle.fb_search.proofs.Openings.{HasOpened, IsOpening, Opens}
use Rattle.fb_search.proofs.RingRoles.{minus_own, plus_here}
use Rattle.fb_search.proofs.RolesAmong.{minus_among, minus_not_plus_among, plus_among, role_minus_among, role_plus_among}
use Rattle.fb_search.proofs.TreesAlone.{IsKeptMatch, alone, alone_ids, alone_names, among_others, only_grown, opening_among, relisted, tree_matches}
use Rattle.fb_search.proofs.WaitingApart.{waiting_no_minus}
use Rattle.fb_search.proofs.WaitingNames.{roots_kept, waiting_distinct, waiting_same}

-- trees whose links stay
trees_kept : (old new : Table) (gs : List Grown) → AreSameLinks old new (grown_ids gs) → map (tree_by new) gs ≡ map (tree_by old) gs
trees_kept old new [] same = refl
trees_kept old new (g ∷ gs) same =
    (λ i.
    record {
      root = g.root;
      branches = entries_same old new g.branches (λ k there. same k (is_in-left (tree_links g.branches) (grown_ids gs) k there)) i;
    }
    ∷ trees_kept old new gs (λ k there. same k (is_in-right (tree_links g.branches) (grown_ids gs) k there)) i)

-- the last of three lists before the second one
swapped : {X : Type 0} (xs ys zs : List X) → IsPermutation ((xs ++ ys) ++ zs) ((xs ++ zs) ++ ys)
swapped xs ys zs =
    subst (λ l. IsPermutation l ((xs ++ zs) ++ ys)) (sym (append_assoc xs ys zs))
    (subst (IsPermutation (xs ++ (ys ++ zs))) (sym (append_assoc xs zs ys))
    (IsPermutation-append_right xs (ys ++ zs) (zs ++ ys) (IsPermutation-append_comm ys zs)))

module _ (w : GrowingValue) (t : ℕ) (g : Grown) (at : tree_at w.forest t ≡ Some g) (are : IsGrowing w) (name : ℕ)
    (e : EntryOf ℕ) (above below : ℕ) (opens : Opens (alone w t g) name e above below) (links : Table)
    (store : List (Option blossoms.Node)) (tree : Grown) (watched : Watched)
    (has : HasOpened (alone w t g) name above below links store tree watched) where
  abbrev It : SearchValue
  It = alone w t g

  pub is : IsOpening (only_grown (trees_beside w.forest t)) (alone w t g)
  is = opening_among w t g at are

  abbrev Way : List CycleStep
  Way = way It name e above below is opens

  abbrev Rest : List CycleStep
  Rest = rest It name e above below is opens

  abbrev Before : List Grown
  Before = trees_before w.forest t

  abbrev After : List Grown
  After = trees_after w.forest t

  -- the trees afterwards
  abbrev pub opened_growing : GrowingValue
  opened_growing = record {
    part = record w.part {
      nodes = split_nodes name w.part.nodes;
      links = links;
      store = store;
      matching = record { matches = w.part.matching.matches ++ couples_on Rest; unmatched = w.part.matching.unmatched };
    };
    forest = set w.forest t (Some tree);
    watched = watched;
  }

  abbrev matches_now : List Match
  matches_now = w.part.matching.matches ++ couples_on Rest

  abbrev rings : List ℕ
  rings = ring_links (split_nodes name w.part.nodes) store

  abbrev foreign : List Match
  foreign = tree_matches (trees_beside w.forest t)

  numbers : IsPermutation
      (only_grown (Before ++ After)
      ++ (tree_links tree.branches ++ (match_links ((w.part.matching.matches ++ foreign) ++ couples_on Rest) ++ rings)))
      (grown_ids (Before ++ tree ∷ After) ++ (match_links matches_now ++ rings))
  numbers =
      IsPermutation-trans
      (only_grown (Before ++ After)
      ++ (tree_links tree.branches ++ (match_links ((w.part.matching.matches ++ foreign) ++ couples_on Rest) ++ rings)))
      (only_grown (Before ++ After) ++ (tree_links tree.branches ++ ((match_links matches_now ++ match_links foreign) ++ rings)))
      (grown_ids (Before ++ tree ∷ After) ++ (match_links matches_now ++ rings))
      (IsPermutation-append_right (only_grown (Before ++ After))
      (tree_links tree.branches ++ (match_links ((w.part.matching.matches ++ foreign) ++ couples_on Rest) ++ rings))
      (tree_links tree.branches ++ ((match_links matches_now ++ match_links foreign) ++ rings))
      (IsPermutation-append_right (tree_links tree.branches)
      (match_links ((w.part.matching.matches ++ foreign) ++ couples_on Rest) ++ rings)
      ((match_links matches_now ++ match_links foreign) ++ rings)
      (IsPermutation-append_left rings (match_links ((w.part.matching.matches ++ foreign) ++ couples_on Rest))
      (match_links matches_now ++ match_links foreign)
      (subst (IsPermutation (match_links ((w.part.matching.matches ++ foreign) ++ couples_on Rest)))
      (map-append (λ m. m.link) matches_now foreign)
      (IsPermutation-map (λ (m : Match). m.link) ((w.part.matching.matches ++ foreign) ++ couples_on Rest) (matches_now ++ foreign)
      (swapped w.part.matching.matches foreign (couples_on Rest)))))))
      (IsPermutation-sym (grown_ids (Before ++ tree ∷ After) ++ (match_links matches_now ++ rings))
      (only_grown (Before ++ After) ++ (tree_links tree.branches ++ ((match_links matches_now ++ match_links foreign) ++ rings)))
      (alone_ids Before After tree (match_links matches_now) rings))

  links_now : AreLinksOf (problem_in w.part) links (grown_ids (trees_in opened_growing.forest) ++ (match_links matches_now ++ rings))
  links_now =
      subst (λ ts. AreLinksOf (problem_in w.part) links (grown_ids ts ++ (match_links matches_now ++ rings)))
      (sym (trees_with w.forest t g tree at))
      (links_reordered (problem_in w.part) links _ (grown_ids (Before ++ tree ∷ After) ++ (match_links matches_now ++ rings)) numbers
      (links_after It name e above below is opens links store tree watched has))

  -- the links that are kept lead as before
  same_links : AreSameLinks w.part.links links (grown_ids (Before ++ tree ∷ After) ++ (match_links matches_now ++ rings))
  same_links k there =
      links_kept_all It name e above below is opens links store tree watched has k
      (sym
      (same_permuted _ (grown_ids (Before ++ tree ∷ After) ++ (match_links matches_now ++ rings)) numbers k)
      ∙ there)

  matching_now : IsMatchingOf (problem_in w.part) (split_nodes name w.part.nodes) links opened_growing.part.matching
      (all_along (trees_in opened_growing.forest))
  matching_now =
      subst
      (λ ts.
      IsMatchingOf (problem_in w.part) (split_nodes name w.part.nodes) links opened_growing.part.matching (all_along ts))
      (sym (trees_with w.forest t g tree at))
      (relisted (problem_in w.part) (split_nodes name w.part.nodes) links
      (record { matches = (w.part.matching.matches ++ foreign) ++ couples_on Rest; unmatched = w.part.matching.unmatched })
      opened_growing.part.matching (nodes_along tree.branches) (all_along (Before ++ tree ∷ After)) was
      (IsPermutation-trans
      ((w.part.matching.unmatched ++ matched_names ((w.part.matching.matches ++ foreign) ++ couples_on Rest)) ++ nodes_along tree.branches)
      ((w.part.matching.unmatched ++ matched_names (matches_now ++ foreign)) ++ nodes_along tree.branches)
      ((w.part.matching.unmatched ++ matched_names matches_now) ++ all_along (Before ++ tree ∷ After))
      (IsPermutation-append_left (nodes_along tree.branches)
      (w.part.matching.unmatched ++ matched_names ((w.part.matching.matches ++ foreign) ++ couples_on Rest))
      (w.part.matching.unmatched ++ matched_names (matches_now ++ foreign))
      (IsPermutation-append_right w.part.matching.unmatched (matched_names ((w.part.matching.matches ++ foreign) ++ couples_on Rest))
      (matched_names (matches_now ++ foreign)) names))
      (IsPermutation-sym ((w.part.matching.unmatched ++ matched_names matches_now) ++ all_along (Before ++ tree ∷ After))
      ((w.part.matching.unmatched ++ matched_names (matches_now ++ foreign)) ++ nodes_along tree.branches)
      (alone_names Before After tree w.part.matching.unmatched matches_now)))
      (All-append Kept w.part.matching.matches (couples_on Rest)
      (All-left Kept w.part.matching.matches foreign
      (All-left Kept (w.part.matching.matches ++ foreign) (couples_on Rest) was.connects))
      (All-right Kept (w.part.matching.matches ++ foreign) (couples_on Rest) was.connects)))
    where
      Kept : Match → Type 0
      Kept = IsKeptMatch (problem_in w.part) (split_nodes name w.part.nodes) links

      was : IsMatchingOf (problem_in w.part) (split_nodes name w.part.nodes) links
          (record { matches = (w.part.matching.matches ++ foreign) ++ couples_on Rest; unmatched = w.part.matching.unmatched })
          (nodes_along tree.branches)
      was = matching_opened It name e above below is opens links store tree watched has

      names : IsPermutation (matched_names ((w.part.matching.matches ++ foreign) ++ couples_on Rest))
          (matched_names (matches_now ++ foreign))
      names =
          subst (λ l. IsPermutation l (matched_names (matches_now ++ foreign)))
          (sym
          (flat_map-append names_of (w.part.matching.matches ++ foreign) (couples_on Rest)
          ∙ ap (λ l. l ++ matched_names (couples_on Rest)) (flat_map-append names_of w.part.matching.matches foreign)))
          (subst
          (IsPermutation
          ((matched_names w.part.matching.matches ++ matched_names foreign) ++ matched_names (couples_on Rest)))
          (sym
          (flat_map-append names_of matches_now foreign
          ∙ ap (λ l. l ++ matched_names foreign) (flat_map-append names_of w.part.matching.matches (couples_on Rest))))
          (swapped (matched_names w.part.matching.matches) (matched_names foreign) (matched_names (couples_on Rest))))

  abbrev by_law : SearchState
  by_law =
      opened_state (moved It name e above below is opens opens.branch.newer) (moved It name e above below is opens opens.branch.older)
      (entry_by w.part.links e) above (passes It name e above below is opens) (couples It name e above below is opens)
      (own_state w g are.state.0)

  state_by_law : IsForestState (problem_in w.part) (among_trees (before_by w t) (after_by w t) (waiting_in w) by_law)
  state_by_law =
      forest_state_opened (problem_in w.part) (before_by w t) (after_by w t) (waiting_in w) (own_state w g are.state.0)
      (moved It name e above below is opens opens.branch.newer) (moved It name e above below is opens opens.branch.older)
      (entry_by w.part.links e) above (passes It name e above below is opens) (couples It name e above below is opens)
      (tree_was It name e above below is opens) (may_split It name e above below is opens)
      (law_cycle It name e above below is opens) (among_others w t g at are)

  -- the trees, with their links as they were and as they are
  law_tree : by_law.tree ≡ map (entry_by w.part.links) tree.branches
  law_tree =
      opened_moved (link_by w.part.links) opens.branch.newer opens.branch.older e above (way_of Way)
      ∙ ap (map (entry_by w.part.links)) (sym (branches_are It name e above below is opens links store tree watched has))

  trees_then : before_by w t ++ tree_of by_law ∷ after_by w t ≡ map (tree_by w.part.links) (Before ++ tree ∷ After)
  trees_then =
      ap (λ u. before_by w t ++ u ∷ after_by w t)
      (λ i. record { root = sym has.grown.root i; branches = law_tree i })
      ∙ sym (map-append (tree_by w.part.links) Before (tree ∷ After))

  trees_now : before_by w t ++ tree_of by_law ∷ after_by w t ≡ map (tree_by links) (trees_in opened_growing.forest)
  trees_now =
      trees_then
      ∙ (sym
      (trees_kept w.part.links links (Before ++ tree ∷ After)
      (λ k there. same_links k (is_in-left (grown_ids (Before ++ tree ∷ After)) (match_links matches_now ++ rings) k there)))
      ∙ ap (map (tree_by links)) (sym (trees_with w.forest t g tree at)))

  rest_now : IsPermutation by_law.rest (map (link_by links) (match_links matches_now))
  rest_now =
      subst (λ l. IsPermutation l (map (link_by links) (match_links matches_now)))
      (ap (λ l. l ++ map (link_by w.part.links) (match_links w.part.matching.matches))
      (sym (couples_links (link_by w.part.links) (couples_on Rest))))
      (subst
      (IsPermutation
      (map (link_by w.part.links) (match_links (couples_on Rest)) ++ map (link_by w.part.links) (match_links w.part.matching.matches)))
      (sym (map-append (link_by w.part.links) (match_links w.part.matching.matches) (match_links (couples_on Rest)))
      ∙ (ap (map (link_by w.part.links)) (sym (map-append (λ m. m.link) w.part.matching.matches (couples_on Rest)))
      ∙ sym (links_same w.part.links links (match_links matches_now)
      (λ k there.
      same_links k
      (is_in-right (grown_ids (Before ++ tree ∷ After)) (match_links matches_now ++ rings) k
      (is_in-left (match_links matches_now) rings k there))))))
      (IsPermutation-append_comm (map (link_by w.part.links) (match_links (couples_on Rest)))
      (map (link_by w.part.links) (match_links w.part.matching.matches))))

  cycles_now : AgreeAt (split_nodes name w.part.nodes) (cycles_by w.part.links w.part.store) (cycles_by links store)
  cycles_now n live =
      let (m, a, named) = live_among (split_nodes name w.part.nodes) n live in
      let other : n ≢ name = λ same. (among_split name w.part.nodes m a).1 (named ∙ same) in
      links_same w.part.links links (ring_at store n)
      (λ k there.
      same_links k
      (is_in-right (grown_ids (Before ++ tree ∷ After)) (match_links matches_now ++ rings) k
      (is_in-right (match_links matches_now) rings k (ring_among (split_nodes name w.part.nodes) store n k live there))))
      ∙ ap (λ (o : Option blossoms.Node). map (link_by w.part.links) (map (λ c. c.link) (cycle_of o)))
      (has.taken_off.others n other)

  -- the same nodes wait
  waits_as_before : (n : ℕ) → is_in (waiting_in opened_growing) n ≡ is_in (waiting_in w) n
  waits_as_before =
      waiting_same w opened_growing (λ n. refl) (λ n. ap (λ l. is_in l n) (roots_kept w.forest t g at tree has.grown.root))

  state_now : IsForestState (problem_in w.part) (forest_state_at opened_growing are.state.0)
  state_now =
      subst
      (λ ts.
      IsForestState (problem_in w.part)
      (record {
        nodes = split_nodes name w.part.nodes;
        cycles = cycles_by links store;
        trees = ts;
        rest = map (link_by links) (match_links matches_now);
        unmatched = w.part.matching.unmatched;
        waiting = waiting_in opened_growing;
        parity = are.state.0;
      }))
      trees_now
      (forest_state_relisted (problem_in w.part)
      (record {
        nodes = split_nodes name w.part.nodes;
        cycles = cycles_by w.part.links w.part.store;
        trees = before_by w t ++ tree_of by_law ∷ after_by w t;
        rest = map (link_by links) (match_links matches_now);
        unmatched = w.part.matching.unmatched;
        waiting = waiting_in w;
        parity = are.state.0;
      })
      (cycles_by links store) w.part.matching.unmatched (waiting_in opened_growing) cycles_now are.state.1.names.distinct (λ n. refl)
      (waiting_distinct opened_growing are.state.1.names.distinct) waits_as_before
      (subst
      (λ n.
      IsForestState (problem_in w.part)
      (record {
        nodes = split_nodes n w.part.nodes;
        cycles = cycles_by w.part.links w.part.store;
        trees = before_by w t ++ tree_of by_law ∷ after_by w t;
        rest = map (link_by links) (match_links matches_now);
        unmatched = w.part.matching.unmatched;
        waiting = waiting_in w;
        parity = are.state.0;
      }))
      opens.branch.minus
      (forest_state_permuted (problem_in w.part) (among_trees (before_by w t) (after_by w t) (waiting_in w) by_law)
      (before_by w t ++ tree_of by_law ∷ after_by w t) (map (link_by links) (match_links matches_now))
      (IsPermutation-refl (before_by w t ++ tree_of by_law ∷ after_by w t)) rest_now state_by_law)))

  less_now : IsLower
      (left_to_do (problem_in w.part) (split_nodes name w.part.nodes) (all_roles (trees_in opened_growing.forest)) true)
      (left_to_do (problem_in w.part) w.part.nodes (all_roles (trees_in w.forest)) false)
  less_now =
      subst
      (λ (r : Roles).
      IsLower
      (left_to_do (problem_in w.part) (split_nodes name w.part.nodes) (all_roles (trees_in opened_growing.forest)) true)
      (left_to_do (problem_in w.part) w.part.nodes r false))
      (ap forest_roles
      (sym (map-append (tree_by w.part.links) Before (g ∷ After)) ∙ ap (map (tree_by w.part.links)) (sym (trees_split w.forest t g at)))
      ∙ roles_numbers w.part.links (trees_in w.forest))
      (subst
      (λ (r : Roles).
      IsLower (left_to_do (problem_in w.part) (split_nodes name w.part.nodes) r true)
      (left_to_do (problem_in w.part) w.part.nodes
      (forest_roles (before_by w t ++ tree_of (own_state w g are.state.0) ∷ after_by w t)) false))
      (ap forest_roles trees_now ∙ roles_numbers links (trees_in opened_growing.forest))
      (subst
      (λ n.
      IsLower
      (left_to_do (problem_in w.part) (split_nodes n w.part.nodes)
      (forest_roles (before_by w t ++ tree_of by_law ∷ after_by w t)) true)
      (left_to_do (problem_in w.part) w.part.nodes
      (forest_roles (before_by w t ++ tree_of (own_state w g are.state.0) ∷ after_by w t)) false))
      opens.branch.minus
      (forest_opened_less (problem_in w.part) (before_by w t) (after_by w t) (waiting_in w) (own_state w g are.state.0)
      (moved It name e above below is opens opens.branch.newer) (moved It name e above below is opens opens.branch.older)
      (entry_by w.part.links e) above (passes It name e above below is opens) (couples It name e above below is opens) false true
      (tree_was It name e above below is opens) (may_split It name e above below is opens)
      (law_cycle It name e above below is opens) (among_others w t g at are))))

  -- an outer node that is plus now was plus before
  plus_then : (n : ℕ) → is_outer w.part.nodes n ≡ true → is_in (all_plus (trees_in opened_growing.forest)) n ≡ true
      → is_in (all_plus (trees_in w.forest)) n ≡ true
  plus_then n outer plus =
      by (plus_either Before After tree n (ap (λ ts. is_in (all_plus ts) n) (sym (trees_with w.forest t g tree at)) ∙ plus))
    where
      by : (is_in (plus_names tree.root tree.branches) n ≡ true) ⊎ (is_in (all_plus (Before ++ After)) n ≡ true)
          → is_in (all_plus (trees_in w.forest)) n ≡ true
      by (inl own) =
          plus_here w.forest t g at n (plus_was It name e above below is opens links store tree watched has n outer own)
      by (inr beside) =
          ap (λ ts. is_in (all_plus ts) n) (trees_split w.forest t g at) ∙ plus_more Before After g n beside

  -- and one that was minus still is, but for the blossom
  minus_then : (n : ℕ) → n ≢ name → is_in (all_minus (trees_in w.forest)) n ≡ true
      → is_in (all_minus (trees_in opened_growing.forest)) n ≡ true
  minus_then n other minus =
      ap (λ ts. is_in (all_minus ts) n) (trees_with w.forest t g tree at)
      ∙ by (minus_either Before After g n (ap (λ ts. is_in (all_minus ts) n) (sym (trees_split w.forest t g at)) ∙ minus))
    where
      by : (is_in (minus_names g.branches) n ≡ true) ⊎ (is_in (all_minus (Before ++ After)) n ≡ true)
          → is_in (all_minus (Before ++ tree ∷ After)) n ≡ true
      by (inl own) =
          minus_own Before After tree n (minus_now It name e above below is opens links store tree watched has n other own)
      by (inr beside) = minus_more Before After tree n beside

  plus_before : (n : ℕ) → is_outer w.part.nodes n ≡ true → grows (role_among opened_growing.forest n) ≡ true
      → grows (role_among w.forest n) ≡ true
  plus_before n outer plus =
      role_plus_among w.forest n (plus_then n outer (plus_among opened_growing.forest n plus))

  minus_still : (n : ℕ) → is_outer w.part.nodes n ≡ true → n ≢ name → shrinks (role_among w.forest n) ≡ true
      → shrinks (role_among opened_growing.forest n) ≡ true
  minus_still n outer other minus =
      ap shrinks
      (role_minus_among opened_growing.forest n
      (false_from_ne_true (is_in (all_plus (trees_in opened_growing.forest)) n)
      (λ plus.
      both_ways (is_in (all_plus (trees_in w.forest)) n) (minus_not_plus_among w.forest n minus) (plus_then n outer plus)))
      (minus_then n other (minus_among w.forest n minus)))

  -- a minus node on the way is live
  pub ring_way_live : All
      (λ s. role_among (set w.forest t (Some tree)) s.node ≡ Minus → is_live (split_nodes name w.part.nodes) s.node ≡ true)
      (way (alone w t g) name e above below (opening_among w t g at are) opens)
  ring_way_live i d less minus =
      minus_live opened_growing are.state.0 state_now _ (minus_among opened_growing.forest _ (ap shrinks minus))

  -- the minus nodes on the way are watched from then on
  module _ (minus : shrinks (role_among w.forest name) ≡ true) (limits : IsWithinLimits (problem_in w.part)) (final : Watched)
      (enters : EntersWay (split_nodes name w.part.nodes) (role_among (set w.forest t (Some tree)))
      (way (alone w t g) name e above below (opening_among w t g at are) opens) watched final) where
    pub ring_opened : IsGrowing (record opened_growing { watched = final })
    ring_opened = record {
      job = are.job;
      slot = are.slot;
      node = are.node;
      state = (are.state.0, state_now);
      agreed = agreed_split w.part.nodes w.part.store store name are.agreed has.taken_off;
      links = links_now;
      matching = matching_now;
      room = ap (λ x. x.edge_count) enters.same ∙ (has.watches.room ∙ are.room);
      watch =
          subst (IsWatched (problem_in w.part) (roles_among opened_growing.forest) (split_nodes name w.part.nodes))
          (sym (ap (λ x. x.edges) enters.same))
          (watch_split It name e above below is opens links store tree watched has (role_among w.forest)
          (role_among opened_growing.forest) plus_before minus_still minus limits are.room are.watch);
      bounds =
          subst (AreBounded (slack_at (problem_in w.part) (roles_among opened_growing.forest) (split_nodes name w.part.nodes)))
          (sym enters.same)
          (bounded_split It name e above below is opens links store tree watched has (role_among w.forest)
          (role_among opened_growing.forest) plus_before minus_still minus are.bounds);
      minus =
          minus_reopened w.forest t g tree at (all_are w are.state.0 are.state.1).exclusive opens.branch.newer e opens.branch.older
          above Way opens.branch.there (branches_are It name e above below is opens links store tree watched has)
          (way_named It name e above below is opens) name w.part.nodes w.watched watched final state_now.nest.dual.names
          has.watches.minus enters are.minus;
    }

    pub ring_goes_on : GrowsOn w (record opened_growing { watched = final })
    ring_goes_on = record {
      grown = record {
        part = record { job = refl; slot = refl; node = refl };
        waits = λ n waits. sym (waits_as_before n) ∙ waits;
        kept = λ n waits.
            named_split name n (waiting_no_minus [] w are n (sym (waits_as_before n) ∙ waits) name minus) w.part.nodes;
        least = omega (arith, trees);
        most = omega (arith, trees);
      };
      less = inr (le_refl (length w.part.matching.unmatched), less_now);
    }
      where
        trees : length (trees_in (set w.forest t (Some tree))) ≡ length (trees_in w.forest)
        trees = as_many w.forest t g tree at

-- the couples are listed nowhere yet
pub ring_couples : (w : GrowingValue) (t : ℕ) (g : Grown) (at : tree_at w.forest t ≡ Some g) (are : IsGrowing w) (name : ℕ)
    (e : EntryOf ℕ) (above below : ℕ) (opens : Opens (alone w t g) name e above below)
    → AreDistinct
    (listed_names w.part.matching
    ++ matched_names (couples_on (rest (alone w t g) name e above below (opening_among w t g at are) opens)))
ring_couples w t g at are name e above below opens =
    distinct_left ((us ++ ms) ++ cs) fs
    (distinct_permuted ((us ++ matched_names (w.part.matching.matches ++ foreign)) ++ cs) (((us ++ ms) ++ cs) ++ fs)
    (subst (λ l. IsPermutation ((us ++ l) ++ cs) (((us ++ ms) ++ cs) ++ fs))
    (sym (flat_map-append names_of w.part.matching.matches foreign))
    (subst (λ l. IsPermutation (l ++ cs) (((us ++ ms) ++ cs) ++ fs)) (append_assoc us ms fs) (swapped (us ++ ms) fs cs)))
    (couples_fresh (alone w t g) name e above below (opening_among w t g at are) opens))
  where
    us : List ℕ
    us = w.part.matching.unmatched

    ms : List ℕ
    ms = matched_names w.part.matching.matches

    foreign : List Match
    foreign = tree_matches (trees_beside w.forest t)

    fs : List ℕ
    fs = matched_names foreign

    cs : List ℕ
    cs = matched_names (couples_on (rest (alone w t g) name e above below (opening_among w t g at are) opens))

-- no node that is inside a blossom is in a tree
pub inner_outside : (w : GrowingValue) → IsGrowing w → (n : ℕ) → is_outer w.part.nodes n ≡ false → IsOutside w.forest n
inner_outside w are n inner t g at =
    false_from_ne_true (is_node g n)
    (λ there.
    by
    (named_set (problem_in w.part) w.part.nodes (own_state w g are.state.0).tree (opening_among w t g at are).rest
    w.part.matching.unmatched g.root (opening_among w t g at are).parity (opening_among w t g at are).search n
    (ap (λ ns. is_in ns n) (names_moved (link_by w.part.links) g.root g.branches) ∙ there)))
  where
    by : IsSetOf w.part.nodes n (top_at w.part.nodes n) → ⊥
    by (i, less, outer, named, held) = both_ways (is_outer w.part.nodes n) inner outer

-- the children along the way may take the blossom's place
pub ring_may_open : (w : GrowingValue) (t : ℕ) (g : Grown) (at : tree_at w.forest t ≡ Some g) (are : IsGrowing w) (name : ℕ)
    (e : EntryOf ℕ) (above below : ℕ) (opens : Opens (alone w t g) name e above below)
    → MayReplaceIn w.forest (name ∷ []) (way (alone w t g) name e above below (opening_among w t g at are) opens)
ring_may_open w t g at are name e above below opens = record {
  tree = t;
  grown = g;
  is = record {
    at = at;
    has = minus_in_names g.root g.branches name (way_opens (alone w t g) name e above below (opening_among w t g at are) opens).minus;
  };
  may = way_opens (alone w t g) name e above below (opening_among w t g at are) opens;
  fresh = λ n there.
      inner_outside w are n
      (inner (alone w t g) name e above below (opening_among w t g at are) opens n
      (way_within (alone w t g) name e above below (opening_among w t g at are) opens n there));
}

-- the index still has all matches to the boundary
module _ (w : GrowingValue) (t : ℕ) (g : Grown) (at : tree_at w.forest t ≡ Some g) (are : IsGrowing w) (name : ℕ)
    (e : EntryOf ℕ) (above below : ℕ) (opens : Opens (alone w t g) name e above below) (links : Table)
    (store : List (Option blossoms.Node)) (tree : Grown) (watched : Watched)
    (has : HasOpened (alone w t g) name above below links store tree watched) (s : Seams) (was : Lists s w.part) where
  abbrev Kept : Table → Match → Type 0
  Kept table = IsListed (problem_in w.part).is_real w.part.job.plan s table

  of_branches : (es : List (EntryOf ℕ)) → All (Kept w.part.links) (map beside_match es)
  of_branches [] = All-nil (Kept w.part.links)
  of_branches (x ∷ xs) =
      All-cons (Kept w.part.links) (beside_match x) (map beside_match xs)
      (λ owner none here. absurd (no_second (beside_match x) x.plus refl none)) (of_branches xs)

  of_trees : (gs : List Grown) → All (Kept w.part.links) (tree_matches gs)
  of_trees [] = All-nil (Kept w.part.links)
  of_trees (x ∷ xs) =
      All-append (Kept w.part.links) (map beside_match x.branches) (tree_matches xs) (of_branches x.branches) (of_trees xs)

  pub ring_opened_listed : AreListed (problem_in w.part).is_real w.part.job.plan s links
      (w.part.matching.matches ++ couples_on (rest (alone w t g) name e above below (opening_among w t g at are) opens))
  ring_opened_listed =
      All-append (Kept links) w.part.matching.matches couples
      (All-left (Kept links) w.part.matching.matches foreign (All-left (Kept links) (w.part.matching.matches ++ foreign) couples now))
      (All-right (Kept links) (w.part.matching.matches ++ foreign) couples now)
    where
      foreign : List Match
      foreign = tree_matches (trees_beside w.forest t)

      couples : List Match
      couples = couples_on (rest (alone w t g) name e above below (opening_among w t g at are) opens)

      now : All (Kept links) ((w.part.matching.matches ++ foreign) ++ couples)
      now =
          opened_listed (alone w t g) name e above below (opening_among w t g at are) opens links store tree watched has s
          (All-append (Kept w.part.links) w.part.matching.matches foreign was (of_trees (trees_beside w.forest t)))
