-- A tree among others that meets a node that waits: this is matched with its plus node, and the other trees are growing trees
-- still.
use Rattle.std.proofs.Common.{ℕ, ◌≡◌, ◌<◌, ◌==◌, ◌⊎◌, inl, inr, not, true, false, All, List, [], ◌∷◌, ◌++◌, map, Option, Some, refl, sym, ap, subst, ◌∙◌, append_assoc, arith}
use Rattle.std.specs.List.Sorted.{IsPermutation}
use Rattle.std.proofs.lemmas.Bool.{both_ways, false_from_ne_true}
use Rattle.std.proofs.lemmas.List.{map-append}
use Rattle.std.proofs.lemmas.List.Sorted.{IsPermutation-cons, IsPermutation-middle, IsPermutation-trans, length_permutation}
use Rattle.fb_graph.specs.Covers.{passes}
use Rattle.fb_graph.specs.Limits.{IsWithinLimits}
use Rattle.fb_graph.specs.Parity.{is_in}
use Rattle.fb_graph.proofs.Among.{among_left}
use Rattle.fb_graph.proofs.Floods.{is_in-left}
use Rattle.fb_graph.proofs.Sets.{distinct-filter, is_in-cases, is_in-tail}
use Rattle.fb_graph.proofs.TightLinks.{all_even}
use Rattle.fb_laws.specs.ForestMoves.{IsFewer}
use Rattle.fb_laws.specs.Forests.{AnyTree}
use Rattle.fb_laws.specs.ForestStates.{IsForestState, among_trees, with_trees}
use Rattle.fb_laws.specs.LinkNumbers.{links_dropped}
use Rattle.fb_laws.specs.StateMoves.{ended_state}
use Rattle.fb_laws.specs.Trees.{minus_names}
use Rattle.fb_laws.specs.Works.{names_without}
use Rattle.fb_laws.proofs.CycleWays.{split_in}
use Rattle.fb_laws.proofs.ForestMatched.{forest_state_matched}
use Rattle.fb_laws.proofs.OpenedBlossoms.{same_permuted}
use Rattle.fb_links.specs.declared.walk.Step.{Step}
use Rattle.fb_links.specs.Table.{Adds}
use Rattle.fb_links.proofs.MovedLinks.{Table}
use Rattle.fb_trees.specs.Branches.{Grown}
use Rattle.fb_trees.specs.Forests.{IsPlusNode, tree_at, trees_in}
use Rattle.fb_trees.specs.InternalMetWalks.{IsMetWalk}
use Rattle.fb_trees.specs.Rooted.{IsPlus}
use Rattle.fb_trees.proofs.Mapped.{plus_moved}
use Rattle.fb_half.specs.declared.matches.Match.{Match}
use Rattle.fb_half.specs.declared.seams.Seams.{Seams}
use Rattle.fb_half.specs.Matchings.{MatchingValue, listed_names, match_links, matched_names, names_of}
use Rattle.fb_half.specs.Parts.{problem_in}
use Rattle.fb_half.specs.Seams.{AreListed}
use Rattle.fb_half.specs.Translations.{cycles_by, link_by, link_of}
use Rattle.fb_half.proofs.FreedMatches.{link_in}
use Rattle.fb_obstacles.specs.Watched.{Watched}
use Rattle.fb_search.specs.InternalEndings.{ended_matches}
use Rattle.fb_search.specs.InternalGrowing.{GrowingValue, IsGrowing, roles_among, roots_in, tree_by, waiting_in}
use Rattle.fb_search.specs.InternalGrowth.{GrowsOn}
use Rattle.fb_search.specs.InternalGrowingEnds.{IsTreeMatched, WatchesEach}
use Rattle.fb_search.specs.InternalTreeMeetings.{MeetsOutside}
use Rattle.fb_search.proofs.DissolvedForests.{IsLeft, state_left, stays_by, waits_left}
use Rattle.fb_search.proofs.DissolvedGrowth.{AreGone, apart_one, counted_one, growing_left, grows_left, lead_one, left_growth, listed_one, rest_one, state_of_one}
use Rattle.fb_search.proofs.EndSteps.{fresh_last}
use Rattle.fb_search.proofs.EndedCases.{taken_with}
use Rattle.fb_search.proofs.EndedMatches.{AreTaken}
use Rattle.fb_search.proofs.EndedWays.{met_match}
use Rattle.fb_search.proofs.ForestPlaces.{after_by, before_by, own_state, trees_after, trees_before, trees_beside, trees_without}
use Rattle.fb_search.proofs.GrowingRoles.{roles_are_all, root_is_plus}
use Rattle.fb_search.proofs.GrownEnds.{role_plus}
use Rattle.fb_search.proofs.ListedSteps.{Lists, listed_ended, paired_listed}
use Rattle.fb_search.proofs.TakenNames.{without_taken}
use Rattle.fb_search.proofs.TreesBeside.{first_beside, minus_beside, minus_parted, plus_beside}
use Rattle.fb_search.proofs.WaitingNames.{root_here, waits_from, waits_no_root, waits_unmatched}
use Rattle.fb_search.proofs.WaitingStates.{waiting_among}

module _ (w : GrowingValue) (k plus other : ℕ) (are : IsGrowing w) (meets : MeetsOutside w k plus other) where
  pub meeting_node : IsPlusNode w.forest plus
  meeting_node =
      role_plus w plus are (sym (ap (passes (roles_among w.forest).is_plus) meets.covered) ∙ meets.obstacle.edge.plus)

  -- an unmatched node that a tree meets is no root, and so it waits
  pub met_waits : is_in w.part.matching.unmatched other ≡ true → is_in (waiting_in w) other ≡ true
  met_waits unmatched =
      waits_from w other unmatched
      (false_from_ne_true (is_in (roots_in w.forest) other)
      (λ root.
      both_ways ((roles_among w.forest).is_plus other) meets.obstacle.not_plus
      (ap (λ rs. rs.is_plus other) (roles_are_all w are.state.0 are.state.1) ∙ (root_is_plus w are.state.0 are.state.1 other root).1)))

module _ (w : GrowingValue) (t : ℕ) (g : Grown) (name other : ℕ) (are : IsGrowing w) (at : tree_at w.forest t ≡ Some g)
    (plus : IsPlus g name) (waits : is_in (waiting_in w) other ≡ true) (link : ℕ) (walk : List Step) (mid : Table)
    (adds : Adds w.part.links mid link walk) (m : MatchingValue) (new : Table) (forest : List (Option Grown))
    (done : IsTreeMatched t g name w.part.matching mid w.forest m new forest) where
  abbrev kept : List Match
  kept = w.part.matching.matches

  abbrev ends : List Match
  ends = ended_matches g.branches name

  abbrev out : Match
  out = met_match link name other

  -- the node is still unmatched once the tree is matched
  pub still_waits : is_in m.unmatched other ≡ true
  still_waits =
      by (is_in-cases g.root m.unmatched other
      (same_permuted w.part.matching.unmatched (g.root ∷ m.unmatched) done.unmatched other
      ∙ waits_unmatched w other waits))
    where
      by : (g.root ≡ other) ⊎ (is_in m.unmatched other ≡ true) → is_in m.unmatched other ≡ true
      by (inl same) =
          absurd (both_ways (is_in (roots_in w.forest) other) (waits_no_root w other waits)
          (ap (is_in (roots_in w.forest)) (sym same) ∙ root_here w.forest t g at))
      by (inr there) = there

  module _ (n : MatchingValue) (same : n.matches ≡ m.matches) (taken : IsPermutation m.unmatched (other ∷ n.unmatched)) where
    both_taken : IsPermutation w.part.matching.unmatched (g.root ∷ other ∷ n.unmatched)
    both_taken = IsPermutation-trans _ _ _ done.unmatched (IsPermutation-cons g.root _ _ taken)

    matches_are : n.matches ≡ w.part.matching.matches ++ ended_matches g.branches name
    matches_are = same ∙ done.matches

    takes : AreTaken w.part.matching g.root name n.unmatched w.part.matching.matches (met_match link name other)
    takes = taken_with w.part.matching g.root name other n.unmatched out refl both_taken

    -- neither node is listed before their match
    pub woken_fresh : All (λ x. is_in (listed_names n) x ≡ false) (names_of (met_match link name other))
    woken_fresh =
        subst (λ ms. All (λ x. is_in (n.unmatched ++ matched_names ms) x ≡ false) (names_of out)) (sym matches_are)
        (fresh_last (record { matches = kept; unmatched = n.unmatched }) ends out
        (apart_one w t g name are at plus n.unmatched kept out takes))

    module _ (is : IsMetWalk (problem_in w.part) w.part.nodes name other walk) where
      abbrev is_left : IsLeft w (trees_beside w.forest t) new n.unmatched w.part.matching.matches (ended_matches g.branches name)
          (met_match link name other)
      is_left = record {
        mid = mid;
        walk = walk;
        gone = links_dropped g.branches name;
        adds = adds;
        forgets = done.links;
        steps = is.walk_is.steps;
        counted = counted_one w t g name are at plus kept;
        listed = listed_one w t g name are at plus n.unmatched kept out takes;
        lead = lead_one w t g name are at plus kept (λ e a. a);
        leads = is.connects;
      }

      -- all but this one wait on
      others : (l : List ℕ) × IsPermutation (waiting_in w) (other ∷ l)
      others =
          let (b, a, split) = split_in (waiting_in w) other waits in
          (b ++ a, subst (λ l. IsPermutation l (other ∷ (b ++ a))) (sym split) (IsPermutation-middle b other a))

      abbrev told_of : List AnyTree → Type 0
      told_of ts =
          IsForestState (problem_in w.part)
          (with_trees ts others.0 are.state.0
          (ended_state name (link_of walk) (map (link_by w.part.links) (match_links w.part.matching.matches))
          (names_without other (names_without g.root w.part.matching.unmatched)) (own_state w g are.state.0)))

      module _ (limits : IsWithinLimits (problem_in w.part)) where
        law : IsFewer (problem_in w.part) (among_trees (before_by w t) (after_by w t) (waiting_in w) (own_state w g are.state.0))
            (with_trees (before_by w t ++ after_by w t) others.0 are.state.0
            (ended_state name (link_of walk) (map (link_by w.part.links) (match_links w.part.matching.matches))
            (names_without other (names_without g.root w.part.matching.unmatched)) (own_state w g are.state.0)))
        law =
            forest_state_matched (problem_in w.part) (before_by w t) (after_by w t) (waiting_in w) others.0
            (own_state w g are.state.0) name other (link_of walk) (all_even (problem_in w.part) limits)
            (record {
              plus = ap (λ l. is_in l name) (plus_moved (link_by w.part.links) g.root g.branches) ∙ plus;
              tight = is.walk_is.tight;
            })
            is.connects others.1 (state_of_one w t g name are at plus)

        told : told_of (map (tree_by w.part.links) (trees_beside w.forest t))
        told = subst told_of (sym (map-append (tree_by w.part.links) (trees_before w.forest t) (trees_after w.forest t))) law.state

        moved : IsPermutation (names_without other (names_without g.root w.part.matching.unmatched)) n.unmatched
        moved =
            without_taken other (names_without g.root w.part.matching.unmatched) n.unmatched
            (distinct-filter (λ x. not (x == g.root)) w.part.matching.unmatched are.state.1.names.distinct)
            (without_taken g.root w.part.matching.unmatched (other ∷ n.unmatched) are.state.1.names.distinct both_taken)

        state : IsForestState (problem_in w.part)
            (record {
              nodes = w.part.nodes;
              cycles = cycles_by new w.part.store;
              trees = map (tree_by new) (trees_beside w.forest t);
              rest = map (link_by new) (match_links (kept ++ (ends ++ out ∷ [])));
              unmatched = n.unmatched;
              waiting = waiting_among (trees_beside w.forest t) n.unmatched;
              parity = are.state.0;
            })
        state =
            state_left w (trees_beside w.forest t) new n.unmatched kept ends out are is_left
            _ (names_without other (names_without g.root w.part.matching.unmatched)) others.0 are.state.0
            (rest_one w t g name are at plus kept (link_of walk)) moved told

        ended : AreGone w (trees_beside w.forest t) n.unmatched
        ended = record {
          taken = 2;
          ended = 1;
          some = omega arith;
          least = omega arith;
          most = omega arith;
          nodes = omega (arith, length_permutation w.part.matching.unmatched (g.root ∷ other ∷ n.unmatched) both_taken);
          trees = omega (arith, length_permutation (trees_in w.forest) (g ∷ trees_beside w.forest t) (first_beside w.forest t g at));
          waits = λ x h.
              before x
              (sym (waits_left w (trees_beside w.forest t) new n.unmatched kept ends out are is_left
              _ (names_without other (names_without g.root w.part.matching.unmatched)) others.0 are.state.0 moved told x)
              ∙ h);
        }
          where
            before : (x : ℕ) → is_in others.0 x ≡ true → is_in (waiting_in w) x ≡ true
            before x h =
                sym (same_permuted (waiting_in w) (other ∷ others.0) others.1 x) ∙ is_in-tail other others.0 x h

        gone : trees_in forest ≡ trees_beside w.forest t
        gone = ap trees_in done.dissolved ∙ trees_without w.forest t g at

        -- growing trees are left, with less to do
        pub woken_left : (last : MatchingValue)
            → last ≡ record { matches = n.matches ++ met_match link name other ∷ []; unmatched = n.unmatched } → (watched : Watched)
            → WatchesEach (problem_in w.part) w.part.nodes (minus_names g.branches) w.watched watched
            → All (λ e. e < watched.edge_count) watched.edges
            → IsGrowing (left_growth w new last forest watched) × GrowsOn w (left_growth w new last forest watched)
        woken_left last is_last watched watches within =
            subst (λ l. IsGrowing (left_growth w new l forest watched) × GrowsOn w (left_growth w new l forest watched)) (sym whole) (
              growing_left w (trees_beside w.forest t) new n.unmatched kept ends out are is_left forest gone watched
                  (minus_names g.branches) (plus_beside w.forest t g at) (minus_parted w.forest t g at) watches within
                  (minus_beside w.forest t g at) are.state.0 state,
              grows_left w (trees_beside w.forest t) new n.unmatched kept ends out are is_left forest gone watched
                  (minus_names g.branches) (plus_beside w.forest t g at) (minus_parted w.forest t g at) watches within ended,
            )
          where
            whole : last ≡ record { matches = kept ++ (ends ++ out ∷ []); unmatched = n.unmatched }
            whole =
                is_last
                ∙ (λ i.
                record {
                  matches = (ap (λ l. l ++ out ∷ []) matches_are ∙ append_assoc kept ends (out ∷ [])) i;
                  unmatched = n.unmatched;
                })

      -- and the index has its matches to the boundary
      pub woken_listed : (last : MatchingValue)
          → last ≡ record { matches = n.matches ++ met_match link name other ∷ []; unmatched = n.unmatched } → (s : Seams)
          → Lists s w.part → AreListed (problem_in w.part).is_real w.part.job.plan s new last.matches
      woken_listed last is_last s listed =
          subst (AreListed (problem_in w.part).is_real w.part.job.plan s new)
          (sym (ap (λ l. l.matches) is_last ∙ (ap (λ l. l ++ out ∷ []) matches_are ∙ append_assoc kept ends (out ∷ []))))
          (listed_ended (problem_in w.part).is_real w.part.job.plan s w.part.links new kept kept g.branches name out listed
          (λ e a. (
            a,
            stays_by w (trees_beside w.forest t) new n.unmatched kept ends out are is_left e.link
                (is_in-left (match_links (kept ++ ends)) _ e.link (link_in (kept ++ ends) e (among_left kept ends e a))),
          ))
          (paired_listed (problem_in w.part).is_real w.part.job.plan s new link name other))
