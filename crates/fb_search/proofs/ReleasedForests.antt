-- A tree among others that meets a node which was matched to the boundary: the other trees are growing trees still.
use Rattle.std.proofs.Common.{ℕ, ◌≡◌, ◌<◌, true, false, All, List, [], ◌∷◌, ◌++◌, map, Option, None, is_some, refl, sym, ap, subst, ◌∙◌, append_assoc, option_to_list}
use Rattle.std.specs.List.Sorted.{IsPermutation}
use Rattle.std.proofs.lemmas.Bool.{both_ways}
use Rattle.std.proofs.lemmas.List.{map-append}
use Rattle.std.proofs.lemmas.List.Elements.{All-head, All-tail}
use Rattle.std.proofs.lemmas.List.Sorted.{All-permutation, IsPermutation-append_left, IsPermutation-append_right, IsPermutation-cons, IsPermutation-map, IsPermutation-middle, IsPermutation-sym, IsPermutation-trans}
use Rattle.fb_graph.specs.Certificate.{AreDistinct}
use Rattle.fb_graph.specs.Parity.{is_in}
use Rattle.fb_graph.proofs.Among.{IsAmong, All_among, among_All, among_left}
use Rattle.fb_graph.proofs.Floods.{is_in-left}
use Rattle.fb_graph.proofs.Sets.{All-from_is_in, is_in-All}
use Rattle.fb_laws.specs.ForestMoves.{IsFewer, ended_forest}
use Rattle.fb_laws.specs.Forests.{AnyTree}
use Rattle.fb_laws.specs.ForestStates.{IsForestState, among_trees, with_trees}
use Rattle.fb_laws.specs.LinkNumbers.{links_dropped}
use Rattle.fb_laws.specs.StateMoves.{ended_state}
use Rattle.fb_laws.specs.Searches.{LeavesNode}
use Rattle.fb_laws.specs.Trees.{minus_names}
use Rattle.fb_laws.specs.Works.{names_without}
use Rattle.fb_laws.proofs.ForestMoves.{forest_state_released}
use Rattle.fb_laws.proofs.OpenedBlossoms.{same_permuted}
use Rattle.fb_links.specs.declared.walk.Step.{Step}
use Rattle.fb_links.specs.Table.{Removes, is_live}
use Rattle.fb_links.proofs.MovedLinks.{Table}
use Rattle.fb_trees.specs.Branches.{Grown}
use Rattle.fb_trees.specs.Forests.{trees_in}
use Rattle.fb_trees.proofs.Mapped.{plus_moved}
use Rattle.fb_half.specs.declared.matches.Match.{Match}
use Rattle.fb_half.specs.declared.seams.Seams.{Seams}
use Rattle.fb_half.specs.Matchings.{IsMatchOf, MatchingValue, listed_names, match_links, matched_names, names_of}
use Rattle.fb_half.specs.Parts.{problem_in}
use Rattle.fb_half.specs.Seams.{AreListed}
use Rattle.fb_half.specs.Translations.{cycles_by, link_by, link_of, ring_links}
use Rattle.fb_half.proofs.FreedMatches.{link_in}
use Rattle.fb_obstacles.specs.Watched.{Watched}
use Rattle.fb_search.specs.declared.growing_meets.Met.{Met}
use Rattle.fb_search.specs.InternalEndings.{ended_matches}
use Rattle.fb_search.specs.InternalGrowing.{GrowingValue, IsGrowing, forest_links, grown_ids, tree_by, waiting_in}
use Rattle.fb_search.specs.InternalGrowth.{GrowsOn}
use Rattle.fb_search.specs.InternalGrowingEnds.{IsTreeMatched, MayMatchTree, WatchesEach}
use Rattle.fb_search.specs.InternalMeetings.{IsBoundaryMatch}
use Rattle.fb_search.specs.InternalTreeMeetings.{HasMetTree, rematched_growing}
use Rattle.fb_search.proofs.DissolvedForests.{IsLeft, state_left, stays_by, waits_left}
use Rattle.fb_search.proofs.DissolvedGrowth.{AreGone, apart_one, counted_one, gone_one, growing_left, grows_left, lead_one, left_growth, listed_one, rest_one, root_unmatched, state_of_one}
use Rattle.fb_search.proofs.DroppedLinks.{dropped_live, dropped_once}
use Rattle.fb_search.proofs.EndSteps.{distinct_before, fresh_last}
use Rattle.fb_search.proofs.EndedMatches.{AreTaken, LeadsBy}
use Rattle.fb_search.proofs.EndedWays.{met_match}
use Rattle.fb_search.proofs.ForestPlaces.{after_by, before_by, own_state, trees_after, trees_before, trees_beside, trees_without}
use Rattle.fb_search.proofs.ListedSteps.{listed_ended, made_stays, paired_listed}
use Rattle.fb_search.proofs.ReleasedMatches.{forgets_more}
use Rattle.fb_search.proofs.TakenNames.{without_taken}
use Rattle.fb_search.proofs.TreesBeside.{minus_beside, minus_parted, plus_beside}
use Rattle.fb_search.proofs.WaitingStates.{waiting_among}
use Rattle.fb_half.proofs.FlatPermutations.{flat_permuted}

module _ (w : GrowingValue) (met : Met) (links : Table) (kept : List Match)
    (h : HasMetTree w met (rematched_growing links kept w)) (boundary : IsBoundaryMatch met.taken met.other) where
  abbrev are : IsGrowing w
  are = h.was

  abbrev t : ℕ
  t = h.plus.tree

  abbrev g : Grown
  g = h.plus.grown

  abbrev out : Match
  out = met_match met.link met.plus met.other

  abbrev ends : List Match
  ends = ended_matches g.branches met.plus

  abbrev dropped : List ℕ
  dropped = links_dropped g.branches met.plus

  abbrev staying : List ℕ
  staying = match_links (kept ++ ends) ++ (grown_ids (trees_beside w.forest t) ++ ring_links w.part.nodes w.part.store)

  counted : IsPermutation (forest_links w) (staying ++ met.taken.link ∷ dropped)
  counted =
      IsPermutation-trans _ _ _
      (IsPermutation-append_right (grown_ids (trees_in w.forest)) _ _
      (IsPermutation-append_left (ring_links w.part.nodes w.part.store) (match_links w.part.matching.matches)
      (met.taken.link ∷ match_links kept) (IsPermutation-map (λ (m : Match). m.link) _ _ h.matches)))
      (IsPermutation-trans _ _ _
      (IsPermutation-middle (grown_ids (trees_in w.forest)) met.taken.link (match_links kept ++ ring_links w.part.nodes w.part.store))
      (IsPermutation-trans _ _ _
      (IsPermutation-cons met.taken.link _ _ (counted_one w t g met.plus are h.plus.at h.plus.plus kept))
      (IsPermutation-sym _ _ (IsPermutation-middle staying met.taken.link dropped))))

  boundary_names : names_of met.taken ≡ met.other ∷ []
  boundary_names = (λ k. boundary.0 k ∷ option_to_list (boundary.1 k))

  kept_are : (e : Match) → IsAmong e kept → IsAmong e w.part.matching.matches
  kept_are e a =
      All_among (λ m. IsAmong m w.part.matching.matches) kept
      (All-tail (λ m. IsAmong m w.part.matching.matches) met.taken kept
      (All-permutation (λ m. IsAmong m w.part.matching.matches) w.part.matching.matches (met.taken ∷ kept) h.matches
      (among_All (λ m. IsAmong m w.part.matching.matches) w.part.matching.matches (λ m b. b)))) e a

  takes : (unmatched : List ℕ) → IsPermutation w.part.matching.unmatched (g.root ∷ unmatched)
      → AreTaken w.part.matching g.root met.plus unmatched kept out
  takes unmatched moved = record {
    taken = met.other ∷ [];
    names = refl;
    listed =
        IsPermutation-trans _ _ _ (IsPermutation-append_left (matched_names w.part.matching.matches) _ _ moved)
        (IsPermutation-cons g.root _ _
        (IsPermutation-trans _ _ _
        (IsPermutation-append_right unmatched (matched_names w.part.matching.matches) (met.other ∷ matched_names kept)
        (subst (λ l. IsPermutation (matched_names w.part.matching.matches) (l ++ matched_names kept)) boundary_names
        (flat_permuted names_of w.part.matching.matches (met.taken ∷ kept) h.matches)))
        (IsPermutation-middle unmatched met.other (matched_names kept))));
    kept_are = kept_are;
  }

  away : (b : ℕ) × LeavesNode w.part.nodes (link_by w.part.links met.taken.link) met.other b × ((problem_in w.part).is_real b ≡ false)
  away =
      subst (λ a. IsMatchOf (problem_in w.part) w.part.nodes (link_by w.part.links met.taken.link) a None) boundary.0
      (subst (λ o. IsMatchOf (problem_in w.part) w.part.nodes (link_by w.part.links met.taken.link) met.taken.first o) boundary.1
      (All-head (LeadsBy (problem_in w.part) w.part.nodes w.part.links) met.taken kept
      (All-permutation (LeadsBy (problem_in w.part) w.part.nodes w.part.links) w.part.matching.matches (met.taken ∷ kept) h.matches
      are.matching.connects)))

  gone_once : AreDistinct (met.taken.link ∷ dropped)
  gone_once =
      dropped_once (problem_in w.part) w.part.links (forest_links w) staying (met.taken.link ∷ dropped) are.links counted

  gone_live : All (λ id. is_live links id ≡ true) (met.taken.link ∷ dropped)
  gone_live =
      dropped_live (problem_in w.part) w.part.links links (forest_links w) staying (met.taken.link ∷ dropped) met.link h.walk
      are.links counted h.adds

  pub taken_live : is_live links met.taken.link ≡ true
  taken_live = All-head (λ id. is_live links id ≡ true) met.taken.link dropped gone_live

  module _ (mid : Table) (removes : Removes links mid met.taken.link) where
    pub may_release : MayMatchTree h.plus.tree h.plus.grown met.plus (record { matches = kept; unmatched = w.part.matching.unmatched }) mid w.forest
    may_release = record {
      at = h.plus.at;
      plus = h.plus.plus;
      root = root_unmatched w t g met.plus are h.plus.at h.plus.plus;
      distinct = λ rest moved.
          distinct_before (record { matches = kept; unmatched = rest }) ends out
          (apart_one w t g met.plus are h.plus.at h.plus.plus rest kept out (takes rest moved));
      live =
          All-from_is_in (λ id. is_live mid id ≡ true) dropped
          (λ id within.
          ap (λ (o : Option (List Step)). is_some o)
          (removes.others id (λ same. both_ways (is_in dropped id) (ap (is_in dropped) same ∙ gone_once.0) within))
          ∙ is_in-All (λ k. is_live links k ≡ true) dropped
          (All-tail (λ k. is_live links k ≡ true) met.taken.link dropped gone_live) id within);
      once = gone_once.1;
    }

    module _ (m : MatchingValue) (new : Table) (forest : List (Option Grown))
        (done : IsTreeMatched h.plus.tree h.plus.grown met.plus (record { matches = kept; unmatched = w.part.matching.unmatched }) mid
        w.forest m new forest) where
      pub release_fresh : All (λ n. is_in (listed_names m) n ≡ false) (names_of (met_match met.link met.plus met.other))
      release_fresh =
          subst (λ ms. All (λ n. is_in (m.unmatched ++ matched_names ms) n ≡ false) (names_of out)) (sym done.matches)
          (fresh_last (record { matches = kept; unmatched = m.unmatched }) ends out
          (apart_one w t g met.plus are h.plus.at h.plus.plus m.unmatched kept out (takes m.unmatched done.unmatched)))

      abbrev is_left : IsLeft w (trees_beside w.forest t) new m.unmatched kept ends out
      is_left = record {
        mid = links;
        walk = h.walk;
        gone = met.taken.link ∷ dropped;
        adds = h.adds;
        forgets = forgets_more met.taken.link dropped links mid new removes done.links;
        steps = h.walk_is.walk_is.steps;
        counted = counted;
        listed = listed_one w t g met.plus are h.plus.at h.plus.plus m.unmatched kept out (takes m.unmatched done.unmatched);
        lead = lead_one w t g met.plus are h.plus.at h.plus.plus kept kept_are;
        leads = h.walk_is.connects;
      }

      law : IsFewer (problem_in w.part) (among_trees (before_by w t) (after_by w t) (waiting_in w) (own_state w g are.state.0))
          (ended_forest (before_by w t) (after_by w t) (waiting_in w) met.plus (link_of h.walk) (map (link_by w.part.links) (match_links kept))
          (own_state w g are.state.0))
      law =
          forest_state_released (problem_in w.part) (before_by w t) (after_by w t) (waiting_in w) (own_state w g are.state.0) met.plus met.other
          (link_of h.walk) (link_by w.part.links met.taken.link) (map (link_by w.part.links) (match_links kept)) away.0
          (record {
            plus = ap (λ l. is_in l met.plus) (plus_moved (link_by w.part.links) g.root g.branches) ∙ h.plus.plus;
            tight = h.walk_is.walk_is.tight;
          })
          h.walk_is.connects
          (IsPermutation-map (link_by w.part.links) _ _ (IsPermutation-map (λ (m : Match). m.link) _ _ h.matches)) away.1 away.2
          (state_of_one w t g met.plus are h.plus.at h.plus.plus)

      moved : IsPermutation (names_without g.root w.part.matching.unmatched) m.unmatched
      moved = without_taken g.root w.part.matching.unmatched m.unmatched are.state.1.names.distinct done.unmatched

      abbrev told_of : List AnyTree → Type 0
      told_of ts =
          IsForestState (problem_in w.part)
          (with_trees ts (waiting_in w) are.state.0
          (ended_state met.plus (link_of h.walk) (map (link_by w.part.links) (match_links kept))
          (names_without g.root w.part.matching.unmatched) (own_state w g are.state.0)))

      told : told_of (map (tree_by w.part.links) (trees_beside w.forest t))
      told = subst told_of (sym (map-append (tree_by w.part.links) (trees_before w.forest t) (trees_after w.forest t))) law.state

      state : IsForestState (problem_in w.part)
          (record {
            nodes = w.part.nodes;
            cycles = cycles_by new w.part.store;
            trees = map (tree_by new) (trees_beside w.forest t);
            rest = map (link_by new) (match_links (kept ++ (ends ++ out ∷ [])));
            unmatched = m.unmatched;
            waiting = waiting_among (trees_beside w.forest t) m.unmatched;
            parity = are.state.0;
          })
      state =
          state_left w (trees_beside w.forest t) new m.unmatched kept ends out are is_left
          _ (names_without g.root w.part.matching.unmatched) (waiting_in w) are.state.0
          (rest_one w t g met.plus are h.plus.at h.plus.plus kept (link_of h.walk)) moved told

      ended : AreGone w (trees_beside w.forest t) m.unmatched
      ended =
          gone_one w t g met.plus are h.plus.at h.plus.plus m.unmatched done.unmatched
          (waits_left w (trees_beside w.forest t) new m.unmatched kept ends out are is_left
          _ (names_without g.root w.part.matching.unmatched) (waiting_in w) are.state.0 moved told)

      gone : trees_in forest ≡ trees_beside w.forest t
      gone = ap trees_in done.dissolved ∙ trees_without w.forest t g h.plus.at

      -- growing trees are left, with less to do
      pub release_left : (last : MatchingValue)
          → last ≡ record { matches = m.matches ++ met_match met.link met.plus met.other ∷ []; unmatched = m.unmatched }
          → (watched : Watched)
          → WatchesEach (problem_in w.part) w.part.nodes (minus_names h.plus.grown.branches) w.watched watched
          → All (λ k. k < watched.edge_count) watched.edges
          → IsGrowing (left_growth w new last forest watched) × GrowsOn w (left_growth w new last forest watched)
      release_left last is_last watched watches within =
          subst (λ n. IsGrowing (left_growth w new n forest watched) × GrowsOn w (left_growth w new n forest watched)) (sym listed) (
            growing_left w (trees_beside w.forest t) new m.unmatched kept ends out are is_left forest gone watched
                (minus_names g.branches) (plus_beside w.forest t g h.plus.at)
                (minus_parted w.forest t g h.plus.at) watches within
                (minus_beside w.forest t g h.plus.at) are.state.0 state,
            grows_left w (trees_beside w.forest t) new m.unmatched kept ends out are is_left forest gone watched
                (minus_names g.branches) (plus_beside w.forest t g h.plus.at)
                (minus_parted w.forest t g h.plus.at) watches within ended,
          )
        where
          listed : last ≡ record { matches = kept ++ (ends ++ out ∷ []); unmatched = m.unmatched }
          listed =
              is_last
              ∙ (λ k.
              record {
                matches = (ap (λ l. l ++ out ∷ []) done.matches ∙ append_assoc kept ends (out ∷ [])) k;
                unmatched = m.unmatched;
              })

      -- and the index has its matches to the boundary
      pub release_listed : (last : MatchingValue)
          → last ≡ record { matches = m.matches ++ met_match met.link met.plus met.other ∷ []; unmatched = m.unmatched } → (s : Seams)
          → AreListed (problem_in w.part).is_real w.part.job.plan s links kept
          → AreListed (problem_in w.part).is_real w.part.job.plan s new last.matches
      release_listed last is_last s listed =
          subst (AreListed (problem_in w.part).is_real w.part.job.plan s new)
          (sym (ap (λ n. n.matches) is_last ∙ (ap (λ l. l ++ out ∷ []) done.matches ∙ append_assoc kept ends (out ∷ []))))
          (listed_ended (problem_in w.part).is_real w.part.job.plan s links new kept kept g.branches met.plus out listed
          (λ e a. (a, both e a))
          (paired_listed (problem_in w.part).is_real w.part.job.plan s new met.link met.plus met.other))
        where
          both : (e : Match) → IsAmong e kept → link_by new e.link ≡ link_by links e.link
          both e a =
              let within = is_in-left (match_links (kept ++ ends)) (grown_ids (trees_beside w.forest t) ++ ring_links w.part.nodes w.part.store) e.link
              (link_in (kept ++ ends) e (among_left kept ends e a)) in
              stays_by w (trees_beside w.forest t) new m.unmatched kept ends out are is_left e.link within
              ∙ sym (made_stays (problem_in w.part) w.part.links links (forest_links w) met.link h.walk are.links h.adds e.link
              (sym (same_permuted (forest_links w) (staying ++ met.taken.link ∷ dropped) counted e.link) ∙ is_in-left staying (met.taken.link ∷ dropped) e.link within))

-- the trees as they are, in the form of the lemmas
abbrev pub released_now : (w : GrowingValue) (met : Met) (now : GrowingValue) → HasMetTree w met now
    → HasMetTree w met (rematched_growing now.part.links now.part.matching.matches w)
released_now w met now h = record {
  was = h.was;
  is = refl;
  plus = h.plus;
  walk = h.walk;
  walk_is = h.walk_is;
  adds = h.adds;
  matches = h.matches;
}
