-- Two trees among others whose plus nodes meet: both are matched and dissolved, and the other trees are growing trees still.
use Rattle.std.proofs.Common.{ℕ, ◌≡◌, ◌<◌, ◌==◌, not, ◌⊎◌, inl, inr, cond, true, false, All, List, [], ◌∷◌, ◌++◌, map, set, Option, None, is_some, sym, ap, subst, ◌∙◌, append_assoc, arith}
use Rattle.std.specs.List.Sorted.{IsPermutation}
use Rattle.std.proofs.lemmas.Bool.{both_ways, false_from_ne_true, or_parts}
use Rattle.std.proofs.lemmas.Grind.{flat_map-append}
use Rattle.std.proofs.lemmas.List.Elements.{All-cons, All-nil}
use Rattle.std.proofs.lemmas.List.Sorted.{IsPermutation-append_comm, IsPermutation-append_left, IsPermutation-append_right, IsPermutation-cons, IsPermutation-map, IsPermutation-middle, IsPermutation-trans, length_permutation}
use Rattle.fb_graph.specs.Certificate.{AreDistinct}
use Rattle.fb_graph.specs.Parity.{is_in}
use Rattle.fb_graph.proofs.Among.{IsAmong, among_either, among_left, among_right}
use Rattle.fb_graph.proofs.Floods.{is_in-left, is_in-right}
use Rattle.fb_graph.proofs.Members.{distinct_left}
use Rattle.fb_graph.proofs.Sets.{All-from_is_in, distinct-filter, is_in-All, is_in-cases}
use Rattle.fb_laws.specs.ForestMoves.{IsFewer, met_forest}
use Rattle.fb_laws.specs.ForestStates.{IsForestState}
use Rattle.fb_laws.specs.Forests.{met_links}
use Rattle.fb_laws.specs.LinkNumbers.{links_dropped}
use Rattle.fb_laws.specs.Trees.{minus_names}
use Rattle.fb_laws.specs.Works.{names_without}
use Rattle.fb_laws.proofs.ForestMoves.{forest_state_met}
use Rattle.fb_laws.proofs.MergedParts.{distinct_across}
use Rattle.fb_laws.proofs.OpenedBlossoms.{distinct_permuted, same_permuted}
use Rattle.fb_laws.proofs.PermutedTrees.{pull}
use Rattle.fb_laws.proofs.TreePaths.{distinct_right}
use Rattle.fb_links.specs.declared.walk.Step.{Step}
use Rattle.fb_links.specs.Table.{Adds, is_live, link_at}
use Rattle.fb_links.proofs.MovedLinks.{Table}
use Rattle.fb_trees.specs.Branches.{Grown}
use Rattle.fb_trees.specs.Forests.{tree_at, trees_in}
use Rattle.fb_trees.specs.InternalMetWalks.{IsMetWalk}
use Rattle.fb_trees.proofs.Mapped.{plus_moved}
use Rattle.fb_half.specs.declared.matches.Match.{Match}
use Rattle.fb_half.specs.declared.seams.Seams.{Seams}
use Rattle.fb_half.specs.Matchings.{MatchingValue, listed_names, match_links, matched_names, names_of}
use Rattle.fb_half.specs.Parts.{problem_in}
use Rattle.fb_half.specs.Seams.{AreListed}
use Rattle.fb_half.specs.Translations.{cycles_by, link_by, link_of, ring_links}
use Rattle.fb_half.proofs.FreedMatches.{link_in}
use Rattle.fb_obstacles.specs.Watched.{Watched}
use Rattle.fb_search.specs.InternalEndings.{ended_matches}
use Rattle.fb_search.specs.InternalGrowing.{GrowingValue, IsGrowing, all_along, forest_links, forest_state_at, grown_ids, tree_by, waiting_in}
use Rattle.fb_search.specs.InternalGrowth.{GrowsOn}
use Rattle.fb_search.specs.InternalGrowingEnds.{IsTreeMatched, MayMatchTree, WatchesEach}
use Rattle.fb_search.proofs.DissolvedForests.{IsLeft, state_left, stays_by, waits_left}
use Rattle.fb_search.proofs.DissolvedGrowth.{AreGone, counted_one, growing_left, grows_left, lead_one, left_growth, root_unmatched, tree_hung_in}
use Rattle.fb_search.proofs.DroppedLinks.{dropped_live, dropped_once}
use Rattle.fb_search.proofs.EndedAmong.{counted_step, forgets_both, listed_step, made_distinct, matched_but, still_distinct}
use Rattle.fb_search.proofs.EndedMatches.{LeadsBy}
use Rattle.fb_search.proofs.EndedWays.{met_match}
use Rattle.fb_search.proofs.ListedSteps.{Lists, ended_paired, listed_kept, no_second}
use Rattle.fb_search.proofs.TakenNames.{without_taken}
use Rattle.fb_search.proofs.TwoTrees.{AreInTwo, both_along, both_dissolved, both_first, met_rest, minus_of_two, minus_other, other_trees, plus_other, roots_apart, second_ids, still_there}
use Rattle.fb_search.proofs.WaitingStates.{waiting_among}

module _ (w : GrowingValue) (a b : ℕ) (are : IsGrowing w) (two : AreInTwo w.forest a b) where
  abbrev t : ℕ
  t = two.one.tree

  abbrev u : ℕ
  u = two.other.tree

  abbrev g : Grown
  g = two.one.grown

  abbrev h : Grown
  h = two.other.grown

  abbrev left : List Grown
  left = other_trees w.forest a b two

  abbrev kept : List Match
  kept = w.part.matching.matches

  abbrev one_ends : List Match
  one_ends = ended_matches g.branches a

  abbrev other_ends : List Match
  other_ends = ended_matches h.branches b

  abbrev one_gone : List ℕ
  one_gone = links_dropped g.branches a

  abbrev other_gone : List ℕ
  other_gone = links_dropped h.branches b

  abbrev rings : List ℕ
  rings = ring_links w.part.nodes w.part.store

  abbrev staying : List ℕ
  staying = match_links (kept ++ (one_ends ++ other_ends)) ++ (grown_ids left ++ rings)

  -- each name that is listed, or in a tree
  abbrev names : List ℕ
  names = listed_names w.part.matching ++ all_along (trees_in w.forest)

  abbrev in_two : List ℕ
  in_two = listed_names w.part.matching ++ all_along (g ∷ h ∷ left)

  -- each link is kept or dropped
  counted : IsPermutation (forest_links w) (staying ++ (one_gone ++ other_gone))
  counted =
      IsPermutation-trans _ _ _ (counted_one w t g a are two.one.at two.one.plus kept)
      (IsPermutation-trans _ _ _
      (IsPermutation-append_left one_gone _ _
      (IsPermutation-trans _ _ _
      (IsPermutation-append_right (match_links (kept ++ one_ends)) _ _
      (IsPermutation-append_left rings _ _
      (second_ids w.forest a b two)))
      (IsPermutation-trans _ _ _ (pull (match_links (kept ++ one_ends)) (grown_ids (h ∷ left)) rings)
      (subst
      (λ l.
      IsPermutation (grown_ids (h ∷ left) ++ (match_links (kept ++ one_ends) ++ rings))
      ((match_links l ++ (grown_ids left ++ rings)) ++ other_gone))
      (append_assoc kept one_ends other_ends)
      (counted_step h b left (kept ++ one_ends) rings)))))
      (subst (λ l. IsPermutation l (staying ++ (one_gone ++ other_gone))) (sym (append_assoc staying other_gone one_gone))
      (IsPermutation-append_right staying _ _ (IsPermutation-append_comm other_gone one_gone))))

  distinct : AreDistinct in_two
  distinct =
      distinct_permuted names in_two (IsPermutation-append_right (listed_names w.part.matching) _ _ (both_along w.forest a b two))
      are.matching.distinct

  gone_once : AreDistinct (one_gone ++ other_gone)
  gone_once =
      dropped_once (problem_in w.part) w.part.links (forest_links w) staying (one_gone ++ other_gone) are.links counted

  module _ (link : ℕ) (walk : List Step) (mid : Table) (adds : Adds w.part.links mid link walk) where
    gone_live : All (λ id. is_live mid id ≡ true) (one_gone ++ other_gone)
    gone_live =
        dropped_live (problem_in w.part) w.part.links mid (forest_links w) staying (one_gone ++ other_gone) link walk are.links
        counted adds

    live_in : (id : ℕ) → is_in (one_gone ++ other_gone) id ≡ true → is_live mid id ≡ true
    live_in id within = is_in-All (λ k. is_live mid k ≡ true) (one_gone ++ other_gone) gone_live id within

    -- the first tree may be matched,
    pub may_first : MayMatchTree two.one.tree two.one.grown a w.part.matching mid w.forest
    may_first = record {
      at = two.one.at;
      plus = two.one.plus;
      root = root_unmatched w t g a are two.one.at two.one.plus;
      distinct = λ rest moved.
          made_distinct w.part.matching g a (all_along (h ∷ left)) (tree_hung_in w t g a are two.one.at two.one.plus)
          two.one.plus rest moved distinct;
      live =
          All-from_is_in (λ id. is_live mid id ≡ true) one_gone (λ id within. live_in id (is_in-left one_gone other_gone id within));
      once = distinct_left one_gone other_gone gone_once;
    }

    module _ (m : MatchingValue) (rest : Table) (forest : List (Option Grown))
        (done : IsTreeMatched two.one.tree two.one.grown a w.part.matching mid w.forest m rest forest) where
      first_is : m ≡ matched_but w.part.matching g a m.unmatched
      first_is = (λ k. record { matches = done.matches k; unmatched = m.unmatched })

      distinct_then : AreDistinct (a ∷ (listed_names m ++ all_along (h ∷ left)))
      distinct_then =
          subst (λ n. AreDistinct (a ∷ (listed_names n ++ all_along (h ∷ left)))) (sym first_is)
          (still_distinct w.part.matching g a (all_along (h ∷ left)) (tree_hung_in w t g a are two.one.at two.one.plus)
          two.one.plus m.unmatched done.unmatched distinct)

      still_open : is_in m.unmatched h.root ≡ true
      still_open =
          by (is_in-cases g.root m.unmatched h.root
          (same_permuted w.part.matching.unmatched (g.root ∷ m.unmatched) done.unmatched h.root
          ∙ root_unmatched w u h b are two.other.at two.other.plus))
        where
          by : (g.root ≡ h.root) ⊎ (is_in m.unmatched h.root ≡ true) → is_in m.unmatched h.root ≡ true
          by (inl same) = absurd (roots_apart w.forest a b two same)
          by (inr there) = there

      -- and then the second
      pub may_second : MayMatchTree two.other.tree two.other.grown b m rest forest
      may_second = record {
        at = ap (λ f. tree_at f u) done.dissolved ∙ still_there w.forest a b two;
        plus = two.other.plus;
        root = still_open;
        distinct = λ rest moved.
            made_distinct m h b (all_along left) (tree_hung_in w u h b are two.other.at two.other.plus) two.other.plus rest moved
            distinct_then.1;
        live =
            All-from_is_in (λ id. is_live rest id ≡ true) other_gone
            (λ id within.
            ap (λ (o : Option (List Step)). is_some o)
            (done.links id
            ∙ ap (λ x. cond x None (link_at mid id))
            (false_from_ne_true (is_in one_gone id)
            (λ there. both_ways (is_in other_gone id) (distinct_across one_gone other_gone id gone_once there) within)))
            ∙ live_in id (is_in-right one_gone other_gone id within));
        once = distinct_right one_gone other_gone gone_once;
      }

      module _ (n : MatchingValue) (new : Table) (after : List (Option Grown))
          (ended : IsTreeMatched two.other.tree two.other.grown b m rest forest n new after) where
        second_is : n ≡ matched_but m h b n.unmatched
        second_is = (λ k. record { matches = ended.matches k; unmatched = n.unmatched })

        listed_last : IsPermutation names (a ∷ (b ∷ (listed_names n ++ all_along left)))
        listed_last =
            IsPermutation-trans _ _ _ (IsPermutation-append_right (listed_names w.part.matching) _ _ (both_along w.forest a b two))
            (IsPermutation-trans _ _ _
            (subst (λ x. IsPermutation in_two (a ∷ (listed_names x ++ all_along (h ∷ left))))
            (sym first_is)
            (listed_step w.part.matching g a (all_along (h ∷ left)) (tree_hung_in w t g a are two.one.at two.one.plus)
            two.one.plus m.unmatched done.unmatched))
            (IsPermutation-cons a _ _
            (subst (λ x. IsPermutation (listed_names m ++ all_along (h ∷ left)) (b ∷ (listed_names x ++ all_along left))) (sym second_is)
            (listed_step m h b (all_along left) (tree_hung_in w u h b are two.other.at two.other.plus) two.other.plus n.unmatched
            ended.unmatched))))

        distinct_last : AreDistinct (a ∷ (b ∷ (listed_names n ++ all_along left)))
        distinct_last = distinct_permuted _ _ listed_last are.matching.distinct

        -- the two nodes aren't listed before their match
        pub met_fresh : All (λ x. is_in (listed_names n) x ≡ false) (names_of (met_match link a b))
        met_fresh =
            All-cons (λ x. is_in (listed_names n) x ≡ false) a (b ∷ [])
            (front a (or_parts (b == a) (is_in (listed_names n ++ all_along left) a) distinct_last.0).1)
            (All-cons (λ x. is_in (listed_names n) x ≡ false) b [] (front b distinct_last.1.0)
            (All-nil (λ x. is_in (listed_names n) x ≡ false)))
          where
            front : (x : ℕ) → is_in (listed_names n ++ all_along left) x ≡ false → is_in (listed_names n) x ≡ false
            front x out =
                false_from_ne_true (is_in (listed_names n) x)
                (λ there. both_ways _ out (is_in-left (listed_names n) (all_along left) x there))

        matches_are : n.matches ++ met_match link a b ∷ [] ≡ kept ++ ((one_ends ++ other_ends) ++ met_match link a b ∷ [])
        matches_are =
            ap (λ l. l ++ met_match link a b ∷ [])
            (ended.matches ∙ (ap (λ l. l ++ other_ends) done.matches ∙ append_assoc kept one_ends other_ends))
            ∙ append_assoc kept (one_ends ++ other_ends) (met_match link a b ∷ [])

        listed : IsPermutation names
            ((n.unmatched ++ matched_names (kept ++ ((one_ends ++ other_ends) ++ met_match link a b ∷ []))) ++ all_along left)
        listed =
            subst (λ l. IsPermutation names ((n.unmatched ++ matched_names l) ++ all_along left))
            matches_are
            (subst (λ l. IsPermutation names (l ++ all_along left)) (sym names_are)
            (IsPermutation-trans _ _ _ listed_last
            (IsPermutation-append_left (all_along left) _ _ (IsPermutation-append_comm (a ∷ b ∷ []) (listed_names n)))))
          where
            names_are : n.unmatched ++ matched_names (n.matches ++ met_match link a b ∷ []) ≡ listed_names n ++ (a ∷ b ∷ [])
            names_are =
                ap (λ l. n.unmatched ++ l) (flat_map-append names_of n.matches (met_match link a b ∷ []))
                ∙ sym (append_assoc n.unmatched (matched_names n.matches) (a ∷ b ∷ []))

        module _ (is : IsMetWalk (problem_in w.part) w.part.nodes a b walk) where
          abbrev out : Match
          out = met_match link a b

          lead : (e : Match) → IsAmong e (kept ++ (one_ends ++ other_ends)) → LeadsBy (problem_in w.part) w.part.nodes w.part.links e
          lead e among = by (among_either kept (one_ends ++ other_ends) e among)
            where
              of_one : IsAmong e (kept ++ one_ends) → LeadsBy (problem_in w.part) w.part.nodes w.part.links e
              of_one here = lead_one w t g a are two.one.at two.one.plus kept (λ x y. y) e here

              ends : IsAmong e one_ends ⊎ IsAmong e other_ends → LeadsBy (problem_in w.part) w.part.nodes w.part.links e
              ends (inl here) = of_one (among_right kept one_ends e here)
              ends (inr there) =
                  lead_one w u h b are two.other.at two.other.plus kept (λ x y. y) e (among_right kept other_ends e there)

              by : IsAmong e kept ⊎ IsAmong e (one_ends ++ other_ends) → LeadsBy (problem_in w.part) w.part.nodes w.part.links e
              by (inl here) = of_one (among_left kept one_ends e here)
              by (inr made) = ends (among_either one_ends other_ends e made)

          abbrev is_left : IsLeft w left new n.unmatched kept (one_ends ++ other_ends) (met_match link a b)
          is_left = record {
            mid = mid;
            walk = walk;
            gone = one_gone ++ other_gone;
            adds = adds;
            forgets = forgets_both one_gone other_gone mid rest new done.links ended.links;
            steps = is.walk_is.steps;
            counted = counted;
            listed = listed;
            lead = lead;
            leads = is.connects;
          }

          law : IsFewer (problem_in w.part) (forest_state_at w are.state.0)
              (met_forest (tree_by w.part.links g) a (link_of walk) (tree_by w.part.links h) b (map (tree_by w.part.links) left)
              (forest_state_at w are.state.0))
          law =
              forest_state_met (problem_in w.part) (forest_state_at w are.state.0) (tree_by w.part.links g) (tree_by w.part.links h)
              (map (tree_by w.part.links) left) a b (link_of walk)
              (IsPermutation-map (tree_by w.part.links) (trees_in w.forest) (g ∷ h ∷ left)
              (both_first w.forest a b two))
              (ap (λ l. is_in l a) (plus_moved (link_by w.part.links) g.root g.branches) ∙ two.one.plus)
              (ap (λ l. is_in l b) (plus_moved (link_by w.part.links) h.root h.branches) ∙ two.other.plus)
              is.walk_is.tight is.connects are.state.1

          rest_met : IsPermutation
              (met_links (tree_by w.part.links g) a (link_of walk) (tree_by w.part.links h) b
              ++ map (link_by w.part.links) (match_links kept))
              (map (link_by w.part.links) (match_links (kept ++ (one_ends ++ other_ends))) ++ link_of walk ∷ [])
          rest_met = met_rest w.part.links g a h b kept (link_of walk)

          moved : IsPermutation (names_without g.root (names_without h.root w.part.matching.unmatched)) n.unmatched
          moved =
              without_taken g.root (names_without h.root w.part.matching.unmatched) n.unmatched
              (distinct-filter (λ x. not (x == h.root)) w.part.matching.unmatched are.state.1.names.distinct)
              (without_taken h.root w.part.matching.unmatched (g.root ∷ n.unmatched) are.state.1.names.distinct
              (IsPermutation-trans _ _ _ done.unmatched
              (IsPermutation-trans _ _ _ (IsPermutation-cons g.root _ _ ended.unmatched)
              (IsPermutation-middle (g.root ∷ []) h.root n.unmatched))))

          state : IsForestState (problem_in w.part)
              (record {
                nodes = w.part.nodes;
                cycles = cycles_by new w.part.store;
                trees = map (tree_by new) left;
                rest = map (link_by new) (match_links (kept ++ ((one_ends ++ other_ends) ++ met_match link a b ∷ [])));
                unmatched = n.unmatched;
                waiting = waiting_among left n.unmatched;
                parity = are.state.0;
              })
          state =
              state_left w left new n.unmatched kept (one_ends ++ other_ends) out are is_left
              _ (names_without g.root (names_without h.root w.part.matching.unmatched)) (waiting_in w) are.state.0 rest_met moved law.state

          both_ended : AreGone w left n.unmatched
          both_ended = record {
            taken = 2;
            ended = 2;
            some = omega arith;
            least = omega arith;
            most = omega arith;
            nodes = omega (
              arith,
              length_permutation w.part.matching.unmatched (g.root ∷ m.unmatched) done.unmatched,
              length_permutation m.unmatched (h.root ∷ n.unmatched) ended.unmatched,
            );
            trees = omega (arith, length_permutation (trees_in w.forest) (g ∷ h ∷ left) (both_first w.forest a b two));
            waits = λ x there.
                sym (waits_left w left new n.unmatched kept (one_ends ++ other_ends) out are is_left
                _ (names_without g.root (names_without h.root w.part.matching.unmatched)) (waiting_in w) are.state.0 moved law.state x)
                ∙ there;
          }

          gone : trees_in after ≡ left
          gone =
              ap trees_in (ended.dissolved ∙ ap (λ f. set f u None) done.dissolved) ∙ both_dissolved w.forest a b two

          -- growing trees are left, with less to do
          pub met_left : (last : MatchingValue)
              → last ≡ record { matches = n.matches ++ met_match link a b ∷ []; unmatched = n.unmatched } → (watched : Watched)
              → WatchesEach (problem_in w.part) w.part.nodes
              (minus_names two.one.grown.branches ++ minus_names two.other.grown.branches) w.watched watched
              → All (λ k. k < watched.edge_count) watched.edges
              → IsGrowing (left_growth w new last after watched) × GrowsOn w (left_growth w new last after watched)
          met_left last is_last watched watches within =
              subst (λ x. IsGrowing (left_growth w new x after watched) × GrowsOn w (left_growth w new x after watched)) (sym whole) (
                growing_left w left new n.unmatched kept (one_ends ++ other_ends) out are is_left after gone watched
                    (minus_names g.branches ++ minus_names h.branches) (plus_other w.forest a b two) (minus_of_two w.forest a b two)
                    watches within (minus_other w.forest a b two) are.state.0 state,
                grows_left w left new n.unmatched kept (one_ends ++ other_ends) out are is_left after gone watched
                    (minus_names g.branches ++ minus_names h.branches) (plus_other w.forest a b two) (minus_of_two w.forest a b two)
                    watches within both_ended,
              )
            where
              whole : last ≡ record { matches = kept ++ ((one_ends ++ other_ends) ++ met_match link a b ∷ []); unmatched = n.unmatched }
              whole = is_last ∙ (λ k. record { matches = matches_are k; unmatched = n.unmatched })

          -- and the index has its matches to the boundary
          pub met_listed : (last : MatchingValue)
              → last ≡ record { matches = n.matches ++ met_match link a b ∷ []; unmatched = n.unmatched } → (s : Seams)
              → Lists s w.part → AreListed (problem_in w.part).is_real w.part.job.plan s new last.matches
          met_listed last is_last s lists =
              subst (AreListed (problem_in w.part).is_real w.part.job.plan s new)
              (sym (ap (λ x. x.matches) is_last ∙ matches_are))
              (listed_kept (problem_in w.part).is_real w.part.job.plan s w.part.links new kept
              (kept ++ ((one_ends ++ other_ends) ++ out ∷ [])) lists each)
            where
              Stays : Match → Type 0
              Stays e = IsAmong e kept × (link_by new e.link ≡ link_by w.part.links e.link)

              made : (e : Match) → e.second ≡ None → IsAmong e one_ends ⊎ IsAmong e other_ends → Stays e
              made e none (inl here) = absurd (ended_paired g.branches a e here none)
              made e none (inr there) = absurd (ended_paired h.branches b e there none)

              last_or : (e : Match) → e.second ≡ None → IsAmong e (one_ends ++ other_ends) ⊎ IsAmong e (out ∷ []) → Stays e
              last_or e none (inl here) = made e none (among_either one_ends other_ends e here)
              last_or e none (inr (inl same)) = absurd (no_second e b (ap (λ x. x.second) same) none)
              last_or e none (inr (inr nowhere)) = absurd nowhere

              by : (e : Match) → e.second ≡ None → IsAmong e kept ⊎ IsAmong e ((one_ends ++ other_ends) ++ out ∷ []) → Stays e
              by e none (inl here) = (
                here,
                stays_by w left new n.unmatched kept (one_ends ++ other_ends) out are is_left e.link
                    (is_in-left (match_links (kept ++ (one_ends ++ other_ends))) (grown_ids left ++ rings) e.link
                    (link_in (kept ++ (one_ends ++ other_ends)) e (among_left kept (one_ends ++ other_ends) e here))),
              )
              by e none (inr there) = last_or e none (among_either (one_ends ++ other_ends) (out ∷ []) e there)

              each : (e : Match) → IsAmong e (kept ++ ((one_ends ++ other_ends) ++ out ∷ [])) → e.second ≡ None → Stays e
              each e among none = by e none (among_either kept ((one_ends ++ other_ends) ++ out ∷ []) e among)
