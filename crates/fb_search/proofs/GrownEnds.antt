-- A tree among others that meets the boundary: what the calls ask for, and that the other trees are growing trees still.
use Rattle.std.proofs.Common.{ℕ, ◌≡◌, ◌<◌, true, false, All, List, [], ◌∷◌, ◌++◌, map, Option, Some, unwrap_or, refl, sym, ap, subst, ◌∙◌, append_assoc}
use Rattle.std.specs.List.Sorted.{IsPermutation}
use Rattle.fb_graph.specs.Covers.{passes}
use Rattle.fb_graph.specs.Parity.{is_in}
use Rattle.fb_graph.proofs.Among.{among_left}
use Rattle.fb_graph.proofs.Floods.{is_in-left}
use Rattle.fb_graph.proofs.Sets.{All-from_is_in}
use Rattle.fb_graph.specs.Dual as dual
use Rattle.fb_laws.specs.ForestMoves.{IsFewer, ended_forest}
use Rattle.fb_laws.specs.Forests.{AnyTree}
use Rattle.fb_laws.specs.ForestStates.{IsForestState, among_trees, with_trees}
use Rattle.fb_laws.specs.LinkNumbers.{links_dropped}
use Rattle.fb_laws.specs.StateMoves.{ended_state}
use Rattle.fb_laws.specs.Trees.{minus_names}
use Rattle.fb_laws.specs.Works.{names_without}
use Rattle.fb_laws.proofs.ForestMoves.{forest_state_ended}
use Rattle.fb_links.specs.declared.walk.Step.{Step}
use Rattle.fb_links.specs.Table.{Adds}
use Rattle.fb_links.proofs.MovedLinks.{Table}
use Rattle.fb_trees.specs.Branches.{Grown}
use Rattle.fb_trees.specs.Forests.{IsPlusNode, tree_at, trees_in}
use Rattle.fb_trees.specs.InternalMetWalks.{IsOut, IsOutWalk}
use Rattle.fb_trees.specs.Rooted.{IsPlus}
use Rattle.fb_trees.proofs.Mapped.{plus_moved}
use Rattle.fb_half.specs.declared.matches.Match.{Match}
use Rattle.fb_half.specs.declared.seams.Seams.{Seams}
use Rattle.fb_half.specs.Matchings.{MatchingValue, listed_names, match_links, matched_names, names_of}
use Rattle.fb_half.specs.Parts.{problem_in}
use Rattle.fb_half.specs.Seams.{AreListed, far_end}
use Rattle.fb_half.specs.Translations.{cycles_by, link_by, link_of, ring_links}
use Rattle.fb_half.proofs.FreedMatches.{link_in}
use Rattle.fb_obstacles.specs.Watched.{Watched}
use Rattle.fb_plan.specs.Plans.{owner_of}
use Rattle.fb_search.specs.InternalEndings.{ended_matches}
use Rattle.fb_search.specs.InternalGrowing.{GrowingValue, IsGrowing, forest_links, grown_ids, roles_among, tree_by, waiting_in}
use Rattle.fb_search.specs.InternalGrowth.{GrowsOn}
use Rattle.fb_search.specs.InternalGrowingEnds.{IsTreeMatched, MayMatchTree, WatchesEach}
use Rattle.fb_search.specs.InternalTreeMeetings.{GrowsOut}
use Rattle.fb_search.proofs.DissolvedForests.{IsLeft, out_link, state_left, stays_by, waits_left}
use Rattle.fb_search.proofs.DissolvedGrowth.{AreGone, apart_one, counted_one, gone_one, growing_left, grows_left, lead_one, left_growth, listed_one, rest_one, root_unmatched, state_of_one}
use Rattle.fb_search.proofs.DroppedLinks.{dropped_live, dropped_once}
use Rattle.fb_search.proofs.EndSteps.{distinct_before, fresh_last}
use Rattle.fb_search.proofs.EndedCases.{taken_at_boundary}
use Rattle.fb_search.proofs.EndedMatches.{AreTaken}
use Rattle.fb_search.proofs.EndedWays.{boundary_match}
use Rattle.fb_search.proofs.ForestPlaces.{after_by, before_by, own_state, plus_node, trees_after, trees_before, trees_beside, trees_without}
use Rattle.fb_search.proofs.GrowingRoles.{minus_live, roles_are_all}
use Rattle.fb_search.proofs.ListedSteps.{AddsName, Lists, last_listed, listed_ended, listed_more}
use Rattle.fb_search.proofs.TakenNames.{without_taken}
use Rattle.fb_search.proofs.TreesBeside.{minus_beside, minus_parted, minus_within, plus_beside}
use Rattle.fb_search.proofs.WaitingStates.{waiting_among}
use Rattle.std.proofs.lemmas.List.{map-append}

-- a plus node by the roles is one of a tree
pub role_plus : (w : GrowingValue) (name : ℕ) → IsGrowing w → (roles_among w.forest).is_plus name ≡ true → IsPlusNode w.forest name
role_plus w name are plus =
    plus_node w.forest name
    (ap (λ r. r.is_plus name) (sym (roles_are_all w are.state.0 are.state.1)) ∙ plus)

pub out_plus : (w : GrowingValue) (k plus : ℕ) → IsGrowing w → GrowsOut w k plus → IsPlusNode w.forest plus
out_plus w k plus are leads =
    role_plus w plus are (sym (ap (passes (roles_among w.forest).is_plus) leads.covered) ∙ leads.obstacle.edge.plus)

pub out_leads : (w : GrowingValue) (k plus : ℕ) (leads : GrowsOut w k plus) → IsOut (problem_in w.part) w.part.nodes k plus leads.outer
out_leads w k plus leads = record {
  inner = leads.inner;
  within = leads.obstacle.edge.within;
  leads = leads.obstacle.edge.leads;
  tight = leads.obstacle.edge.tight;
  covered = leads.covered;
  boundary = leads.obstacle.real;
}

module _ (w : GrowingValue) (t : ℕ) (g : Grown) (name : ℕ) (are : IsGrowing w) (at : tree_at w.forest t ≡ Some g)
    (plus : IsPlus g name) where
  -- its minus nodes are there
  pub minus_live_in : All (λ n. dual.is_live w.part.nodes n ≡ true) (minus_names g.branches)
  minus_live_in =
      All-from_is_in (λ n. dual.is_live w.part.nodes n ≡ true) (minus_names g.branches)
      (λ n h. minus_live w are.state.0 are.state.1 n (minus_within w.forest t g at n h))

  module _ (link : ℕ) (walk : List Step) (mid : Table) (adds : Adds w.part.links mid link walk) where
    abbrev ends : List Match
    ends = ended_matches g.branches name

    abbrev staying : List ℕ
    staying =
        match_links (w.part.matching.matches ++ ended_matches g.branches name)
        ++ (grown_ids (trees_beside w.forest t) ++ ring_links w.part.nodes w.part.store)

    -- the tree may be matched, as far as its links and the names of its nodes go
    pub may_match : (out : Match) → names_of out ≡ name ∷ [] → MayMatchTree t g name w.part.matching mid w.forest
    may_match out names = record {
      at = at;
      plus = plus;
      root = root_unmatched w t g name are at plus;
      distinct = λ rest moved.
          distinct_before (record { matches = w.part.matching.matches; unmatched = rest }) ends out
          (apart_one w t g name are at plus rest w.part.matching.matches out
          (taken_at_boundary w.part.matching g.root name rest out names moved));
      live =
          dropped_live (problem_in w.part) w.part.links mid (forest_links w) staying (links_dropped g.branches name) link walk
          are.links (counted_one w t g name are at plus w.part.matching.matches) adds;
      once =
          dropped_once (problem_in w.part) w.part.links (forest_links w) staying (links_dropped g.branches name) are.links
          (counted_one w t g name are at plus w.part.matching.matches);
    }

    module _ (m : MatchingValue) (new : Table) (forest : List (Option Grown))
        (done : IsTreeMatched t g name w.part.matching mid w.forest m new forest) where
      out_taken : (out : Match) → names_of out ≡ name ∷ []
          → AreTaken w.part.matching g.root name m.unmatched w.part.matching.matches out
      out_taken out names = taken_at_boundary w.part.matching g.root name m.unmatched out names done.unmatched

      -- the last match is of a node that isn't listed
      pub last_fresh : (out : Match) → names_of out ≡ name ∷ [] → All (λ n. is_in (listed_names m) n ≡ false) (names_of out)
      last_fresh out names =
          subst (λ ms. All (λ n. is_in (m.unmatched ++ matched_names ms) n ≡ false) (names_of out)) (sym done.matches)
          (fresh_last (record { matches = w.part.matching.matches; unmatched = m.unmatched }) ends out
          (apart_one w t g name are at plus m.unmatched w.part.matching.matches out (out_taken out names)))

      module _ (v : ℕ) (is : IsOutWalk (problem_in w.part) w.part.nodes name v walk)
          (boundary : (problem_in w.part).is_real v ≡ false) where
        abbrev out : Match
        out = boundary_match link name

        abbrev is_left : IsLeft w (trees_beside w.forest t) new m.unmatched w.part.matching.matches (ended_matches g.branches name)
            (boundary_match link name)
        is_left = record {
          mid = mid;
          walk = walk;
          gone = links_dropped g.branches name;
          adds = adds;
          forgets = done.links;
          steps = is.walk_is.steps;
          counted = counted_one w t g name are at plus w.part.matching.matches;
          listed = listed_one w t g name are at plus m.unmatched w.part.matching.matches out (out_taken out refl);
          lead = lead_one w t g name are at plus w.part.matching.matches (λ e a. a);
          leads = (v, is.leaves, boundary);
        }

        law : IsFewer (problem_in w.part) (among_trees (before_by w t) (after_by w t) (waiting_in w) (own_state w g are.state.0))
            (ended_forest (before_by w t) (after_by w t) (waiting_in w) name (link_of walk)
            (map (link_by w.part.links) (match_links w.part.matching.matches)) (own_state w g are.state.0))
        law =
            forest_state_ended (problem_in w.part) (before_by w t) (after_by w t) (waiting_in w) (own_state w g are.state.0) name (link_of walk) v
            (record {
              plus = ap (λ l. is_in l name) (plus_moved (link_by w.part.links) g.root g.branches) ∙ plus;
              tight = is.walk_is.tight;
            })
            is.leaves boundary (state_of_one w t g name are at plus)

        moved : IsPermutation (names_without g.root w.part.matching.unmatched) m.unmatched
        moved = without_taken g.root w.part.matching.unmatched m.unmatched are.state.1.names.distinct done.unmatched

        abbrev told_of : List AnyTree → Type 0
        told_of ts =
            IsForestState (problem_in w.part)
            (with_trees ts (waiting_in w) are.state.0
            (ended_state name (link_of walk) (map (link_by w.part.links) (match_links w.part.matching.matches))
            (names_without g.root w.part.matching.unmatched) (own_state w g are.state.0)))

        told : told_of (map (tree_by w.part.links) (trees_beside w.forest t))
        told = subst told_of (sym (map-append (tree_by w.part.links) (trees_before w.forest t) (trees_after w.forest t))) law.state

        state : IsForestState (problem_in w.part)
            (record {
              nodes = w.part.nodes;
              cycles = cycles_by new w.part.store;
              trees = map (tree_by new) (trees_beside w.forest t);
              rest = map (link_by new) (match_links (w.part.matching.matches ++ (ended_matches g.branches name ++ boundary_match link name ∷ [])));
              unmatched = m.unmatched;
              waiting = waiting_among (trees_beside w.forest t) m.unmatched;
              parity = are.state.0;
            })
        state =
            state_left w (trees_beside w.forest t) new m.unmatched w.part.matching.matches ends out are is_left
            _ (names_without g.root w.part.matching.unmatched) (waiting_in w) are.state.0
            (rest_one w t g name are at plus w.part.matching.matches (link_of walk)) moved told

        ended : AreGone w (trees_beside w.forest t) m.unmatched
        ended =
            gone_one w t g name are at plus m.unmatched done.unmatched
            (waits_left w (trees_beside w.forest t) new m.unmatched w.part.matching.matches ends out are is_left
            _ (names_without g.root w.part.matching.unmatched) (waiting_in w) are.state.0 moved told)

        gone : trees_in forest ≡ trees_beside w.forest t
        gone = ap trees_in done.dissolved ∙ trees_without w.forest t g at

        -- growing trees are left, with less to do
        pub boundary_left : (last : MatchingValue)
            → last ≡ record { matches = m.matches ++ boundary_match link name ∷ []; unmatched = m.unmatched } → (watched : Watched)
            → WatchesEach (problem_in w.part) w.part.nodes (minus_names g.branches) w.watched watched
            → All (λ k. k < watched.edge_count) watched.edges
            → IsGrowing (left_growth w new last forest watched) × GrowsOn w (left_growth w new last forest watched)
        boundary_left last is_last watched watches within =
            subst (λ n. IsGrowing (left_growth w new n forest watched) × GrowsOn w (left_growth w new n forest watched)) (sym listed) (
              growing_left w (trees_beside w.forest t) new m.unmatched w.part.matching.matches ends out are is_left forest gone watched
                  (minus_names g.branches) (plus_beside w.forest t g at) (minus_parted w.forest t g at) watches within
                  (minus_beside w.forest t g at) are.state.0 state,
              grows_left w (trees_beside w.forest t) new m.unmatched w.part.matching.matches ends out are is_left forest gone watched
                  (minus_names g.branches) (plus_beside w.forest t g at) (minus_parted w.forest t g at) watches within ended,
            )
          where
            listed : last ≡ record { matches = w.part.matching.matches ++ (ended_matches g.branches name ++ boundary_match link name ∷ []); unmatched = m.unmatched }
            listed =
                is_last
                ∙ (λ k.
                record {
                  matches =
                      (ap (λ l. l ++ out ∷ []) done.matches ∙ append_assoc w.part.matching.matches ends (out ∷ [])) k;
                  unmatched = m.unmatched;
                })

        -- and the index has its matches to the boundary
        pub boundary_listed : (last : MatchingValue)
            → last ≡ record { matches = m.matches ++ boundary_match link name ∷ []; unmatched = m.unmatched }
            → (s after : Seams) (owner : Option ℕ) → Lists s w.part → AddsName owner name s after
            → owner ≡ owner_of w.part.job.plan (far_end (problem_in w.part).is_real (link_by mid link))
            → AreListed (problem_in w.part).is_real w.part.job.plan after new last.matches
        boundary_listed last is_last s after owner listed lists owned =
            subst (AreListed (problem_in w.part).is_real w.part.job.plan after new)
            (sym (ap (λ n. n.matches) is_last ∙ (ap (λ l. l ++ out ∷ []) done.matches ∙ append_assoc w.part.matching.matches ends (out ∷ []))))
            (listed_ended (problem_in w.part).is_real w.part.job.plan after w.part.links new w.part.matching.matches w.part.matching.matches
            g.branches name out
            (listed_more (problem_in w.part).is_real w.part.job.plan s after w.part.links w.part.matching.matches owner name lists listed)
            (λ e a. (
              a,
              stays_by w (trees_beside w.forest t) new m.unmatched w.part.matching.matches ends out are is_left e.link
                  (is_in-left (match_links (w.part.matching.matches ++ ends)) _ e.link
                  (link_in (w.part.matching.matches ++ ends) e (among_left w.part.matching.matches ends e a))),
            ))
            (last_listed (problem_in w.part).is_real w.part.job.plan s after new owner link name lists
            (owned
            ∙ ap (λ l. owner_of w.part.job.plan (far_end (problem_in w.part).is_real l))
            (ap (λ o. link_of (unwrap_or o [])) adds.added
            ∙ sym (out_link w (trees_beside w.forest t) new m.unmatched w.part.matching.matches ends out are is_left)))))
