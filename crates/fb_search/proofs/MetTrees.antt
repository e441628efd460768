-- Trees that have met a matched node may take it in with its mate.
use Rattle.std.proofs.Common.{ℕ, ◌≡◌, ◌≢◌, ◌*◌, ◌<◌, ◌&&◌, cond, true, All, List, [], ◌∷◌, set, Option, Some, sym, ap, ◌∙◌, subst}
use Rattle.fb_graph.specs.Parity.{is_in}
use Rattle.fb_graph.specs.Dual.{is_live, top_at}
use Rattle.fb_graph.specs.Limits.{IsWithinLimits}
use Rattle.fb_half.specs.Matchings.{matched_names}
use Rattle.fb_half.specs.Parts.{problem_in}
use Rattle.fb_links.specs.Table as table
use Rattle.fb_obstacles.specs.InternalWatching.{EntersNode, Watches}
use Rattle.fb_obstacles.specs.Watched.{Watched}
use Rattle.fb_regions.specs.Moves.{node_named}
use Rattle.fb_regions.specs.Paces.{Paced, pace_in}
use Rattle.fb_trees.specs.Branches.{Grown}
use Rattle.fb_trees.specs.Forests.{AreInPace, IsOutside, IsPlusNode, IsTreeOf, role_among, tree_at}
use Rattle.fb_trees.specs.Rooted.{attached_grown}
use Rattle.fb_trees.proofs.Names.{plus_in_tree}
use Rattle.fb_search.specs.declared.growing_meets.Met.{Met}
use Rattle.fb_search.specs.InternalGrowing.{GrowingValue, IsGrowing}
use Rattle.fb_search.specs.InternalGrowth.{GrowsOn}
use Rattle.fb_search.specs.InternalMeetings.{IsCouple}
use Rattle.fb_search.specs.InternalTreeMeetings.{HasMetTree}
use Rattle.fb_search.proofs.AttachedForests.{attached_grows, attached_keeps, link_is_live, taken_is_live, with_grown}
use Rattle.fb_search.proofs.AttachedSearches.{branch_met}
use Rattle.fb_search.proofs.PacedMoves.{paced_attached}
use Rattle.fb_search.proofs.TreeMatches.{couple_apart, couple_in, live_matched, matched_in_none}

module _ (w : GrowingValue) (met : Met) (now : GrowingValue) (h : HasMetTree w met now) (mate : ℕ) (couple : IsCouple met.taken met.other mate) where
  abbrev tree : ℕ
  tree = h.plus.tree

  abbrev grown : Grown
  grown = h.plus.grown

  same_forest : now.forest ≡ w.forest
  same_forest = ap (λ s. s.forest) h.is

  listed : (is_in (matched_names w.part.matching.matches) met.other ≡ true)
      × (is_in (matched_names w.part.matching.matches) mate ≡ true)
  listed = couple_in (problem_in w.part) w.part.nodes w.part.links w.part.matching _ h.was.matching met.taken now.part.matching.matches h.matches met.other mate couple

  pub met_link : table.is_live now.part.links met.link ≡ true
  met_link = link_is_live w met now h mate couple tree grown h.plus.at h.plus.plus

  pub met_taken : table.is_live now.part.links met.taken.link ≡ true
  met_taken = taken_is_live w met now h mate couple tree grown h.plus.at h.plus.plus

  pub met_plus : IsPlusNode now.forest met.plus
  met_plus = subst (λ f. IsPlusNode f met.plus) (sym same_forest) h.plus

  pub met_other : IsOutside now.forest met.other
  met_other = subst (λ f. IsOutside f met.other) (sym same_forest) (matched_in_none _ w h.was met.other listed.0)

  pub met_mate : IsOutside now.forest mate
  met_mate = subst (λ f. IsOutside f mate) (sym same_forest) (matched_in_none _ w h.was mate listed.1)

  pub met_live : is_live now.part.nodes mate ≡ true
  met_live = ap (λ s. is_live s.part.nodes mate) h.is ∙ live_matched (problem_in w.part) w.part.nodes w.part.links w.part.matching _ h.was.matching mate listed.1

  pub met_entered : is_live now.part.nodes met.other ≡ true
  met_entered =
      ap (λ s. is_live s.part.nodes met.other) h.is
      ∙ live_matched (problem_in w.part) w.part.nodes w.part.links w.part.matching _ h.was.matching met.other listed.0

  pub met_apart : met.other ≢ mate
  met_apart = couple_apart (problem_in w.part) w.part.nodes w.part.links w.part.matching _ h.was.matching met.taken now.part.matching.matches h.matches met.other mate couple

  -- what the forest becomes
  pub met_put : (new : List (Option Grown))
      → ((t : ℕ) (g : Grown) → IsTreeOf now.forest met.plus t g → new ≡ set now.forest t (Some (attached_grown g (branch_met met mate))))
      → new ≡ set now.forest tree (Some (attached_grown grown (branch_met met mate)))
  met_put new each =
      each tree grown (record {
        at = ap (λ f. tree_at f tree) same_forest ∙ h.plus.at;
        has = plus_in_tree grown.root grown.branches met.plus h.plus.plus;
      })

  pub met_attached : IsWithinLimits (problem_in now.part) → (between new : Watched) → All (λ j. j < new.edge_count) new.edges
      → EntersNode met.other (2 * (node_named now.part.nodes met.other).top.value) now.watched between
      → Watches (problem_in now.part) (top_at now.part.nodes mate) between new
      → IsGrowing (with_grown tree grown (branch_met met mate) new now)
  met_attached = attached_keeps w met now h mate couple tree grown h.plus.at h.plus.plus

  pub met_grows : IsWithinLimits (problem_in now.part) → (new : Watched) → GrowsOn w (with_grown tree grown (branch_met met mate) new now)
  met_grows = attached_grows w met now h mate couple tree grown h.plus.at h.plus.plus

  -- and its nodes move as it says
  pub met_paced : {S : Type 0} (before after : Paced S) → before.nodes ≡ now.part.nodes → AreInPace before now.forest
      → ((n : ℕ) → pace_in after n
      ≡ cond (is_in (met.other ∷ mate ∷ []) n && is_live before.nodes n)
      (role_among (set now.forest tree (Some (attached_grown grown (branch_met met mate)))) n) (pace_in before n))
      → AreInPace after (set now.forest tree (Some (attached_grown grown (branch_met met mate))))
  met_paced before after nodes =
      paced_attached before after now.forest tree grown (branch_met met mate) (ap (λ f. tree_at f tree) same_forest ∙ h.plus.at)
      (ap (λ ns. is_live ns met.other) nodes ∙ met_entered) (ap (λ ns. is_live ns mate) nodes ∙ met_live)
