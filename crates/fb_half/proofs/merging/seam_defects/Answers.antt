use Rattle.std.proofs.Common.{◌<◌, ◌∙◌, length, All, ap, filter, sym, subst}
use Rattle.std.specs.List.Sorted.{IsStrictlyIncreasing}
use Rattle.std.proofs.lemmas.List.Kept.{IsStrictlyIncreasing-filter}
use Rattle.fb_graph.specs.Limits.{IsGraph, odd_ends}
use Rattle.fb_plan.specs.Plans.{node_count}
use Rattle.fb_half.specs.Merged.{is_owned_by}
use Rattle.fb_half.proofs.BegunParts.{shot_at, shot_below, shot_read}
use Rattle.fb_half.proofs.ShiftedLists.{ends_below, shifted_kept, turned_below}
use Rattle.fb_half.proofs.merging.seam_defects.Goals as goal

pub seam_vertices-requires-clause-node : goal.seam_vertices-requires-clause-node
seam_vertices-requires-clause-node c = subst (λ t. c.args.node < node_count t) (sym c.plan-plan.ensures) c.requires.node

pub seam_vertices-requires-clause-rising : goal.seam_vertices-requires-clause-rising
seam_vertices-requires-clause-rising c = subst IsStrictlyIncreasing (sym c.as_slice.ensures.defects) c.as_slice.ensures.rising

pub seam_vertices-requires-clause-below : goal.seam_vertices-requires-clause-below
seam_vertices-requires-clause-below c =
    subst (λ t. All (λ v. v < length t.owners) c.as_slice.result.now) (sym c.plan-plan.ensures)
    (subst (λ n. All (λ v. v < n) c.as_slice.result.now) (sym c.keeps.ensures.plan.count)
    (subst (All (λ v. v < c.args.job.now.graph.vertices)) (sym c.as_slice.ensures.defects)
    (subst (λ s. All (λ v. v < c.args.job.now.graph.vertices) s.defects)
    (sym (shot_read c.args.job.now c.args.slot _ _ c.shots.ensures c.requires.slot c.index-shots-slot.is))
    (shot_below c.args.job.now.graph _ (shot_at c.args.job.now c.args.slot c.keeps.ensures c.requires.slot)))))

pub seam_vertices-requires-2-clause-below : goal.seam_vertices-requires-2-clause-below
seam_vertices-requires-2-clause-below c =
    subst (λ t. All (λ v. v < length t.owners) c.turned.result.now) (sym c.plan-plan.ensures)
    (subst (λ n. All (λ v. v < n) c.turned.result.now) (sym c.keeps.ensures.plan.count)
    (subst (λ g. All (λ v. v < g.vertices) c.turned.result.now) c.graph-graph.ensures
    (subst (All (λ v. v < c.graph-graph.result.now.vertices)) (sym c.turned.ensures.vertices)
    (ends_below c.graph-graph.result.now c.graph-graph.result.now.negatives))))

pub seam_vertices-requires-3-clause-rising : goal.seam_vertices-requires-3-clause-rising
seam_vertices-requires-3-clause-rising c = subst IsStrictlyIncreasing (sym c.turned-2.ensures.vertices) c.turned-2.ensures.rising

pub seam_vertices-requires-3-clause-below : goal.seam_vertices-requires-3-clause-below
seam_vertices-requires-3-clause-below c =
    subst (λ t. All (λ v. v < length t.owners) c.turned-2.result.now) (sym c.plan-plan.ensures)
    (subst (λ n. All (λ v. v < n) c.turned-2.result.now) (sym c.keeps.ensures.plan.count)
    (subst (All (λ v. v < c.args.job.now.graph.vertices)) (sym c.turned-2.ensures.vertices)
    (subst (λ s. All (λ v. v < c.args.job.now.graph.vertices) s.turned)
    (sym (shot_read c.args.job.now c.args.slot _ _ c.shots.ensures c.requires.slot c.index-shots-slot.is))
    (turned_below c.args.job.now.graph _ (shot_at c.args.job.now c.args.slot c.keeps.ensures c.requires.slot)))))

pub odd_among-requires-clause-first : goal.odd_among-requires-clause-first
odd_among-requires-clause-first c =
    subst IsStrictlyIncreasing (sym (c.deref.ensures.value ∙ c.in_ok-given.ensures))
    (IsStrictlyIncreasing-filter (is_owned_by c.plan-plan.result.now c.args.node) c.as_slice.result.now
    (subst IsStrictlyIncreasing (sym c.as_slice.ensures.defects) c.as_slice.ensures.rising))

pub odd_among-requires-clause-second : goal.odd_among-requires-clause-second
odd_among-requires-clause-second c =
    subst IsStrictlyIncreasing (sym (c.deref-2.ensures.value ∙ c.in_ok-by_graph.ensures))
    (IsStrictlyIncreasing-filter (is_owned_by c.plan-plan.result.now c.args.node) c.turned.result.now c.turned.ensures.rising)

pub odd_among-requires-clause-third : goal.odd_among-requires-clause-third
odd_among-requires-clause-third c =
    subst IsStrictlyIncreasing (sym (c.deref-3.ensures.value ∙ c.in_ok-by_shot.ensures))
    (IsStrictlyIncreasing-filter (is_owned_by c.plan-plan.result.now c.args.node) c.turned-2.result.now
    (subst IsStrictlyIncreasing (sym c.turned-2.ensures.vertices) c.turned-2.ensures.rising))

pub returns-clause-shifted : goal.returns-clause-shifted
returns-clause-shifted c =
    let shot_is = shot_read c.args.job.now c.args.slot _ _ c.shots.ensures c.requires.slot c.index-shots-slot.is in
    shifted_kept (is_owned_by c.args.job.now.plan c.args.node) c.args.job.now.graph _ (subst IsGraph c.graph-graph.ensures c.limits.ensures)
    (shot_at c.args.job.now c.args.slot c.keeps.ensures c.requires.slot)
    c.in_ok-shifted.shifted.items c.deref.result.now c.deref-2.result.now c.deref-3.result.now
    (c.deref.ensures.value ∙ (c.in_ok-given.ensures
    ∙ (λ i. filter (is_owned_by (c.plan-plan.ensures i) c.args.node) ((c.as_slice.ensures.defects ∙ ap (λ s. s.defects) shot_is) i))))
    (c.deref-2.ensures.value ∙ (c.in_ok-by_graph.ensures
    ∙ (λ i. filter (is_owned_by (c.plan-plan.ensures i) c.args.node) ((c.turned.ensures.vertices ∙ ap (λ g. odd_ends g g.negatives) c.graph-graph.ensures) i))))
    (c.deref-3.ensures.value ∙ (c.in_ok-by_shot.ensures
    ∙ (λ i. filter (is_owned_by (c.plan-plan.ensures i) c.args.node) ((c.turned-2.ensures.vertices ∙ ap (λ s. s.turned) shot_is) i))))
    c.in_ok-shifted.ensures.rising c.in_ok-shifted.ensures.parity
