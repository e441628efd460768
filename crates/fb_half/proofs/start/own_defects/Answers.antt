use Rattle.std.proofs.Common.{◌<◌, ◌∙◌, All, ap, filter, sym, subst}
use Rattle.std.specs.List.Sorted.{IsStrictlyIncreasing}
use Rattle.std.proofs.lemmas.List.Kept.{IsStrictlyIncreasing-filter}
use Rattle.fb_plan.specs.Scopes.{scope_problem}
use Rattle.fb_half.proofs.BegunParts.{shot_below}
use Rattle.fb_half.proofs.ShiftedLists.{ends_below, shifted_kept, turned_below}
use Rattle.fb_half.proofs.start.own_defects.Goals as goal

pub own_vertices-requires-clause-below : goal.own_vertices-requires-clause-below
own_vertices-requires-clause-below c =
    subst (All (λ v. v < c.args.scope.now.graph.now.vertices)) (sym c.as_slice.ensures.defects)
    (shot_below c.args.scope.now.graph.now c.args.scope.now.shot.now c.args.scope.now.fits)

pub own_vertices-requires-2-clause-below : goal.own_vertices-requires-2-clause-below
own_vertices-requires-2-clause-below c =
    subst (All (λ v. v < c.args.scope.now.graph.now.vertices)) (sym c.turned.ensures.vertices)
    (ends_below c.args.scope.now.graph.now c.args.scope.now.graph.now.negatives)

pub own_vertices-requires-3-clause-below : goal.own_vertices-requires-3-clause-below
own_vertices-requires-3-clause-below c =
    subst (All (λ v. v < c.args.scope.now.graph.now.vertices)) (sym c.turned-2.ensures.vertices)
    (turned_below c.args.scope.now.graph.now c.args.scope.now.shot.now c.args.scope.now.fits)

pub odd_among-requires-clause-first : goal.odd_among-requires-clause-first
odd_among-requires-clause-first c =
    subst IsStrictlyIncreasing (sym (c.deref.ensures.value ∙ c.in_ok-given.ensures))
    (IsStrictlyIncreasing-filter (scope_problem c.args.scope.now).is_real c.as_slice.result.now
    (subst IsStrictlyIncreasing (sym c.as_slice.ensures.defects) c.as_slice.ensures.rising))

pub odd_among-requires-clause-second : goal.odd_among-requires-clause-second
odd_among-requires-clause-second c =
    subst IsStrictlyIncreasing (sym (c.deref-2.ensures.value ∙ c.in_ok-by_graph.ensures))
    (IsStrictlyIncreasing-filter (scope_problem c.args.scope.now).is_real c.turned.result.now c.turned.ensures.rising)

pub odd_among-requires-clause-third : goal.odd_among-requires-clause-third
odd_among-requires-clause-third c =
    subst IsStrictlyIncreasing (sym (c.deref-3.ensures.value ∙ c.in_ok-by_shot.ensures))
    (IsStrictlyIncreasing-filter (scope_problem c.args.scope.now).is_real c.turned-2.result.now
    (subst IsStrictlyIncreasing (sym c.turned-2.ensures.vertices) c.turned-2.ensures.rising))

pub returns-clause-shifted : goal.returns-clause-shifted
returns-clause-shifted c =
    shifted_kept (scope_problem c.args.scope.now).is_real c.args.scope.now.graph.now c.args.scope.now.shot.now c.limits.ensures c.args.scope.now.fits
    c.in_ok-shifted.shifted.items c.deref.result.now c.deref-2.result.now c.deref-3.result.now
    (c.deref.ensures.value ∙ (c.in_ok-given.ensures ∙ ap (filter (scope_problem c.args.scope.now).is_real) c.as_slice.ensures.defects))
    (c.deref-2.ensures.value ∙ (c.in_ok-by_graph.ensures ∙ ap (filter (scope_problem c.args.scope.now).is_real) c.turned.ensures.vertices))
    (c.deref-3.ensures.value ∙ (c.in_ok-by_shot.ensures ∙ ap (filter (scope_problem c.args.scope.now).is_real) c.turned-2.ensures.vertices))
    c.in_ok-shifted.ensures.rising c.in_ok-shifted.ensures.parity
