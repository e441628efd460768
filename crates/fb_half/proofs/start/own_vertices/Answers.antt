use Rattle.std.proofs.Common.{◌<◌, ◌∙◌, All, ap, subst, sym}
use Rattle.std.proofs.lemmas.List.{take_all}
use Rattle.std.proofs.lemmas.List.Elements.{All-filter}
use Rattle.std.specs.List.{filter}
use Rattle.fb_plan.specs.Scopes.{scope_problem}
use Rattle.fb_plan.specs.Reaches.{is_reached}
use Rattle.fb_half.proofs.Reached.{filter_pushed, real_reached}
use Rattle.fb_half.proofs.start.own_vertices.Goals as goal

pub is_real-requires : goal.is_real-requires
is_real-requires c =
    subst (All (λ v. v < c.args.scope.now.graph.now.vertices)) (sym c.within-reached.ensures)
    (All-filter (is_reached c.args.reach) (λ v. v < c.args.scope.now.graph.now.vertices) c.args.vertices.now c.requires.below)
    c.loop-v.v-index 0 c.loop-v-test.true

pub loop-v-preserved : goal.loop-v-preserved
loop-v-preserved c =
    filter_pushed (scope_problem c.args.scope.now).is_real
    c.within-reached.result.now c.loop-v.v-index 0 c.loop-v.own _ c.is_real.result
    c.loop-v-test.true c.loop-v.invariant c.is_real.ensures c.in_ok-push_if.ensures.ok

pub returns : goal.returns
returns c =
    c.into_vec.ensures
    ∙ (c.loop-v.invariant
    ∙ (ap (filter (scope_problem c.args.scope.now).is_real)
    (take_all c.loop-v.v-index c.within-reached.result.now c.loop-v-test.false ∙ c.within-reached.ensures)
    ∙ real_reached (scope_problem c.args.scope.now) c.args.reach c.requires.reach c.args.vertices.now))
