use Rattle.std.proofs.Common.{◌≡◌, true, arith}
use Rattle.std.proofs.lemmas.Grind.{common_steps}
use Rattle.fb_graph.specs.Parity.{is_in}
use Rattle.fb_graph.proofs.Floods.{flooding_end, flooding_start, is_in-with_vertex, labelling_from_flood}
use Rattle.fb_graph.proofs.connecting.label_vertices.Goals as goal

pub flood_component-requires-clause-place : goal.flood_component-requires-clause-place
flood_component-requires-clause-place g c = grind (arith, common_steps)

pub flood_component-requires-clause-flooding : goal.flood_component-requires-clause-flooding
flood_component-requires-clause-flooding g c =
    rw (c.in_ok-reach.ensures.ok, c.len-start.ensures.count)
    (flooding_start (g.S.Scope.problem c.args.scope.now) c.limits.ensures c.loop-v.flood c.loop-v.v c.loop-v.invariant (omega arith))

pub loop-v-preserved : goal.loop-v-preserved
loop-v-preserved g c =
    let within : is_in c.reach.new.self.order c.loop-v.v ≡ true =
    rw c.in_ok-reach.ensures.ok (is_in-with_vertex c.loop-v.flood c.loop-v.v c.loop-v.v) in
    flooding_end (g.S.Scope.problem c.args.scope.now) c.limits.ensures c.flood_component.new.flood c.loop-v.v
    c.in_ok-flood_component.ensures.flooding
    (c.in_ok-flood_component.ensures.grows.within c.loop-v.v within)

pub returns : goal.returns
returns g c =
    let all : c.loop-v.v ≡ (g.S.Scope.problem c.args.scope.now).vertices = omega arith in
    rw c.into_labels.ensures
    (labelling_from_flood (g.S.Scope.problem c.args.scope.now) c.limits.ensures c.loop-v.flood (rw all at c.loop-v.invariant))
