use Rattle.std.proofs.Common.{ap, length, arith}
use Rattle.fb_graph.specs.ShotGraphs.{shot_graph}
use Rattle.fb_plan.proofs.Queries.{places_are}
use Rattle.fb_plan.proofs.scope.NodeScopeScope.places_differ.Goals as goal

pub returns : goal.returns
returns c =
    places_are (shot_graph c.args.self.now.graph.now c.args.self.now.shot.now) c.args.self.now.plan.now c.args.self.now.node
    (omega (arith, c.vertices_in-vertices.ensures.few, ap length c.vertices_in-vertices.ensures.value))
