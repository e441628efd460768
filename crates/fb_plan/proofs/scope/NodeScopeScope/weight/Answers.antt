use Rattle.std.proofs.Common.{◌<◌, length, arith}
use Rattle.fb_graph.proofs.ShotGraphs.{length_changed}
use Rattle.fb_plan.proofs.scope.NodeScopeScope.weight.Goals as goal

pub absolute_weight-requires : goal.absolute_weight-requires
absolute_weight-requires c =
    omega (arith, c.requires, length_changed c.args.self.now.shot.now.changes c.args.self.now.graph.now.edges)
