use Rattle.std.proofs.Common.{◌<◌, length, sym, ◌∙◌, arith}
use Rattle.fb_graph.proofs.ShotGraphs.{first_changed, length_changed, second_changed}
use Rattle.fb_plan.proofs.scope.NodeScopeScope.ends.Goals as goal

pub ends-requires : goal.ends-requires
ends-requires c =
    omega (arith, c.requires, length_changed c.args.self.now.shot.now.changes c.args.self.now.graph.now.edges)

pub returns-clause-first : goal.returns-clause-first
returns-clause-first c =
    c.ends.ensures.first ∙ sym (first_changed c.args.self.now.shot.now.changes c.args.self.now.graph.now.edges c.args.e)

pub returns-clause-second : goal.returns-clause-second
returns-clause-second c =
    c.ends.ensures.second ∙ sym (second_changed c.args.self.now.shot.now.changes c.args.self.now.graph.now.edges c.args.e)
