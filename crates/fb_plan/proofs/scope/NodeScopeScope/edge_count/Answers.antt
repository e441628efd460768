use Rattle.std.proofs.Common.{sym, ◌∙◌}
use Rattle.fb_graph.proofs.ShotGraphs.{length_changed}
use Rattle.fb_plan.proofs.scope.NodeScopeScope.edge_count.Goals as goal

pub returns : goal.returns
returns c = c.edge_count.ensures ∙ sym (length_changed c.args.self.now.shot.now.changes c.args.self.now.graph.now.edges)
