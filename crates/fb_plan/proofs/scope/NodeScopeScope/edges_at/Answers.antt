use Rattle.std.proofs.Common.{◌∙◌}
use Rattle.fb_plan.proofs.ShotPlans.{touches_by_shot}
use Rattle.fb_plan.proofs.scope.NodeScopeScope.edges_at.Goals as goal

pub returns : goal.returns
returns c = c.edges_at.ensures ∙ touches_by_shot c.args.self.now.graph.now c.args.self.now.shot.now c.args.v
