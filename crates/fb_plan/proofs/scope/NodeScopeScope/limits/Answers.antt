use Rattle.fb_plan.proofs.ShotPlans.{scope_limits}
use Rattle.fb_plan.proofs.scope.NodeScopeScope.limits.Goals as goal

pub returns : goal.returns
returns c =
    scope_limits c.args.self.now.graph.now c.args.self.now.plan.now c.args.self.now.node c.args.self.now.shot.now
    c.limits.ensures c.args.self.now.fits
