use Rattle.std.proofs.Common.{take}
use Rattle.fb_search.specs.InternalOpenings.{EntersWay}
use Rattle.fb_search.proofs.opening.enter_way.Given as goal

abbrev pub invariant-loop-step : goal.invariant-loop-step
invariant-loop-step g l = EntersWay l.regions.nodes (g.R.Roles.role_of l.roles) (take l.step-index l.steps) l.initial.watch l.watch
