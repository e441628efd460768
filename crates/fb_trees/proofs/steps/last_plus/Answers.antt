use Rattle.std.proofs.Common.{sym}
use Rattle.fb_trees.proofs.StepLists.{last_is}
use Rattle.fb_trees.proofs.steps.last_plus.Goals as goal

pub returns-in-Some : goal.returns-in-Some
returns-in-Some c = last_is c.args.node c.args.path.now c.in-Some.branch.now (sym c.in-Some.ensures.value)
