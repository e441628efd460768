use Rattle.std.proofs.Common.{sym}
use Rattle.fb_links.proofs.Ends.{last_end}
use Rattle.fb_links.proofs.steps.end_of.Goals as goal

pub returns-in-Some : goal.returns-in-Some
returns-in-Some c = last_end c.args.steps.now c.in-Some.last.now (sym c.in-Some.ensures.value)
