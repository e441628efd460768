use Rattle.std.proofs.Common.{◌≤◌, arith}
use Rattle.fb_resolve.proofs.marks.no_marks.Goals as goal

pub returns-clause-places : goal.returns-clause-places
returns-clause-places c = λ x h. let low : x ≤ c.name_bound.result = c.name_bound.ensures x h in omega (arith, c.in-Some.ensures, c.in_ok-marks.ensures.len)
