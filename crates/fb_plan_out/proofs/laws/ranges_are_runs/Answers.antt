use Rattle.fb_plan_out.proofs.Gaps.{ranges_are_runs}
use Rattle.fb_plan_out.proofs.laws.ranges_are_runs.Goals as goal

pub returns : goal.returns
returns c = ranges_are_runs
