use Rattle.std.proofs.Common.{◌-◌, length}
use Rattle.fb_shots_stim.specs.InternalRuns.{IsInRun}
use Rattle.fb_shots_stim.proofs.runs.RunsRecordFormat.advance.Given as goal

abbrev pub invariant-loop-begun : goal.invariant-loop-begun
invariant-loop-begun l = IsInRun l.detectors l.begun.place l.begun.named.items l.begun.seen l.rest

abbrev pub decreases-loop-begun : goal.decreases-loop-begun
decreases-loop-begun l = length l.rest - l.begun.seen
