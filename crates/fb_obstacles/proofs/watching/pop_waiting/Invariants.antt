use Rattle.std.proofs.Common.{length}
use Rattle.indexmap.specs.IndexMap.{keys, values}
use Rattle.fb_obstacles.specs.InternalWatch.{AreDue}
use Rattle.fb_obstacles.proofs.watching.pop_waiting.Given as goal

abbrev pub invariant-loop-due : goal.invariant-loop-due
invariant-loop-due l = AreDue l.queue (values l.fn.known) (keys l.fn.known) l.fn.queued

abbrev pub decreases-loop-due : goal.decreases-loop-due
decreases-loop-due l = length l.queue
