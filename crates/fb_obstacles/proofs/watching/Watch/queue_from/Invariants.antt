use Rattle.std.proofs.Common.{◌≤◌, ◌-◌, length}
use Rattle.fb_obstacles.specs.InternalWatch.{Reorders}
use Rattle.fb_obstacles.proofs.watching.Watch.queue_from.Given as goal

abbrev pub invariant-loop-place : goal.invariant-loop-place
invariant-loop-place l = record {
  behind : l.self.queued ≤ l.place;
  same : Reorders l.initial.self l.self;
}

abbrev pub decreases-loop-place : goal.decreases-loop-place
decreases-loop-place l = length l.self.edges - l.place
