use Rattle.std.proofs.Common.{◌≡◌, ◌-◌, ◌*◌, None, length, All}
use Rattle.fb_hands.specs.Gates.{HasPassed}
use Rattle.fb_crew.proofs.worker.Worker.work.Given as goal

-- the worker holds nothing, and has not found all units taken
abbrev pub invariant-loop-self : goal.invariant-loop-self
invariant-loop-self g l = record {
  own : l.self.seat.board ≡ l.board;
  unended : l.self.seat.ends ≡ 0;
  came : All (HasPassed (g.G.Gate.passed l.runner.gate.now)) l.self.seat.entries;
  free : l.self.seat.held ≡ None;
}

-- the units that it has not claimed
abbrev pub decreases-loop-self : goal.decreases-loop-self
decreases-loop-self g l = length g.N.Board.job.shots * g.N.Board.job.plan.units - l.self.seat.claimed
