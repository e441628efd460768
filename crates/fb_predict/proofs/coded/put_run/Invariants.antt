use Rattle.std.proofs.Common.{◌≡◌}
use Rattle.fb_shots_stim.specs.CodedShots.{run_of}
use Rattle.fb_predict.specs.InternalRests.{HasTaken}
use Rattle.fb_predict.proofs.coded.put_run.Given as goal

abbrev pub invariant-loop-left : goal.invariant-loop-left
invariant-loop-left g l =
    HasTaken (g.S.Sink.taken l.initial.sink) (g.S.Sink.taken l.sink) (run_of l.zeros) (run_of l.left)
    × (g.S.Sink.faults l.sink ≡ g.S.Sink.faults l.initial.sink)

abbrev pub decreases-loop-left : goal.decreases-loop-left
decreases-loop-left g l = l.left
