use Rattle.std.proofs.Common.{◌≡◌, ◌≤◌, drop}
use Rattle.fb_shots_stim.specs.CodedShots.{runs_from}
use Rattle.fb_predict.specs.InternalRests.{HasTaken}
use Rattle.fb_predict.proofs.coded.put_r8.Given as goal

abbrev pub invariant-loop-bit : goal.invariant-loop-bit
invariant-loop-bit g l =
    HasTaken (g.S.Sink.taken l.initial.sink) (g.S.Sink.taken l.sink) (runs_from 0 l.bits) (runs_from l.zeros (drop l.bit-index l.bits))
    × (g.S.Sink.faults l.sink ≡ g.S.Sink.faults l.initial.sink)
    × (l.zeros ≤ l.bit-index)
