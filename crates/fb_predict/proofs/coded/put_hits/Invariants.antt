use Rattle.std.proofs.Common.{◌≡◌, drop}
use Rattle.fb_shots_stim.specs.CodedShots.{coded_hits}
use Rattle.fb_predict.specs.InternalRests.{HasTaken, rest_hits}
use Rattle.fb_predict.proofs.coded.put_hits.Given as goal

abbrev pub invariant-loop-i : goal.invariant-loop-i
invariant-loop-i g l =
    HasTaken (g.S.Sink.taken l.fn.sink) (g.S.Sink.taken l.sink) (coded_hits l.bits) (rest_hits l.any l.i (drop l.i l.bits))
    × (g.S.Sink.faults l.sink ≡ g.S.Sink.faults l.fn.sink)
