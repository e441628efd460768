use Rattle.std.proofs.Common.{◌≡◌, drop}
use Rattle.fb_predict.specs.InternalRests.{HasTaken, rest_01}
use Rattle.fb_predict.proofs.coded.put_01.Given as goal

abbrev pub invariant-loop-bit : goal.invariant-loop-bit
invariant-loop-bit g l =
    HasTaken (g.S.Sink.taken l.initial.sink) (g.S.Sink.taken l.sink) (rest_01 l.bits) (rest_01 (drop l.bit-index l.bits))
    × (g.S.Sink.faults l.sink ≡ g.S.Sink.faults l.initial.sink)
