use Rattle.std.proofs.Common.{◌≡◌, ◌^◌, ◌<◌, drop}
use Rattle.fb_shots_stim.specs.CodedShots.{bytes_from}
use Rattle.fb_predict.specs.InternalRests.{HasTaken}
use Rattle.fb_predict.proofs.coded.put_b8.Given as goal

abbrev pub invariant-loop-bit : goal.invariant-loop-bit
invariant-loop-bit g l =
    HasTaken (g.S.Sink.taken l.fn.sink) (g.S.Sink.taken l.sink) (bytes_from 0 0 l.bits) (bytes_from l.byte l.place (drop l.bit-index l.bits))
    × (g.S.Sink.faults l.sink ≡ g.S.Sink.faults l.fn.sink)
    × (l.place < 8) × (l.byte < 2 ^ l.place)
