-- So far the sink has taken the parts before `part` whole, and no fault came.
use Rattle.std.proofs.Common.{take, map, ◌≡◌}
use Rattle.fb_ports.specs.Causes.{Appends, concat}
use Rattle.fb_ports.proofs.writing.put_parts.Given as goal

abbrev pub invariant-loop-part : goal.invariant-loop-part
invariant-loop-part g l =
    Appends (g.S.Sink.taken l.initial.sink) (g.S.Sink.taken l.sink) (concat (map (λ p. p.now) (take l.part-index l.parts)))
    × (g.S.Sink.faults l.sink ≡ g.S.Sink.faults l.initial.sink)
