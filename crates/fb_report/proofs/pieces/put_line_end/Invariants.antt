-- So far the sink has taken the numbers before `number`, each after a space, and no fault came.
use Rattle.std.proofs.Common.{take, map, ◌≡◌}
use Rattle.fb_ports.specs.Causes.{Appends, concat}
use Rattle.fb_report.proofs.Lines.{spaced}
use Rattle.fb_report.proofs.pieces.put_line_end.Given as goal

abbrev pub invariant-loop-number : goal.invariant-loop-number
invariant-loop-number g l =
    Appends (g.S.Sink.taken l.initial.sink) (g.S.Sink.taken l.sink) (concat (map spaced (take l.number-index l.numbers)))
    × (g.S.Sink.faults l.sink ≡ g.S.Sink.faults l.initial.sink)
