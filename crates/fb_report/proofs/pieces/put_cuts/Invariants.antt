-- So far the sink has taken the lines of the cuts before `cut`, and no fault came.
use Rattle.std.proofs.Common.{take, map, ◌≡◌}
use Rattle.fb_ports.specs.Causes.{Appends, concat}
use Rattle.fb_report.specs.Texts.{cut_line}
use Rattle.fb_report.proofs.pieces.put_cuts.Given as goal

abbrev pub invariant-loop-place : goal.invariant-loop-place
invariant-loop-place g l =
    Appends (g.S.Sink.taken l.initial.sink) (g.S.Sink.taken l.sink) (concat (map cut_line (take l.place l.cuts)))
    × (g.S.Sink.faults l.sink ≡ g.S.Sink.faults l.initial.sink)
