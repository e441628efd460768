use Rattle.std.proofs.Common.{◌≡◌, ◌-◌, ◌≤◌}
use Rattle.fb_check.proofs.Checked.{IsChecking}
use Rattle.fb_check.proofs.checking.judge_into.Given as goal

abbrev pub invariant-loop-step : goal.invariant-loop-step
invariant-loop-step g l =
    IsChecking l.initial.judge l.rows l.initial.stream l.stream (g.F.Files.left l.initial.files) (g.F.Files.left l.files)
    (g.O.Sink.taken l.initial.out) (g.O.Sink.taken l.out) l.outbox.text l.shots l.bad
    × (l.bad ≤ l.shots)
    × (l.shots ≡ l.stream.given)
    × (l.stream.given ≤ l.stream.limit)
    × (g.F.Files.faults l.files ≡ g.F.Files.faults l.initial.files)
    × (g.F.Files.asked l.files ≡ g.F.Files.asked l.initial.files)
    × (g.O.Sink.faults l.out ≡ g.O.Sink.faults l.initial.out)
    × (l.judge ≡ l.initial.judge)

abbrev pub decreases-loop-step : goal.decreases-loop-step
decreases-loop-step g l = l.stream.limit - l.stream.given
