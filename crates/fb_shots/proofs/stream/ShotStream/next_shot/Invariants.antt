use Rattle.std.proofs.Common.{◌≡◌}
use Rattle.fb_shots.specs.Steps.{OnlyTakes}
use Rattle.fb_shots.specs.InternalReads.{may_read}
use Rattle.fb_shots.proofs.stream.ShotStream.next_shot.Given as goal

abbrev pub invariant-loop-step : goal.invariant-loop-step
invariant-loop-step g l =
    OnlyTakes l.initial.self l.self (g.F.Files.left l.initial.files) (g.F.Files.left l.files)
    × (g.F.Files.faults l.files ≡ g.F.Files.faults l.initial.files)
    × (g.F.Files.named l.files ≡ g.F.Files.named l.initial.files)
    × (g.F.Files.asked l.files ≡ g.F.Files.asked l.initial.files)

abbrev pub decreases-loop-step : goal.decreases-loop-step
decreases-loop-step g l = may_read l.self
