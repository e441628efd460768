-- `bytes` is what was read so far, no fault came, and what was asked for and what the names hold is as at first.
use Rattle.std.proofs.Common.{◌≡◌, ◌+◌, ◌-◌, ◌<◌, ◌≤◌, vec_len}
use Rattle.fb_ports.specs.Causes.{Consumes}
use Rattle.fb_ports.proofs.reading.read_whole.Given as goal

abbrev pub invariant-loop-files : goal.invariant-loop-files
invariant-loop-files g l =
    Consumes (g.F.Files.left l.initial.files) (g.F.Files.left l.files) l.bytes.items
    × (g.F.Files.faults l.files ≡ g.F.Files.faults l.initial.files)
    × (g.F.Files.asked l.files ≡ g.F.Files.asked l.initial.files)
    × (g.F.Files.named l.files ≡ g.F.Files.named l.initial.files)
    × (vec_len l.bytes ≤ l.limit + 1)
    × (0 < vec_len l.chunk)

abbrev pub decreases-loop-files : goal.decreases-loop-files
decreases-loop-files g l = l.limit + 1 - vec_len l.bytes
