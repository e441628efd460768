use Rattle.std.proofs.Common.{◌≡◌, ◌≤◌, ◌-◌, length}
use Rattle.fb_files.specs.Taking.{GivesShots}
use Rattle.fb_files.proofs.taking.take_window.Given as goal

abbrev pub invariant-loop-stream : goal.invariant-loop-stream
invariant-loop-stream g l = record {
  gives : GivesShots l.initial.stream l.stream (g.F.Files.left l.initial.files) (g.F.Files.left l.files) l.shots.items;
  few : length l.shots.items ≤ l.most;
  unchanged : g.F.Files.faults l.files ≡ g.F.Files.faults l.initial.files;
  names : g.F.Files.named l.files ≡ g.F.Files.named l.initial.files;
  asks : g.F.Files.asked l.files ≡ g.F.Files.asked l.initial.files;
}

abbrev pub decreases-loop-stream : goal.decreases-loop-stream
decreases-loop-stream g l = l.most - length l.shots.items
