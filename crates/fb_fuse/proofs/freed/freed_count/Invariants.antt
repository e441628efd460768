use Rattle.std.proofs.Common.{◌≡◌, ◌≤◌, length, take}
use Rattle.std.specs.List.{filter}
use Rattle.fb_half.specs.Merged.{is_freed}
use Rattle.fb_fuse.proofs.freed.freed_count.Given as goal

abbrev pub invariant-loop-m : goal.invariant-loop-m
invariant-loop-m l =
    (l.count ≡ length (filter (is_freed l.half l.node) (take l.m-index l.half.matching.matches)))
    × (l.count ≤ l.m-index)
