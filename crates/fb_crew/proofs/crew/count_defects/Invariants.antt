use Rattle.std.proofs.Common.{◌≡◌, ◌-◌, ◌^◌, min, take}
use Rattle.fb_crew.specs.Windows.{defect_count}
use Rattle.fb_crew.proofs.crew.count_defects.Given as goal

-- the defects of the shots so far are counted
abbrev pub invariant-loop-shot : goal.invariant-loop-shot
invariant-loop-shot l = l.count ≡ min (defect_count (take l.shot-index l.shots)) (2 ^ 64 - 1)
