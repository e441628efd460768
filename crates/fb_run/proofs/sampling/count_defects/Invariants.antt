use Rattle.fb_graph.specs.Limits.{most_vertices}
use Rattle.std.proofs.Common.{◌≡◌, ◌*◌, ◌≤◌, take}
use Rattle.fb_crew.specs.Windows.{defect_count}
use Rattle.fb_run.proofs.sampling.count_defects.Given as goal

abbrev pub invariant-loop-shot : goal.invariant-loop-shot
invariant-loop-shot l = (l.count ≡ defect_count (take l.shot-index l.shots)) × (l.count ≤ most_vertices * l.shot-index)
