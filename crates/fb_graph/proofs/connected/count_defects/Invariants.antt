use Rattle.std.proofs.Common.{take}
use Rattle.fb_graph.specs.InternalLabelling.{AreOdd}
use Rattle.fb_graph.proofs.connected.count_defects.Given as goal

abbrev pub invariant-loop-defect : goal.invariant-loop-defect
invariant-loop-defect l = AreOdd l.labels (take l.defect-index l.defects) l.odd
