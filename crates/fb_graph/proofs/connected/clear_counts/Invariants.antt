use Rattle.std.proofs.Common.{drop}
use Rattle.fb_graph.specs.InternalLabelling.{AreOf}
use Rattle.fb_graph.proofs.connected.clear_counts.Given as goal

abbrev pub invariant-loop-defect : goal.invariant-loop-defect
invariant-loop-defect l = AreOf l.labels (drop l.defect-index l.defects) l.odd
