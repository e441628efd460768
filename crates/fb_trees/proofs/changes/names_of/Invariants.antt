use Rattle.std.proofs.Common.{take}
use Rattle.fb_trees.specs.InternalNames.{AreNames}
use Rattle.fb_trees.proofs.changes.names_of.Given as goal

abbrev pub invariant-loop-node : goal.invariant-loop-node
invariant-loop-node l = AreNames l.names (take l.node-index l.nodes)
