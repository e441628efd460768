use Rattle.std.proofs.Common.{take}
use Rattle.fb_trees.specs.Forests.{role_among}
use Rattle.fb_trees.proofs.PacedNodes.{AreSet}
use Rattle.fb_trees.proofs.stepping.set_paces.Given as goal

abbrev pub invariant-loop-node : goal.invariant-loop-node
invariant-loop-node g l = AreSet (role_among l.forest) (take l.node-index l.nodes) l.initial.regions l.regions
