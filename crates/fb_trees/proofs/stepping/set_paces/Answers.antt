use Rattle.std.proofs.Common.{get_or, take, subst, sym}
use Rattle.std.proofs.lemmas.List.{take_more}
use Rattle.fb_trees.specs.Forests.{role_among}
use Rattle.fb_trees.proofs.PacedNodes.{AreSet, more_set}
use Rattle.fb_trees.proofs.stepping.set_paces.Goals as goal

pub loop-node-preserved : goal.loop-node-preserved
loop-node-preserved g c =
    subst (λ l. AreSet (role_among c.args.forest.now) l c.args.regions.now c.set_pace.new.self)
    (sym (take_more c.args.nodes.now c.loop-node.node-index 0 c.loop-node-test.true))
    (more_set (role_among c.args.forest.now) (take c.loop-node.node-index c.args.nodes.now) (get_or c.args.nodes.now c.loop-node.node-index 0)
    c.role.result c.args.regions.now c.loop-node.regions c.set_pace.new.self c.loop-node.invariant c.role.ensures c.set_pace.ensures.same
    c.set_pace.ensures.paces)
