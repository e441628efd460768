use Rattle.std.proofs.Common.{◌∙◌, length-set, arith}
use Rattle.std.proofs.lemmas.Grind.{common_steps}
use Rattle.fb_plan.specs.InternalLayout.{tree_of}
use Rattle.fb_plan.proofs.Tables.{parents_more}
use Rattle.fb_plan.proofs.tree.parents_of.Goals as goal

pub loop-i-init : goal.loop-i-init
loop-i-init c = grind (arith, common_steps)

pub loop-i-preserved : goal.loop-i-preserved
loop-i-preserved c = (
  length-set _ _ _ ∙ length-set _ _ _ ∙ c.loop-i.invariant.0,
  parents_more (tree_of c.args.units c.args.joins.now) c.requires c.loop-i.parents.items c.loop-i.i (omega arith) c.loop-i.invariant.0 c.loop-i.invariant.1,
)
