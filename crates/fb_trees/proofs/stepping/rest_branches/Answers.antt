use Rattle.std.proofs.Common.{refl}
use Rattle.fb_regions.specs.declared.roles.Role.TheVariants.{Out}
use Rattle.fb_trees.proofs.PacedNodes.{branch_set}
use Rattle.fb_trees.proofs.stepping.rest_branches.Goals as goal

pub loop-branch-preserved : goal.loop-branch-preserved
loop-branch-preserved g c =
    branch_set (λ n. Out) c.args.branches.now c.loop-branch.branch-index _ Out c.args.regions.now c.loop-branch.regions
    c.set_pace.new.self c.set_pace-in-loop-branch.new.self c.loop-branch-test.true (λ n. refl) c.loop-branch.invariant
    c.set_pace.ensures.same c.set_pace.ensures.paces c.set_pace-in-loop-branch.ensures.same c.set_pace-in-loop-branch.ensures.paces
