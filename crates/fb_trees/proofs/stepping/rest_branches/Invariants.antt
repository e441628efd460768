use Rattle.std.proofs.Common.{take}
use Rattle.fb_regions.specs.declared.roles.Role.TheVariants.{Out}
use Rattle.fb_trees.specs.TreesOver.{branch_names}
use Rattle.fb_trees.proofs.PacedNodes.{AreSet}
use Rattle.fb_trees.proofs.stepping.rest_branches.Given as goal

abbrev pub invariant-loop-branch : goal.invariant-loop-branch
invariant-loop-branch g l = AreSet (λ n. Out) (branch_names (take l.branch-index l.branches)) l.initial.regions l.regions
