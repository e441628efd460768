use Rattle.std.proofs.Common.{sym, take, get_or, subst}
use Rattle.fb_regions.proofs.Listed.{not_before}
use Rattle.fb_trees.specs.Forests.{IsOutside}
use Rattle.fb_trees.proofs.ForestReads.{outside_bare}
use Rattle.fb_trees.proofs.forest.Forest.restart.Goals as goal

pub add_tree-requires : goal.add_tree-requires
add_tree-requires c =
    subst (λ f. IsOutside f (get_or c.args.roots.now c.loop-root.root-index 0)) (sym c.loop-root.invariant)
    (outside_bare (take c.loop-root.root-index c.args.roots.now) (get_or c.args.roots.now c.loop-root.root-index 0)
    (not_before c.args.roots.now c.loop-root.root-index c.requires c.loop-root-test.true))
