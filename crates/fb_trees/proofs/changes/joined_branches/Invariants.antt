use Rattle.std.proofs.Common.{◌≡◌, nat_eq, take}
use Rattle.std.specs.HashSet.{contains}
use Rattle.fb_laws.specs.SearchBlossoms.{joined_tree}
use Rattle.fb_trees.specs.Branches.{entries_of}
use Rattle.fb_trees.proofs.changes.joined_branches.Given as goal

abbrev pub invariant-loop-branch : goal.invariant-loop-branch
invariant-loop-branch l =
    entries_of l.joined.items ≡ joined_tree (contains nat_eq l.inside) l.name (entries_of (take l.branch-index l.branches))
