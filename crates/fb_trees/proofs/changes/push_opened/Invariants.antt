use Rattle.std.proofs.Common.{◌≡◌, ◌-◌, ◌%◌, ◌<◌, ◌++◌, drop, length}
use Rattle.fb_laws.specs.OpenedCycles.{opened_branches}
use Rattle.fb_trees.specs.Branches.{entries_of}
use Rattle.fb_trees.specs.Replacements.{first_node, way_of}
use Rattle.fb_trees.proofs.changes.push_opened.Given as goal

abbrev pub invariant-loop-i : goal.invariant-loop-i
invariant-loop-i l =
    (l.i < length l.path) × ((length l.path - l.i) % 2 ≡ 1)
    × (opened_branches l.parent l.tree (first_node (drop l.i l.path)) (way_of (drop l.i l.path)) l.branch.matched l.branch.plus
    ++ entries_of l.opened.items
    ≡ opened_branches l.branch.parent l.branch.tree (first_node l.path) (way_of l.path) l.branch.matched l.branch.plus
    ++ entries_of l.initial.opened.items)

abbrev pub decreases-loop-i : goal.decreases-loop-i
decreases-loop-i l = length l.path - l.i
