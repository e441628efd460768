use Rattle.std.specs.Ordering.{nat_cmp}
use Rattle.std.specs.BTreeMap.{get}
use Rattle.fb_blossoms.proofs.MergedForests.{kept_merged, merged, own_apart, taken_by}
use Rattle.fb_blossoms.proofs.blossoms.Blossoms.merged_with_spare.Goals as goal

pub enter_taken-requires : goal.enter_taken-requires
enter_taken-requires c =
    own_apart c.left.inside.nodes.slots c.right.inside.nodes.slots c.join_nodes.new.nodes.slots _ _ c.args.links.now c.in_ok-pairs.pairs.items
    c.left.invariant.forest c.right.invariant.forest c.in_ok-pairs.ensures (get nat_cmp c.left.inside.leaves) (get nat_cmp c.right.inside.leaves)
    (get nat_cmp c.left.inside.leaves) c.left.invariant c.right.invariant (rw (← c.left.view_is, ← c.right.view_is) at c.requires)

pub invariant_of-both : goal.invariant_of-both
invariant_of-both c =
    rw (c.in-Some.ensures.1)
    (kept_merged c.left.inside.nodes.slots c.right.inside.nodes.slots c.join_nodes.new.nodes.slots _ _ c.args.links.now c.in_ok-pairs.pairs.items
    c.left.invariant.forest c.right.invariant.forest c.in_ok-pairs.ensures (get nat_cmp c.left.inside.leaves) (get nat_cmp c.right.inside.leaves)
    (get nat_cmp c.enter_taken.new.leaves) c.left.invariant c.right.invariant (rw (← c.left.view_is, ← c.right.view_is) at c.requires)
    c.enter_taken.ensures.grown
    (taken_by c.join_nodes.new.nodes.slots (get nat_cmp c.enter_taken.new.leaves) c.deref.result.now c.in_ok-pairs.pairs.items c.deref.ensures.value c.in_ok-enter_taken.ensures.ok))

pub returns-clause-merged : goal.returns-clause-merged
returns-clause-merged c =
    rw (← c.left.view_is, ← c.right.view_is)
    (merged c.left.inside.nodes.slots c.right.inside.nodes.slots c.join_nodes.new.nodes.slots _ _ c.args.links.now c.in_ok-pairs.pairs.items
    c.left.invariant.forest c.right.invariant.forest c.in_ok-pairs.ensures)
