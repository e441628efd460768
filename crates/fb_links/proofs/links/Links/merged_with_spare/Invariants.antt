use Rattle.std.proofs.Common.{length, All}
use Rattle.fb_links.specs.InternalKept.{IsEntry, walks_in}
use Rattle.fb_links.specs.InternalMerging.{AreMerging}
use Rattle.fb_links.proofs.links.Links.merged_with_spare.Given as goal

abbrev pub invariant-loop-entry : goal.invariant-loop-entry
invariant-loop-entry l =
    All (IsEntry l.spare-inside.steps.items) l.spare-inside.spans.items
    × AreMerging l.fn.left l.fn.right (walks_in l.spare-inside.steps.items l.spare-inside.spans.items) l.pairs.items l.links

abbrev pub decreases-loop-entry : goal.decreases-loop-entry
decreases-loop-entry l = length l.spare-inside.spans.items
