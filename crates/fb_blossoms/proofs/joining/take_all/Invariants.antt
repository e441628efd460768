use Rattle.std.proofs.Common.{◌≡◌, ◌≤◌, ℕ}
use Rattle.slab.specs.Slab.{get}
use Rattle.fb_blossoms.specs.InternalMerged.{AreTaken}
use Rattle.fb_blossoms.proofs.joining.take_all.Given as goal

abbrev pub invariant-loop-key : goal.invariant-loop-key
invariant-loop-key l =
    AreTaken l.fn.nodes.slots l.fn.right.slots l.nodes.slots l.more l.key l.names.items × ((x : ℕ) → l.key ≤ x → get l.right x ≡ get l.fn.right x)
