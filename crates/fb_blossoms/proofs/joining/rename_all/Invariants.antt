use Rattle.std.proofs.Common.{◌≡◌, ℕ, take}
use Rattle.fb_links.specs.Names.{name_by}
use Rattle.slab.specs.Slab.{get}
use Rattle.fb_blossoms.specs.InternalMerged.{renamed_among}
use Rattle.fb_blossoms.proofs.joining.rename_all.Given as goal

abbrev pub invariant-loop-k : goal.invariant-loop-k
invariant-loop-k l =
    (x : ℕ) → get l.nodes x ≡ renamed_among (take l.k l.pairs) (name_by l.names) (name_by l.links) x (get l.fn.nodes x)
