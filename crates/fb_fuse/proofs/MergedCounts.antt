-- How many nodes are unmatched where two parts have been put together.
use Rattle.std.proofs.Common.{ℕ, ◌≡◌, ◌+◌, ◌++◌, map, length, ap, arith}
use Rattle.std.proofs.lemmas.List.{length-append, length-map}
use Rattle.fb_plan.specs.Plans.{JobValue}
use Rattle.fb_half.specs.Merged.{IsMerged, freed_in, seam_defects}
use Rattle.fb_half.specs.Parts.{PartValue}

pub unmatched_counted : (j : JobValue) (n : ℕ) (left right after : PartValue) → IsMerged j n left right after
    → length after.matching.unmatched ≡ (length (freed_in left n) + length (freed_in right n)) + length (seam_defects j left.slot n)
unmatched_counted j n left right after is =
    omega (
      arith,
      ap length is.unmatched,
      length-append (freed_in left n ++ map is.name (freed_in right n)) is.own,
      length-append (freed_in left n) (map is.name (freed_in right n)),
      length-map (freed_in right n) is.name,
      is.count,
    )
