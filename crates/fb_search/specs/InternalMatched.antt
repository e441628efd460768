-- What has been matched of the unmatched nodes of a part, and how many steps were counted for it.
use Rattle.std.specs.Prelude.{ℕ, ◌+◌, ◌*◌, ◌≤◌, length}
use Rattle.fb_half.specs.Parts.{PartValue}
use Rattle.fb_search.specs.Progress.{IsSamePart}

-- Some nodes of the same part are matched, with the counter before and after them. The steps are at most as many as the nodes that
-- are no longer unmatched, and at least half as many.
pub record HasMatched (before : PartValue) (old new : ℕ) (after : PartValue) : Type 0 where
  pub part : IsSamePart before after
  pub most : new + length after.matching.unmatched ≤ old + length before.matching.unmatched
  pub least : length before.matching.unmatched + 2 * old ≤ length after.matching.unmatched + 2 * new
