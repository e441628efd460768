-- What the pieces of a half-solved part are after a step that changes them in place.
use Rattle.std.specs.Prelude.{ℕ}
use Rattle.fb_half.specs.declared.parts.Parts.{Parts}
use Rattle.fb_half.specs.Parts.{IsPart, PartValue}
use Rattle.fb_half.specs.Values.{HasScope, part_of}
use Rattle.fb_search.specs.Progress.{IsSearched}

-- They are a part in which the root is matched.
pub record AreSearched (root : ℕ) (before : PartValue) (after : Parts) : Type 0 where
  pub scope : HasScope after
  pub part : IsPart (part_of after)
  pub searched : IsSearched root before (part_of after)
