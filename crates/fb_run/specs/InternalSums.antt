-- How far the sum of a sample's weights is from 0.
use Rattle.std.specs.Prelude.{ℕ, ◌^◌, ℤ, pos, neg_ℤ, ◌≤ℤ◌}
use Rattle.fb_graph.specs.declared.parts.Row.{Row}
use Rattle.fb_run.specs.Samples.{weight_in}

-- the number is at most `most`, without its sign
pub record IsLow (most : ℕ) (x : ℤ) : Type 0 where
  pub above : neg_ℤ (pos most) ≤ℤ x
  pub below : x ≤ℤ pos most

-- the weight of the row's correction is one that a report can have
abbrev pub HasLowWeight : Row → Type 0
HasLowWeight r = IsLow (2 ^ 64) (weight_in r)
