-- How many of the rows are corrections, and how many are odd.
use Rattle.std.specs.Prelude.{ℕ, Bool, not, List, count_by}
use Rattle.fb_crew.specs.Windows.{is_best}
use Rattle.fb_graph.specs.declared.parts.Row.{Row}

abbrev pub is_odd : Row → Bool
is_odd r = not (is_best r)

-- how many rows are corrections, and how many are odd
pub record Counts : Type 0 where
  pub best : ℕ
  pub odd : ℕ

abbrev pub counts_of : List Row → Counts
counts_of rows = record { best = count_by is_best rows; odd = count_by is_odd rows }
