-- Where in a report a line is.
use Rattle.std.specs.Prelude.{ℕ, ℤ, List}
use Rattle.fb_graph.specs.declared.parts.Cut.{Cut}
use Rattle.fb_graph.specs.declared.parts.Row.{Row}
use Rattle.fb_verify.specs.declared.reports.Totals.{Totals}
use Rattle.fb_verify.specs.declared.reports.Version.{Version}

pub data Place : Type 0 where
  -- the line is the first one
  Start : Place
  -- it follows the line of a shot whose row is to come
  InRow : Version → Place
  -- it follows these edges of a row, and is to say the row's base
  Listed : List ℕ → Place
  -- it follows the base of a row, or its edges if no line says the base
  Based : (version : Version) (edges : List ℕ) (base : ℤ) → Place
  -- it follows the weight of a row, or one of its cuts
  Cuts : (version : Version) (edges : List ℕ) (base weight : ℤ) (cuts : List Cut) → Place
  -- it follows whole rows, or none, and no line of a row
  Between : Version → Place
  -- it follows the done line
  End : Totals → Place

-- what is read of the lines so far: the rows that no line can add to, and the place of the next line
pub record Reading : Type 0 where
  pub rows : List Row
  pub place : Place
