-- What is written of the rows of a report: the bits of the observables that each flips.
use Rattle.std.specs.Prelude.{ℕ, Bool, true, false, List, if◌then◌else◌}
use Rattle.std.specs.List.{flat_map, list_any}
use Rattle.fb_exits.specs.declared.ending.Cause.{Cause}
use Rattle.fb_exits.specs.declared.ending.Cause.TheVariants.{Done, Odd}
use Rattle.fb_graph.specs.declared.parts.Row.{Row}
use Rattle.fb_graph.specs.declared.parts.Row.TheVariants as row
use Rattle.fb_predict.specs.Codings.{coded}
use Rattle.fb_predict.specs.Observing.{observed_bits}
use Rattle.fb_request.specs.declared.coding.Coding.{Coding}

-- the text of the bits of each row, one after another
abbrev pub predictions : Coding → List (List ℕ) → List Row → List ℕ
predictions to observables rows = flat_map (λ row. coded to (observed_bits observables row)) rows

-- the row is that of a shot without a correction
abbrev pub is_odd_row : Row → Bool
is_odd_row (row.Best edges base weight cuts) = false
is_odd_row (row.Odd vertex) = true

-- why the command ends when all is written: whether some row is odd
abbrev pub cause_of_rows : List Row → Cause
cause_of_rows rows = if list_any is_odd_row rows then Odd else Done
