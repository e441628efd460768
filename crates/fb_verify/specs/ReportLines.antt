-- What the lines of a report say that are read one after another.
use Rattle.std.specs.Prelude.{◌≡◌, ◌<◌, length, Ok, ⊤}
use Rattle.fb_verify.specs.declared.lines.Line.{Line}
use Rattle.fb_verify.specs.declared.report_lines.NextLine.{NextLine}
use Rattle.fb_verify.specs.declared.report_lines.NextLine.TheVariants as next_line
use Rattle.fb_verify.specs.Places.{Reading}
use Rattle.fb_verify.specs.Places as place
use Rattle.fb_verify.specs.Positions.{Position, IsAt, report_from}
use Rattle.fb_verify.specs.Reports.{step}

-- A line is taken after what is read: the text is the same report before it and after it.
pub record TakesLine (before : Position) (said : Line) (after : Position) (r : Reading) : Type 0 where
  pub next : Reading
  pub taken : step before.number r.rows r.place said ≡ Ok next
  pub at : IsAt after next
  pub same : report_from before r ≡ report_from after next

-- the next line is taken, or the report has ended, whatever is read before the position
abbrev pub Gives : Position → NextLine → Type 0
Gives before (next_line.Line said after) = (r : Reading) → IsAt before r → TakesLine before said after r
Gives before (next_line.Done totals) =
    (r : Reading) → IsAt before r → (r.place ≡ place.End totals) × (report_from before r ≡ Ok (record { rows = r.rows; totals = totals }))

-- a line makes the text that is left shorter
abbrev pub IsShorter : Position → NextLine → Type 0
IsShorter before (next_line.Line said after) = length after.rest < length before.rest
IsShorter before (next_line.Done totals) = ⊤
