-- The rows that lines say, one line after another, if each may follow those before it.
use Rattle.std.specs.Prelude.{ℕ, ℤ, pos, List, [], ◌∷◌, ◌++◌, Option, Some, None}
use Rattle.fb_graph.specs.declared.parts.Cut.{Cut}
use Rattle.fb_graph.specs.declared.parts.Row.{Row}
use Rattle.fb_graph.specs.declared.parts.Row.TheVariants as row
use Rattle.fb_verify.specs.declared.gathering.Correction.{Correction}
use Rattle.fb_verify.specs.declared.gathering.Gathered.{Gathered}
use Rattle.fb_verify.specs.declared.lines.Line.{Line}
use Rattle.fb_verify.specs.declared.lines.Line.TheVariants as line
use Rattle.fb_verify.specs.Places.{Place}
use Rattle.fb_verify.specs.Places as place

abbrev pub correction : List ℕ → ℤ → ℤ → List Cut → Correction
correction edges base weight cuts = record { edges = edges; base = base; weight = weight; cuts = cuts }

abbrev pub gathered : List Row → Option Correction → Gathered
gathered rows last = record { rows = rows; last = last }

-- the rows, with the one that lines may still add to
abbrev pub closed : List Row → Option Correction → List Row
closed rows None = rows
closed rows (Some c) = rows ++ row.Best c.edges c.base c.weight c.cuts ∷ []

abbrev pub based : ℤ → Option Correction → Option Correction
based base None = None
based base (Some c) = Some (correction c.edges base c.weight c.cuts)

abbrev pub weighed : ℤ → Option Correction → Option Correction
weighed weight None = None
weighed weight (Some c) = Some (correction c.edges c.base weight c.cuts)

abbrev pub with_cut : Cut → Option Correction → Option Correction
with_cut cut None = None
with_cut cut (Some c) = Some (correction c.edges c.base c.weight (c.cuts ++ cut ∷ []))

-- with one more line
abbrev pub gather : List Row → Option Correction → Line → Gathered
gather rows last (line.Edges edges) = gathered rows (Some (correction edges (pos 0) (pos 0) []))
gather rows last (line.Base base) = gathered rows (based base last)
gather rows last (line.Weight weight) = gathered rows (weighed weight last)
gather rows last (line.Cut cut) = gathered rows (with_cut cut last)
gather rows last (line.Odd k v) = gathered (closed rows last ++ row.Odd v ∷ []) None
gather rows last said = gathered (closed rows last) None

-- the row that lines at a place may still add to
abbrev pub last_at : Place → Option Correction
last_at (place.Listed edges) = Some (correction edges (pos 0) (pos 0) [])
last_at (place.Based version edges base) = Some (correction edges base (pos 0) [])
last_at (place.Cuts version edges base weight cuts) = Some (correction edges base weight cuts)
last_at here = None
