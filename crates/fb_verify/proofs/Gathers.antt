-- What lines say is the rows of a reading that takes them.
use Rattle.std.proofs.Common.{◌≡◌, ℕ, Bool, true, false, List, [], ◌∷◌, ◌++◌, length, None, Result, Ok, Err, IfOk, refl, subst}
use Rattle.std.specs.Prelude.{◌==◌, ◌&&◌, if◌then◌else◌, count_by}
use Rattle.fb_graph.specs.declared.parts.Row.{Row}
use Rattle.fb_graph.specs.declared.parts.Row.TheVariants as row
use Rattle.fb_verify.specs.declared.gathering.Gathered.{Gathered}
use Rattle.fb_verify.specs.declared.lines.Line.{Line}
use Rattle.fb_verify.specs.declared.lines.Line.TheVariants as line
use Rattle.fb_verify.specs.declared.reports.Version.{Version}
use Rattle.fb_verify.specs.declared.reports.Version.TheVariants.{One, Two}
use Rattle.fb_verify.specs.declared.report_faults.ReportFault.{ReportFault}
use Rattle.fb_verify.specs.declared.report_faults.ReportFault.TheVariants.{BadLine, WrongShot}
use Rattle.fb_verify.specs.InternalGathers.{gathered, gather, last_at}
use Rattle.fb_verify.specs.Places.{Place, Reading}
use Rattle.fb_verify.specs.Places as place
use Rattle.fb_verify.specs.Reports.{is_odd, has_none, may_weigh, reading, at_row_end, step}

-- these are the rows of a reading
abbrev pub Holds : Gathered → Reading → Type 0
Holds g r = g ≡ gathered r.rows (last_at r.place)

pub if_taken : {X E : Type 0} (P : X → Type 0) (b : Bool) (x : X) (fault : E) → P x → IfOk (if b then Ok x else Err fault) P
if_taken P true x fault p = p
if_taken P false x fault p = tt

pub if_refused : {X E : Type 0} (P : X → Type 0) (b : Bool) (x : X) (fault : E) → P x → IfOk (if b then Err fault else Ok x) P
if_refused P true x fault p = tt
if_refused P false x fault p = p

rows_hold : (n : ℕ) (version : Version) (rows : List Row) (said : Line) → IfOk (at_row_end n version rows said) (Holds (gather rows None said))
rows_hold n version rows (line.Shot k) =
    if_taken (Holds (gather rows None (line.Shot k))) (k == length rows) (reading rows (place.InRow version)) (WrongShot n) refl
rows_hold n version rows (line.Odd k v) =
    if_taken (Holds (gather rows None (line.Odd k v))) (k == length rows)
    (reading (rows ++ row.Odd v ∷ []) (place.Between version)) (WrongShot n) refl
rows_hold n version rows line.Trace =
    if_refused (Holds (gather rows None line.Trace)) (has_none rows) (reading rows (place.Between version)) (BadLine n) refl
rows_hold n version rows (line.Done totals) =
    if_taken (Holds (gather rows None (line.Done totals))) (totals.rows == length rows && totals.odd == count_by is_odd rows) (reading rows (place.End totals)) (BadLine n) refl
rows_hold n version rows (line.Head other) = tt
rows_hold n version rows (line.Edges edges) = tt
rows_hold n version rows (line.Base base) = tt
rows_hold n version rows (line.Weight weight) = tt
rows_hold n version rows (line.Cut c) = tt

step_holds : (n : ℕ) (rows : List Row) (here : Place) (said : Line) → IfOk (step n rows here said) (Holds (gather rows (last_at here) said))
step_holds n rows place.Start (line.Head version) = refl
step_holds n rows place.Start said = tt
step_holds n rows (place.InRow One) (line.Edges edges) = refl
step_holds n rows (place.InRow Two) (line.Edges edges) = refl
step_holds n rows (place.InRow version) said = tt
step_holds n rows (place.Listed edges) (line.Base base) = refl
step_holds n rows (place.Listed edges) said = tt
step_holds n rows (place.Based version edges base) (line.Weight weight) =
    if_taken (Holds (gather rows (last_at (place.Based version edges base)) (line.Weight weight))) (may_weigh version weight)
    (reading rows (place.Cuts version edges base weight [])) (BadLine n) refl
step_holds n rows (place.Based version edges base) said = tt
step_holds n rows (place.Cuts version edges base weight cuts) (line.Cut c) = refl
step_holds n rows (place.Cuts version edges base weight cuts) (line.Head other) = tt
step_holds n rows (place.Cuts version edges base weight cuts) (line.Edges more) = tt
step_holds n rows (place.Cuts version edges base weight cuts) (line.Base other) = tt
step_holds n rows (place.Cuts version edges base weight cuts) (line.Weight other) = tt
step_holds n rows (place.Cuts version edges base weight cuts) (line.Shot k) = rows_hold n version (rows ++ row.Best edges base weight cuts ∷ []) (line.Shot k)
step_holds n rows (place.Cuts version edges base weight cuts) (line.Odd k v) = rows_hold n version (rows ++ row.Best edges base weight cuts ∷ []) (line.Odd k v)
step_holds n rows (place.Cuts version edges base weight cuts) line.Trace = rows_hold n version (rows ++ row.Best edges base weight cuts ∷ []) line.Trace
step_holds n rows (place.Cuts version edges base weight cuts) (line.Done totals) = rows_hold n version (rows ++ row.Best edges base weight cuts ∷ []) (line.Done totals)
step_holds n rows (place.Between version) said = rows_hold n version rows said
step_holds n rows (place.End totals) said = tt

pub next_holds : (n : ℕ) (r next : Reading) (said : Line) (before after : Gathered) → step n r.rows r.place said ≡ Ok next → Holds before r
    → after ≡ gather before.rows before.last said → Holds after next
next_holds n r next said before after taken held added =
    let here = subst (λ (x : Result Reading ReportFault). IfOk x (Holds (gather r.rows (last_at r.place) said))) taken (step_holds n r.rows r.place said) in
    rw (added, held) here
