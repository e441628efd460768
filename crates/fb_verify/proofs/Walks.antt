-- A reading decides which lines may follow by the numbers of its rows and its stage alone.
use Rattle.std.proofs.Common.{◌≡◌, ℕ, ℤ, ◌+◌, cond, Bool, true, false, List, [], ◌∷◌, ◌++◌, length, Some, None, Result, Ok, Err, refl, sym, ap, ◌∙◌, arith}
use Rattle.std.specs.Prelude.{◌==◌, ◌&&◌, if◌then◌else◌, count_by}
use Rattle.std.specs.List.{slice_split}
use Rattle.std.proofs.lemmas.Bool.{ne_eqb}
use Rattle.std.proofs.lemmas.List.{length_push}
use Rattle.std.proofs.lemmas.Grind.{fold-append}
use Rattle.fb_graph.specs.declared.parts.Cut.{Cut}
use Rattle.fb_graph.specs.declared.parts.Row.{Row}
use Rattle.fb_graph.specs.declared.parts.Row.TheVariants as row
use Rattle.fb_verify.specs.declared.lines.Line.{Line}
use Rattle.fb_verify.specs.declared.lines.Line.TheVariants as line
use Rattle.fb_verify.specs.declared.report_faults.ReportFault.{ReportFault}
use Rattle.fb_verify.specs.declared.report_faults.ReportFault.TheVariants.{BadLine, WrongShot, Unfinished}
use Rattle.fb_verify.specs.declared.report_lines.NextLine.TheVariants as next_line
use Rattle.fb_verify.specs.declared.reports.Totals.{Totals}
use Rattle.fb_verify.specs.declared.reports.Version.{Version}
use Rattle.fb_verify.specs.declared.reports.Version.TheVariants.{One, Two}
use Rattle.fb_verify.specs.declared.walking.Stage.TheVariants as stage
use Rattle.fb_verify.specs.declared.walking.Walk.{Walk}
use Rattle.fb_verify.specs.InternalWalks.{walk, walk_on_from_rows, walk_on, walk_end, walk_of}
use Rattle.fb_verify.specs.Places.{Place, Reading}
use Rattle.fb_verify.specs.Places as place
use Rattle.fb_verify.specs.Positions.{Position, IsAt, report_from}
use Rattle.fb_verify.specs.ReportLines.{TakesLine, Gives}
use Rattle.fb_verify.specs.Reports.{words_of, line_of, is_odd, has_none, may_weigh, reading, at_row_end, step, with_line, ending, read_from}
use Rattle.fb_verify.proofs.LineAfterLine.{read_taken, read_failed}

abbrev walked : Result Reading ReportFault → Result Walk ReportFault
walked (Ok r) = Ok (walk_of r.rows r.place)
walked (Err fault) = Err fault

walked-if : (b : Bool) (x y : Result Reading ReportFault) → walked (if b then x else y) ≡ (if b then walked x else walked y)
walked-if true x y = refl
walked-if false x y = refl

none-length : (rows : List Row) → has_none rows ≡ (length rows == 0)
none-length [] = refl
none-length (r ∷ rows) = sym (ne_eqb (length (r ∷ rows)) 0 (λ e. absurd (omega arith)))

-- ---- one more row

-- how many rows are odd, with one more row at the end
count-push : (rows : List Row) (r : Row) → count_by is_odd (rows ++ r ∷ []) ≡ count_by is_odd rows + cond (is_odd r) 1 0
count-push rows r = fold-append (λ (a : ℕ) (x : Row). a + cond (is_odd x) 1 0) 0 rows (r ∷ [])

count-odd : (rows : List Row) (v : ℕ) → count_by is_odd (rows ++ row.Odd v ∷ []) ≡ count_by is_odd rows + 1
count-odd rows v = count-push rows (row.Odd v)

count-best : (rows : List Row) (edges : List ℕ) (base weight : ℤ) (cuts : List Cut)
    → count_by is_odd (rows ++ row.Best edges base weight cuts ∷ []) ≡ count_by is_odd rows
count-best rows edges base weight cuts = (let more = count-push rows (row.Best edges base weight cuts) in omega arith)

odd-walk : (version : Version) (rows : List Row) (v : ℕ)
    → walk_of (rows ++ row.Odd v ∷ []) (place.Between version) ≡ walk (length rows + 1) (count_by is_odd rows + 1) (stage.Between version)
odd-walk version rows v =
    ap (λ (n : ℕ). walk n (count_by is_odd (rows ++ row.Odd v ∷ [])) (stage.Between version)) (length_push rows (row.Odd v))
    ∙ ap (λ (n : ℕ). walk (length rows + 1) n (stage.Between version)) (count-odd rows v)

-- ---- one line

walked-rows : (n : ℕ) (version : Version) (rows : List Row) (said : Line)
    → walked (at_row_end n version rows said) ≡ walk_on_from_rows n (length rows) (count_by is_odd rows) version said
walked-rows n version rows (line.Shot k) =
    walked-if (k == length rows) (Ok (reading rows (place.InRow version))) (Err (WrongShot n))
walked-rows n version rows (line.Odd k v) =
    walked-if (k == length rows) (Ok (reading (rows ++ row.Odd v ∷ []) (place.Between version))) (Err (WrongShot n))
    ∙ ap (λ (w : Walk). if k == length rows then Ok w else Err (WrongShot n)) (odd-walk version rows v)
walked-rows n version rows line.Trace =
    walked-if (has_none rows) (Err (BadLine n)) (Ok (reading rows (place.Between version)))
    ∙ ap (λ (b : Bool). if b then Err (BadLine n) else Ok (walk_of rows (place.Between version))) (none-length rows)
walked-rows n version rows (line.Done totals) =
    walked-if (totals.rows == length rows && totals.odd == count_by is_odd rows) (Ok (reading rows (place.End totals))) (Err (BadLine n))
walked-rows n version rows (line.Head other) = refl
walked-rows n version rows (line.Edges edges) = refl
walked-rows n version rows (line.Base base) = refl
walked-rows n version rows (line.Weight weight) = refl
walked-rows n version rows (line.Cut c) = refl

-- behind a correction that ends there
walked-best : (n : ℕ) (version : Version) (rows : List Row) (edges : List ℕ) (base weight : ℤ) (cuts : List Cut) (said : Line)
    → walked (at_row_end n version (rows ++ row.Best edges base weight cuts ∷ []) said)
    ≡ walk_on_from_rows n (length rows + 1) (count_by is_odd rows) version said
walked-best n version rows edges base weight cuts said =
    let all : List Row = rows ++ row.Best edges base weight cuts ∷ [] in
    walked-rows n version all said
    ∙ ap (λ (begun : ℕ). walk_on_from_rows n begun (count_by is_odd all) version said) (length_push rows (row.Best edges base weight cuts))
    ∙ ap (λ (odd : ℕ). walk_on_from_rows n (length rows + 1) odd version said) (count-best rows edges base weight cuts)

abbrev walk_from : ℕ → Walk → Line → Result Walk ReportFault
walk_from n w said = walk_on n w.begun w.odd w.stage said

walked-step : (n : ℕ) (rows : List Row) (here : Place) (said : Line) → walked (step n rows here said) ≡ walk_from n (walk_of rows here) said
walked-step n rows place.Start (line.Head version) = refl
walked-step n rows place.Start said = refl
walked-step n rows (place.InRow One) (line.Edges edges) = refl
walked-step n rows (place.InRow Two) (line.Edges edges) = refl
walked-step n rows (place.InRow version) said = refl
walked-step n rows (place.Listed edges) (line.Base base) = refl
walked-step n rows (place.Listed edges) said = refl
walked-step n rows (place.Based version edges base) (line.Weight weight) =
    walked-if (may_weigh version weight) (Ok (reading rows (place.Cuts version edges base weight []))) (Err (BadLine n))
walked-step n rows (place.Based version edges base) said = refl
walked-step n rows (place.Cuts version edges base weight cuts) (line.Cut c) = refl
walked-step n rows (place.Cuts version edges base weight cuts) said = walked-best n version rows edges base weight cuts said
walked-step n rows (place.Between version) said = walked-rows n version rows said
walked-step n rows (place.End totals) said = refl

from_ok : (x : Result Reading ReportFault) (w : Walk) → walked x ≡ Ok w → (next : Reading) × (x ≡ Ok next) × (w ≡ walk_of next.rows next.place)
from_ok (Ok r) w e = (r, refl, cc)
from_ok (Err fault) w e = absurd cc

from_err : (x : Result Reading ReportFault) (fault : ReportFault) → walked x ≡ Err fault → x ≡ Err fault
from_err (Ok r) fault e = absurd cc
from_err (Err other) fault e = (let same : other ≡ fault = cc in ap Err same)

-- ---- the next line of a text

abbrev position : ℕ → List ℕ → Walk → Position
position n rest w = record { number = n; rest = rest; walk = w }

abbrev parts : List ℕ → List (List ℕ)
parts text = slice_split (λ b. b == 10) text

module _ (n : ℕ) (rest : List ℕ) (w : Walk) where
  module _ (text more : List ℕ) (split : parts rest ≡ text ∷ parts more) where
    pub line_taken : (said : Line) (later : Walk) → Some said ≡ line_of (words_of text) → Ok later ≡ walk_from n w said
        → (r : Reading) → IsAt (position n rest w) r → TakesLine (position n rest w) said (position (n + 1) more later) r
    line_taken said later says takes r at =
        let found = from_ok (step n r.rows r.place said) later (walked-step n r.rows r.place said ∙ sym (ap (λ (v : Walk). walk_from n v said) at) ∙ sym takes) in
        record {
          next = found.0;
          taken = found.1;
          at = found.2;
          same = read_taken n r found.0 rest text more split (ap (with_line n r) (sym says) ∙ found.1);
        }

    pub line_fails : (said : Line) (fault : ReportFault) → Some said ≡ line_of (words_of text) → Err fault ≡ walk_from n w said
        → (r : Reading) → IsAt (position n rest w) r → report_from (position n rest w) r ≡ Err fault
    line_fails said fault says fails r at =
        let found = from_err (step n r.rows r.place said) fault (walked-step n r.rows r.place said ∙ sym (ap (λ (v : Walk). walk_from n v said) at) ∙ sym fails) in
        read_failed n r fault rest text more split (ap (with_line n r) (sym says) ∙ found)

    pub says_nothing : None ≡ line_of (words_of text) → (r : Reading) → report_from (position n rest w) r ≡ Err (BadLine n)
    says_nothing says r = read_failed n r (BadLine n) rest text more split (ap (with_line n r) (sym says))

  -- ---- the end of a text

  ended_ok : (rows : List Row) (here : Place) (totals : Totals) → Ok totals ≡ walk_end n (walk_of rows here).stage rest
      → (here ≡ place.End totals) × (ending n rows here rest ≡ Ok (record { rows = rows; totals = totals }))
  ended_ok rows here totals e = go here rest e
    where
      go : (p : Place) (bytes : List ℕ) → Ok totals ≡ walk_end n (walk_of rows p).stage bytes
          → (p ≡ place.End totals) × (ending n rows p bytes ≡ Ok (record { rows = rows; totals = totals }))
      go (place.End t) [] e = (let same : t ≡ totals = cc in rw same (refl, refl))
      go (place.End t) (b ∷ bytes) e = absurd cc
      go place.Start bytes e = absurd cc
      go (place.InRow version) bytes e = absurd cc
      go (place.Listed edges) bytes e = absurd cc
      go (place.Based version edges base) bytes e = absurd cc
      go (place.Cuts version edges base weight cuts) bytes e = absurd cc
      go (place.Between version) bytes e = absurd cc

  ended_err : (rows : List Row) (here : Place) (fault : ReportFault) → Err fault ≡ walk_end n (walk_of rows here).stage rest
      → ending n rows here rest ≡ Err fault
  ended_err rows here fault e = go here rest e
    where
      go : (p : Place) (bytes : List ℕ) → Err fault ≡ walk_end n (walk_of rows p).stage bytes → ending n rows p bytes ≡ Err fault
      go (place.End t) [] e = absurd cc
      go (place.End t) (b ∷ bytes) e = (let same : BadLine n ≡ fault = cc in ap Err same)
      go place.Start bytes e = (let same : Unfinished ≡ fault = cc in ap Err same)
      go (place.InRow version) bytes e = (let same : Unfinished ≡ fault = cc in ap Err same)
      go (place.Listed edges) bytes e = (let same : Unfinished ≡ fault = cc in ap Err same)
      go (place.Based version edges base) bytes e = (let same : Unfinished ≡ fault = cc in ap Err same)
      go (place.Cuts version edges base weight cuts) bytes e = (let same : Unfinished ≡ fault = cc in ap Err same)
      go (place.Between version) bytes e = (let same : Unfinished ≡ fault = cc in ap Err same)

  module _ (alone : parts rest ≡ rest ∷ []) where
    pub text_ends : (totals : Totals) → Ok totals ≡ walk_end n w.stage rest → Gives (position n rest w) (next_line.Done totals)
    text_ends totals ends = λ r at.
        let found = ended_ok r.rows r.place totals (ends ∙ ap (λ (v : Walk). walk_end n v.stage rest) at) in
        (found.0, ap (read_from n r) alone ∙ found.1)

    pub text_breaks : (fault : ReportFault) → Err fault ≡ walk_end n w.stage rest → (r : Reading) → IsAt (position n rest w) r → report_from (position n rest w) r ≡ Err fault
    text_breaks fault breaks r at =
        ap (read_from n r) alone ∙ ended_err r.rows r.place fault (breaks ∙ ap (λ (v : Walk). walk_end n v.stage rest) at)
