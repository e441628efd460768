-- The records of the rows of a report that is read line after line.
use Rattle.std.specs.Prelude.{cond, count_by, nat_lt}
use Rattle.std.proofs.Common.{◌≡◌, ℕ, ◌<◌, true, false, List, [], ◌∷◌, ◌++◌, length, Result, Ok, IfOk, refl, sym, ap, subst, ◌∙◌, append-nil, arith, inl, inr}
use Rattle.std.specs.List.{list_any}
use Rattle.std.proofs.lemmas.Bool.{cases_Bool}
use Rattle.std.proofs.lemmas.Grind.{flat_map-append}
use Rattle.std.proofs.lemmas.List.Sums.{sum_by-cons}
use Rattle.fb_exits.specs.declared.ending.Cause.TheVariants.{Done, Odd}
use Rattle.fb_graph.specs.declared.parts.Row.{Row}
use Rattle.fb_graph.specs.declared.parts.Row.TheVariants as row
use Rattle.fb_predict.specs.Codings.{coded}
use Rattle.fb_predict.specs.Observing.{observed_bits}
use Rattle.fb_predicting.specs.InternalRecords.{record_at}
use Rattle.fb_predicting.specs.Predictions.{cause_of_rows, is_odd_row, predictions}
use Rattle.fb_request.specs.declared.coding.Coding.{Coding}
use Rattle.fb_verify.proofs.Gathers.{if_taken, if_refused}
use Rattle.fb_verify.proofs.OneThing.{reads_as_is}
use Rattle.fb_verify.specs.Places.{Place, Reading}
use Rattle.fb_verify.specs.Places as place
use Rattle.fb_verify.specs.Readings.{IsReadingOf, IsReportOf}
use Rattle.fb_verify.specs.Reports.{at_row_end, has_none, may_weigh, is_odd, most_bytes, reading, report_in, report_of_text, step}
use Rattle.fb_verify.specs.declared.lines.Line.{Line}
use Rattle.fb_verify.specs.declared.lines.Line.TheVariants as line
use Rattle.fb_verify.specs.declared.report_faults.ReportFault.{ReportFault}
use Rattle.fb_verify.specs.declared.report_faults.ReportFault.TheVariants.{BadLine, WrongShot}
use Rattle.fb_verify.specs.declared.reports.Report.{Report}
use Rattle.fb_verify.specs.declared.reports.Totals.{Totals}
use Rattle.fb_verify.specs.declared.reports.Version.{Version}
use Rattle.fb_verify.specs.declared.reports.Version.TheVariants.{One, Two}

module _ (to : Coding) (observables : List (List ℕ)) where
  -- the record of the row that lines at a place may still add to: its edges settle it
  abbrev pub last_record : Place → List ℕ
  last_record (place.Listed edges) = record_at to observables (line.Edges edges)
  last_record (place.Based version edges base) = record_at to observables (line.Edges edges)
  last_record (place.Cuts version edges base weight cuts) = record_at to observables (line.Edges edges)
  last_record here = []

  -- these are the records of a reading
  abbrev pub AreSoFar : List ℕ → Reading → Type 0
  AreSoFar text r = text ≡ predictions to observables r.rows ++ last_record r.place

  abbrev Follows : List ℕ → Line → Reading → Type 0
  Follows text said next = AreSoFar (text ++ record_at to observables said) next

  one_more : (rows : List Row) (last : Row) → predictions to observables (rows ++ last ∷ []) ≡ predictions to observables rows ++ coded to (observed_bits observables last)
  one_more rows last =
      flat_map-append (λ r. coded to (observed_bits observables r)) rows (last ∷ [])
      ∙ ap (λ l. predictions to observables rows ++ l) (append-nil (coded to (observed_bits observables last)))

  module _ (text : List ℕ) (n : ℕ) (version : Version) (rows : List Row) (all : text ≡ predictions to observables rows) where
    nothing_more : text ++ [] ≡ predictions to observables rows ++ []
    nothing_more = ap (λ l. l ++ []) all

    odd_more : (v : ℕ) → text ++ coded to (observed_bits observables (row.Odd v)) ≡ predictions to observables (rows ++ row.Odd v ∷ []) ++ []
    odd_more v =
        ap (λ l. l ++ coded to (observed_bits observables (row.Odd v))) all ∙ sym (one_more rows (row.Odd v))
        ∙ sym (append-nil (predictions to observables (rows ++ row.Odd v ∷ [])))

    after_rows : (said : Line) → IfOk (at_row_end n version rows said) (Follows text said)
    after_rows (line.Shot k) = if_taken (Follows text (line.Shot k)) _ (reading rows (place.InRow version)) (WrongShot n) nothing_more
    after_rows (line.Odd k v) = if_taken (Follows text (line.Odd k v)) _ (reading (rows ++ row.Odd v ∷ []) (place.Between version)) (WrongShot n) (odd_more v)
    after_rows line.Trace = if_refused (Follows text line.Trace) (has_none rows) (reading rows (place.Between version)) (BadLine n) nothing_more
    after_rows (line.Done totals) = if_taken (Follows text (line.Done totals)) _ (reading rows (place.End totals)) (BadLine n) nothing_more
    after_rows (line.Head other) = tt
    after_rows (line.Edges edges) = tt
    after_rows (line.Base base) = tt
    after_rows (line.Weight weight) = tt
    after_rows (line.Cut c) = tt

  after_line : (n : ℕ) (rows : List Row) (here : Place) (said : Line)
      → IfOk (step n rows here said) (Follows (predictions to observables rows ++ last_record here) said)
  after_line n rows place.Start (line.Head version) = append-nil (predictions to observables rows ++ [])
  after_line n rows place.Start said = tt
  after_line n rows (place.InRow One) (line.Edges edges) = ap (λ l. l ++ record_at to observables (line.Edges edges)) (append-nil (predictions to observables rows))
  after_line n rows (place.InRow Two) (line.Edges edges) = ap (λ l. l ++ record_at to observables (line.Edges edges)) (append-nil (predictions to observables rows))
  after_line n rows (place.InRow version) said = tt
  after_line n rows (place.Listed edges) (line.Base base) = append-nil (predictions to observables rows ++ record_at to observables (line.Edges edges))
  after_line n rows (place.Listed edges) said = tt
  after_line n rows (place.Based version edges base) (line.Weight weight) =
      if_taken (Follows (predictions to observables rows ++ record_at to observables (line.Edges edges)) (line.Weight weight)) (may_weigh version weight)
      (reading rows (place.Cuts version edges base weight [])) (BadLine n) (append-nil (predictions to observables rows ++ record_at to observables (line.Edges edges)))
  after_line n rows (place.Based version edges base) said = tt
  after_line n rows (place.Cuts version edges base weight cuts) (line.Cut c) = append-nil (predictions to observables rows ++ record_at to observables (line.Edges edges))
  after_line n rows (place.Cuts version edges base weight cuts) (line.Head other) = tt
  after_line n rows (place.Cuts version edges base weight cuts) (line.Edges more) = tt
  after_line n rows (place.Cuts version edges base weight cuts) (line.Base other) = tt
  after_line n rows (place.Cuts version edges base weight cuts) (line.Weight other) = tt
  after_line n rows (place.Cuts version edges base weight cuts) (line.Shot k) =
      after_rows _ n version (rows ++ row.Best edges base weight cuts ∷ []) (sym (one_more rows (row.Best edges base weight cuts))) (line.Shot k)
  after_line n rows (place.Cuts version edges base weight cuts) (line.Odd k v) =
      after_rows _ n version (rows ++ row.Best edges base weight cuts ∷ []) (sym (one_more rows (row.Best edges base weight cuts))) (line.Odd k v)
  after_line n rows (place.Cuts version edges base weight cuts) line.Trace =
      after_rows _ n version (rows ++ row.Best edges base weight cuts ∷ []) (sym (one_more rows (row.Best edges base weight cuts))) line.Trace
  after_line n rows (place.Cuts version edges base weight cuts) (line.Done totals) =
      after_rows _ n version (rows ++ row.Best edges base weight cuts ∷ []) (sym (one_more rows (row.Best edges base weight cuts))) (line.Done totals)
  after_line n rows (place.Between version) said = after_rows _ n version rows (append-nil (predictions to observables rows)) said
  after_line n rows (place.End totals) said = tt

  -- with the record that one more line adds
  pub so_far_after : (n : ℕ) (r next : Reading) (said : Line) (before after : List ℕ) → step n r.rows r.place said ≡ Ok next → AreSoFar before r
      → after ≡ before ++ record_at to observables said → AreSoFar after next
  so_far_after n r next said before after taken are added =
      added ∙ ap (λ l. l ++ record_at to observables said) are
      ∙ subst (λ (x : Result Reading ReportFault). IfOk x (Follows (predictions to observables r.rows ++ last_record r.place) said)) taken (after_line n r.rows r.place said)

  -- at the end of the report they are those of all its rows
  pub all_of_end : (r : Reading) (totals : Totals) (text : List ℕ) → r.place ≡ place.End totals → AreSoFar text r → text ≡ predictions to observables r.rows
  all_of_end r totals text ended are =
      are ∙ ap (λ here. predictions to observables r.rows ++ last_record here) ended ∙ append-nil (predictions to observables r.rows)

-- ---- how many rows have no correction

pub odd_of_report : (text : List ℕ) (report : Report) → report_of_text text ≡ Ok report → report.totals.odd ≡ count_by is_odd report.rows
unfolding report_of_text
odd_of_report text report e = elim (cases_Bool (nat_lt most_bytes (length text))) [
  | inl long ↦ absurd (let refused = rw long at e in cc)
  | inr short ↦
      let read : report_in text ≡ Ok report = rw short at e in
      let is : IsReportOf report text = subst (IsReadingOf text) read (reads_as_is text) in
      subst (λ (r : Report). r.totals.odd ≡ count_by is_odd r.rows) (sym is.says) refl
]

none_odd : (rows : List Row) → count_by is_odd rows ≡ 0 → list_any is_odd_row rows ≡ false
none_odd [] e = refl
none_odd (row.Best edges base weight cuts ∷ rows) e =
    none_odd rows (let more = sum_by-cons (λ (r : Row). cond (is_odd r) 1 0) (row.Best edges base weight cuts) rows in omega arith)
none_odd (row.Odd v ∷ rows) e = absurd (let more = sum_by-cons (λ (r : Row). cond (is_odd r) 1 0) (row.Odd v) rows in omega arith)

some_odd : (rows : List Row) → 0 < count_by is_odd rows → list_any is_odd_row rows ≡ true
some_odd [] some = absurd (omega arith)
some_odd (row.Best edges base weight cuts ∷ rows) some =
    some_odd rows (let more = sum_by-cons (λ (r : Row). cond (is_odd r) 1 0) (row.Best edges base weight cuts) rows in omega arith)
some_odd (row.Odd v ∷ rows) some = refl

pub done_of_rows : (rows : List Row) → count_by is_odd rows ≡ 0 → cause_of_rows rows ≡ Done
done_of_rows rows e = rw (none_odd rows e) refl

pub odd_of_rows : (rows : List Row) → 0 < count_by is_odd rows → cause_of_rows rows ≡ Odd
odd_of_rows rows some = rw (some_odd rows some) refl
