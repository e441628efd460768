-- The report of a decode, as the text of rows with their events.
use Rattle.std.proofs.Common.{◌≡◌, ℕ, suc, ◌+◌, cond, Bool, true, false, List, [], ◌∷◌, ◌++◌, length, map, count_by, Ok, refl, sym, ap, ◌∙◌, arith, append_assoc, append-nil, length-append}
use Rattle.std.specs.List.{concat, flat_map}
use Rattle.std.proofs.lemmas.List.{map-append}
use Rattle.std.proofs.lemmas.List.Sums.{sum_by-cons}
use Rattle.fb_book.specs.declared.entries.Entry.{Entry}
use Rattle.fb_exits.specs.TextEnds.{whole_text}
use Rattle.fb_graph.specs.Limits.{DecodingGraph, ShotValue}
use Rattle.fb_graph.specs.declared.parts.Row.{Row}
use Rattle.fb_graph.specs.declared.parts.Row.TheVariants as row
use Rattle.fb_plan.specs.Plans.{PlanTree}
use Rattle.fb_report.specs.Texts.{done_text, head_text, row_text, rows_text}
use Rattle.fb_run.proofs.Batched.{bare-batch}
use Rattle.fb_run.specs.Decoding.{AreBatches, Batch, all_rows, batch_text, batches_text, event_line, events_text, last_line_of}
use Rattle.fb_run.specs.Endings.{decode_account}
use Rattle.fb_run.specs.ReadBack.{ReadsBackReport, event_of, events_of, fusions_of, rows_with_last, traced_rows, units_of}
use Rattle.fb_run.specs.Rows.{counts_of, is_odd}
use Rattle.fb_verify.specs.ReadBack.{Event, IsReportInRange, ReadsBack, TracedRow, event_text, report_text, report_with, row_of, rows_of, traced_text}
use Rattle.fb_verify.specs.declared.reports.Version.TheVariants.{Two}
use Rattle.fb_verify.proofs.ReadRows.{head-text, row-text}
use Rattle.fb_verify.specs.Reports.{report_in}
use Rattle.fb_verify.specs.Reports as reports
use Rattle.fb_request.specs.Requests.{Decoding}

-- ---- odd rows, as both crates count them

odd_same : (r : Row) → reports.is_odd r ≡ is_odd r
odd_same (row.Best edges base weight cuts) = refl
odd_same (row.Odd v) = refl

odd_counted : (rows : List Row) → count_by reports.is_odd rows ≡ (counts_of rows).odd
odd_counted [] = refl
odd_counted (r ∷ rows) =
    sum_by-cons (λ x. cond (reports.is_odd x) 1 0) r rows
    ∙ ap (λ (b : Bool). cond {A = ℕ} b 1 0 + count_by reports.is_odd rows) (odd_same r)
    ∙ ap (λ (n : ℕ). cond (is_odd r) 1 0 + n) (odd_counted rows)
    ∙ sym (sum_by-cons (λ x. cond (is_odd x) 1 0) r rows)

-- ---- rows with events

traced_text-append : (k : ℕ) (xs ys : List TracedRow) → traced_text Two k (xs ++ ys) ≡ traced_text Two k xs ++ traced_text Two (k + length xs) ys
traced_text-append k [] ys =
    let e : k ≡ k + length (let none : List TracedRow = [] in none) = omega arith in
    ap (λ (n : ℕ). traced_text Two n ys) e
traced_text-append k (x ∷ xs) ys =
    let e : (k + 1) + length xs ≡ k + length (x ∷ xs) = omega arith in
    let events = concat (map event_text x.events) in
    ap (λ (text : List ℕ). row_of Two k x.row ++ (events ++ text))
    (traced_text-append (k + 1) xs ys ∙ ap (λ (n : ℕ). traced_text Two (k + 1) xs ++ traced_text Two n ys) e)
    ∙ ap (λ (text : List ℕ). row_of Two k x.row ++ text) (sym (append_assoc events (traced_text Two (k + 1) xs) (traced_text Two (k + length (x ∷ xs)) ys)))
    ∙ sym (append_assoc (row_of Two k x.row) (events ++ traced_text Two (k + 1) xs) (traced_text Two (k + length (x ∷ xs)) ys))

with_last-length : (rows : List Row) (events : List Event) → length (rows_with_last rows events) ≡ length rows
with_last-length [] events = refl
with_last-length (r ∷ []) events = refl
with_last-length (r ∷ s ∷ rs) events = ap suc (with_last-length (s ∷ rs) events)

with_last-rows : (rows : List Row) (events : List Event) → rows_of (rows_with_last rows events) ≡ rows
with_last-rows [] events = refl
with_last-rows (r ∷ []) events = refl
with_last-rows (r ∷ s ∷ rs) events = ap (λ (rows : List Row). r ∷ rows) (with_last-rows (s ∷ rs) events)

-- the events follow the last row, if there is one
with_last-text : (k : ℕ) (r : Row) (rs : List Row) (events : List Event)
    → traced_text Two k (rows_with_last (r ∷ rs) events) ≡ rows_text k (r ∷ rs) ++ concat (map event_text events)
with_last-text k r [] events =
    let text = concat (map event_text events) in
    ap (λ (row : List ℕ). row ++ (text ++ [])) (row-text k r)
    ∙ ap (λ (end : List ℕ). row_text k r ++ end) (append-nil text) ∙ ap (λ (rows : List ℕ). rows ++ text) (sym (append-nil (row_text k r)))
with_last-text k r (s ∷ rs) events =
    ap (λ (row : List ℕ). row ++ traced_text Two (k + 1) (rows_with_last (s ∷ rs) events)) (row-text k r)
    ∙ ap (λ (end : List ℕ). row_text k r ++ end) (with_last-text (k + 1) s rs events)
    ∙ sym (append_assoc (row_text k r) (rows_text (k + 1) (s ∷ rs)) (concat (map event_text events)))

events_same : (first : ℕ) (history : List Entry) → flat_map (event_line first) history ≡ concat (map event_text (map (event_of first) history))
events_same first [] = refl
events_same first (e ∷ es) = ap (λ (text : List ℕ). event_line first e ++ text) (events_same first es)

events_text-same : (trace : Bool) (first : ℕ) (history : List Entry) → events_text trace first history ≡ concat (map event_text (events_of trace first history))
events_text-same false first history = refl
events_text-same true first history = events_same first history

-- ---- batches

module _ (request : Decoding) (g : DecodingGraph) (t : PlanTree) where
  batch-same : (first : ℕ) (b : Batch) → ((b.rows ≡ []) → batch_text request.trace first b ≡ [])
      → batch_text request.trace first b ≡ traced_text Two first (rows_with_last b.rows (events_of request.trace first b.history))
  batch-same first b none = by_rows b.rows refl
    where
      by_rows : (rows : List Row) → b.rows ≡ rows
          → batch_text request.trace first b ≡ traced_text Two first (rows_with_last b.rows (events_of request.trace first b.history))
      by_rows [] is = none is ∙ ap (λ (rows : List Row). traced_text Two first (rows_with_last rows (events_of request.trace first b.history))) (sym is)
      by_rows (r ∷ rs) is =
          ap (λ (rows : List Row). rows_text first rows ++ events_text request.trace first b.history) is
          ∙ ap (λ (events : List ℕ). rows_text first (r ∷ rs) ++ events) (events_text-same request.trace first b.history)
          ∙ sym (with_last-text first r rs (events_of request.trace first b.history))
          ∙ ap (λ (rows : List Row). traced_text Two first (rows_with_last rows (events_of request.trace first b.history))) (sym is)

  traced-length : (first : ℕ) (bs : List Batch) → length (traced_rows request.trace first bs) ≡ length (all_rows bs)
  traced-length first [] = refl
  traced-length first (b ∷ bs) = omega (
    arith,
    length-append (rows_with_last b.rows (events_of request.trace first b.history)) (traced_rows request.trace (first + length b.rows) bs),
    with_last-length b.rows (events_of request.trace first b.history),
    traced-length (first + length b.rows) bs,
    length-append b.rows (all_rows bs),
  )

  traced-rows : (first : ℕ) (bs : List Batch) → rows_of (traced_rows request.trace first bs) ≡ all_rows bs
  traced-rows first [] = refl
  traced-rows first (b ∷ bs) =
      let events = events_of request.trace first b.history in
      map-append (λ (r : TracedRow). r.row) (rows_with_last b.rows events) (traced_rows request.trace (first + length b.rows) bs)
      ∙ ap (λ (rows : List Row). rows ++ rows_of (traced_rows request.trace (first + length b.rows) bs)) (with_last-rows b.rows events)
      ∙ ap (λ (rows : List Row). b.rows ++ rows) (traced-rows (first + length b.rows) bs)

  batches-same : (first : ℕ) (shots : List ShotValue) (bs : List Batch) → AreBatches request g t shots bs
      → batches_text request.trace first bs ≡ traced_text Two first (traced_rows request.trace first bs)
  batches-same first shots [] answers = refl
  batches-same first shots (b ∷ bs) (some, here, rest) =
      let events = events_of request.trace first b.history in
      let later = traced_rows request.trace (first + length b.rows) bs in
      ap (λ (text : List ℕ). text ++ batches_text request.trace (first + length b.rows) bs) (batch-same first b (bare-batch request g t first _ b here))
      ∙ ap (λ (text : List ℕ). traced_text Two first (rows_with_last b.rows events) ++ text) (batches-same (first + length b.rows) _ bs rest)
      ∙ ap (λ (n : ℕ). traced_text Two first (rows_with_last b.rows events) ++ traced_text Two (first + n) later) (sym (with_last-length b.rows events))
      ∙ sym (traced_text-append first (rows_with_last b.rows events) later)

  whole-same : (shots : List ShotValue) (bs : List Batch) → AreBatches request g t shots bs
      → whole_text (decode_account request g t) shots bs ≡ report_text Two (traced_rows request.trace 0 bs) (units_of t bs) (fusions_of t bs)
  whole-same shots bs answers =
      let traced = traced_rows request.trace 0 bs in
      ap (λ (text : List ℕ). (head_text ++ text) ++ last_line_of t bs) (batches-same 0 shots bs answers)
      ∙ ap (λ (n : ℕ). (head_text ++ traced_text Two 0 traced) ++ done_text n (counts_of (all_rows bs)).odd (units_of t bs) (fusions_of t bs))
      (sym (traced-length 0 bs))
      ∙ ap (λ (n : ℕ). (head_text ++ traced_text Two 0 traced) ++ done_text (length traced) n (units_of t bs) (fusions_of t bs))
      (sym (odd_counted (all_rows bs)) ∙ ap (count_by reports.is_odd) (sym (traced-rows 0 bs)))
      ∙ ap (λ (head : List ℕ). (head ++ traced_text Two 0 traced)
      ++ done_text (length traced) (count_by reports.is_odd (rows_of traced)) (units_of t bs) (fusions_of t bs)) (sym head-text)

  reads : ReadsBack → (shots : List ShotValue) (bs : List Batch) → AreBatches request g t shots bs
      → IsReportInRange Two (traced_rows request.trace 0 bs) (units_of t bs) (fusions_of t bs)
      → report_in (whole_text (decode_account request g t) shots bs) ≡ Ok (report_with (all_rows bs) (units_of t bs) (fusions_of t bs))
  reads back shots bs answers fit =
      ap report_in (whole-same shots bs answers)
      ∙ back Two (traced_rows request.trace 0 bs) (units_of t bs) (fusions_of t bs) fit
      ∙ ap (λ (rows : List Row). Ok (report_with rows (units_of t bs) (fusions_of t bs))) (traced-rows 0 bs)

pub report_reads_back : ReadsBack → ReadsBackReport
report_reads_back back request g t = reads request g t back
