-- What the rows of a report keep while it is read: cuts of values of at least 1, and no more rows than lines.
use Rattle.std.specs.Prelude.{◌==◌, ◌&&◌, nat_lt, if◌then◌else◌, codes, count_by, option_map, option_and_then}
use Rattle.std.specs.Str.{bytes_eq}
use Rattle.std.proofs.Common.{◌≡◌, ℕ, ℤ, pos, ◌+◌, ◌<◌, ◌≤◌, ◌^◌, Bool, true, false, List, [], ◌∷◌, ◌++◌, length, All, Option, Some, None, Result, Ok, Err, IfOk, IfSome, refl, sym, ap, subst, ◌∙◌, inl, inr, arith, append-nil}
use Rattle.std.proofs.lemmas.Bool.{cases_Bool, cases_eq, cases_lt, lt-ltb}
use Rattle.std.proofs.lemmas.List.{length_push}
use Rattle.std.proofs.lemmas.List.Elements.{All-nil, All-push, All-pop}
use Rattle.std.proofs.lemmas.List.Splits.{length-slice_split}
use Rattle.std.proofs.lemmas.List.Sums.{count_by-le-length}
use Rattle.std.specs.List.{slice_split}
use Rattle.fb_graph.specs.declared.parts.Row.{Row}
use Rattle.fb_graph.specs.declared.parts.Row.TheVariants as row
use Rattle.fb_verify.specs.declared.report_faults.ReportFault.{ReportFault}
use Rattle.fb_verify.specs.declared.reports.Report.{Report}
use Rattle.fb_verify.specs.declared.reports.Version.{Version}
use Rattle.fb_verify.specs.declared.reports.Version.TheVariants.{One, Two}
use Rattle.fb_verify.specs.declared.lines.Line.{Line}
use Rattle.fb_verify.specs.declared.lines.Line.TheVariants as line
use Rattle.fb_verify.specs.Places.{Place}
use Rattle.fb_verify.specs.Places as place
use Rattle.fb_verify.specs.Places.{Reading}
use Rattle.fb_verify.specs.declared.report_faults.ReportFault.TheVariants.{BadLine, WrongShot}
use Rattle.fb_graph.specs.declared.parts.Cut.{Cut}
use Rattle.fb_verify.specs.Reports.{words_of, is_odd, has_none, first_number, first_signed, after_word, all_numbers, with_number, with_signed, with_word, at_end, row_kind, cut_of, head_line, shot_line, edges_line, base_line, weight_line, cut_line, trace_line, done_line, line_of, reading, as_next, at_row_end, may_weigh, step, with_line, ending, go_on, read_from, most_bytes, report_of_text}
use Rattle.fb_verify.specs.Verdicts.{HasPositiveValues}

-- ---- lines

abbrev IsPositive : Line → Type 0
IsPositive (line.Cut c) = 1 ≤ c.value
IsPositive said = Unit {0}

if_both : {X : Type 0} (P : X → Type 0) (b : Bool) (x y : Option X) → IfSome x P → IfSome y P → IfSome (if b then x else y) P
if_both P true x y p q = p
if_both P false x y p q = q

and_then_all : {X Y : Type 0} (P : Y → Type 0) (f : X → Option Y) (o : Option X) → ((x : X) → IfSome (f x) P) → IfSome (option_and_then f o) P
and_then_all P f None h = tt
and_then_all P f (Some x) h = h x

map_all : {X Y : Type 0} (P : Y → Type 0) (f : X → Y) (o : Option X) → ((x : X) → P (f x)) → IfSome (option_map f o) P
map_all P f None h = tt
map_all P f (Some x) h = h x

ended : (said : Line) (words : List (List ℕ)) → IsPositive said → IfSome (at_end said words) IsPositive
ended said [] p = p
ended said (w ∷ ws) p = tt

numbered : (bound : ℕ) (words : List (List ℕ)) (f : ℕ → List (List ℕ) → Option Line) → ((n : ℕ) (ws : List (List ℕ)) → IfSome (f n ws) IsPositive) → IfSome (with_number bound words f) IsPositive
numbered bound words f h = and_then_all IsPositive (λ p. f p.0 p.1) (first_number bound words) (λ p. h p.0 p.1)

signed_numbered : (bound : ℕ) (words : List (List ℕ)) (f : ℤ → List (List ℕ) → Option Line) → ((z : ℤ) (ws : List (List ℕ)) → IfSome (f z ws) IsPositive)
    → IfSome (with_signed bound words f) IsPositive
signed_numbered bound words f h = and_then_all IsPositive (λ p. f p.0 p.1) (first_signed bound words) (λ p. h p.0 p.1)

worded : (word : List ℕ) (words : List (List ℕ)) (f : List (List ℕ) → Option Line) → ((ws : List (List ℕ)) → IfSome (f ws) IsPositive) → IfSome (with_word word words f) IsPositive
worded word words f h = and_then_all IsPositive f (after_word word words) h

kind_positive : (k : ℕ) (words : List (List ℕ)) → IfSome (row_kind k words) IsPositive
unfolding row_kind
kind_positive k [] = tt
kind_positive k (w ∷ ws) =
    if_both IsPositive (bytes_eq w (codes "odd")) _ None (numbered (2 ^ 32) ws _ (λ v rest. ended (line.Odd k v) rest tt)) tt

cut_positive : (value : ℕ) (vertices : List ℕ) → IfSome (cut_of value vertices) IsPositive
cut_positive value vertices = elim (cases_eq value 0) [
  | inl zero ↦ rw zero tt
  | inr some ↦ if_both IsPositive (value == 0) None (Some (line.Cut (record { value = value; vertices = vertices }))) tt (omega arith)
]

trace_positive : (words : List (List ℕ)) → IfSome (trace_line words) IsPositive
unfolding trace_line
trace_positive words =
    numbered (2 ^ 32) words _ (λ worker ws. numbered (2 ^ 32) ws _ (λ shot ws. numbered (2 ^ 32) ws _ (λ node ws. ended line.Trace ws tt)))

done_positive : (words : List (List ℕ)) → IfSome (done_line words) IsPositive
unfolding done_line
done_positive words =
    numbered (2 ^ 64) words _ (λ rows ws. worded (codes "odd") ws _ (λ ws.
    numbered (2 ^ 64) ws _ (λ odd ws. worded (codes "units") ws _ (λ ws.
    numbered (2 ^ 64) ws _ (λ units ws. worded (codes "fusions") ws _ (λ ws.
    numbered (2 ^ 64) ws _ (λ fusions ws.
    ended (line.Done (record { rows = rows; odd = odd; units = units; fusions = fusions })) ws tt)))))))

head_positive : (words : List (List ℕ)) → IfSome (head_line words) IsPositive
unfolding head_line
head_positive [] = tt
head_positive (w ∷ ws) =
    if_both IsPositive (bytes_eq w (codes "1")) _ _ (ended (line.Head One) ws tt)
    (if_both IsPositive (bytes_eq w (codes "2")) _ None (ended (line.Head Two) ws tt) tt)

line_positive : (words : List (List ℕ)) → IfSome (line_of words) IsPositive
unfolding line_of shot_line edges_line base_line weight_line cut_line
line_positive [] = tt
line_positive (w ∷ ws) =
    if_both IsPositive (bytes_eq w (codes "fusion-report")) _ _ (head_positive ws)
    (if_both IsPositive (bytes_eq w (codes "shot")) _ _ (numbered (2 ^ 32) ws row_kind kind_positive)
    (if_both IsPositive (bytes_eq w (codes "edges")) _ _ (map_all IsPositive line.Edges (all_numbers ws) (λ es. tt))
    (if_both IsPositive (bytes_eq w (codes "base")) _ _ (signed_numbered (2 ^ 63) ws _ (λ base ws. ended (line.Base base) ws tt))
    (if_both IsPositive (bytes_eq w (codes "weight")) _ _ (signed_numbered (2 ^ 64) ws _ (λ weight ws. ended (line.Weight weight) ws tt))
    (if_both IsPositive (bytes_eq w (codes "cut")) _ _
    (numbered (2 ^ 64) ws _ (λ value ws. and_then_all IsPositive (cut_of value) (all_numbers ws) (cut_positive value)))
    (if_both IsPositive (bytes_eq w (codes "took")) _ _ (trace_positive ws)
    (if_both IsPositive (bytes_eq w (codes "gave")) _ _ (trace_positive ws)
    (if_both IsPositive (bytes_eq w (codes "done")) _ None (done_positive ws) tt))))))))

-- ---- line after line

-- the row that further lines may add to
abbrev open_row : Place → List Row
open_row (place.Cuts version edges base weight cuts) = row.Best edges base weight cuts ∷ []
open_row here = []

abbrev all_rows : Reading → List Row
all_rows r = r.rows ++ open_row r.place

-- the values of all rows are positive, and there are at most so many
record IsKept (count : ℕ) (r : Reading) : Type 0 where
  positive : All HasPositiveValues (all_rows r)
  few : length (all_rows r) ≤ count

abbrev Kept : ℕ → Result Reading ReportFault → Type 0
Kept count result = IfOk result (IsKept count)

kept_if : (count : ℕ) (b : Bool) (r s : Result Reading ReportFault) → Kept count r → Kept count s → Kept count (if b then r else s)
kept_if count true r s p q = p
kept_if count false r s p q = q

kept_same : (count : ℕ) (rows : List Row) (here : Place) → open_row here ≡ [] → All HasPositiveValues rows → length rows ≤ count → IsKept (count + 1) (reading rows here)
kept_same count rows here none positive few =
    let same : rows ++ open_row here ≡ rows = ap (λ (l : List Row). rows ++ l) none ∙ append-nil rows in
    record {
      positive = subst (All HasPositiveValues) (sym same) positive;
      few = omega (arith, ap length same);
    }

kept_pushed : (count : ℕ) (version : Version) (rows : List Row) (r : Row) → HasPositiveValues r → All HasPositiveValues rows → length rows ≤ count
    → IsKept (count + 1) (reading (rows ++ r ∷ []) (place.Between version))
kept_pushed count version rows r fine positive few =
    let same : (rows ++ r ∷ []) ++ [] ≡ rows ++ r ∷ [] = append-nil (rows ++ r ∷ []) in
    record {
      positive = subst (All HasPositiveValues) (sym same) (All-push HasPositiveValues rows r positive fine);
      few = omega (arith, ap length same, length_push rows r);
    }

kept_next : (count n : ℕ) (rows : List Row) (k : ℕ) (next : Reading) → IsKept count next → Kept count (as_next n rows k next)
kept_next count n rows k next kept = kept_if count (k == length rows) (Ok next) (Err (WrongShot n)) kept tt

kept_end : (count n : ℕ) (version : Version) (rows : List Row) (said : Line) → All HasPositiveValues rows → length rows ≤ count
    → Kept (count + 1) (at_row_end n version rows said)
kept_end count n version rows (line.Shot k) positive few =
    kept_next (count + 1) n rows k (reading rows (place.InRow version)) (kept_same count rows (place.InRow version) refl positive few)
kept_end count n version rows (line.Odd k v) positive few =
    kept_next (count + 1) n rows k (reading (rows ++ row.Odd v ∷ []) (place.Between version))
    (kept_pushed count version rows (row.Odd v) tt positive few)
kept_end count n version rows line.Trace positive few =
    kept_if (count + 1) (has_none rows) (Err (BadLine n)) (Ok (reading rows (place.Between version))) tt
    (kept_same count rows (place.Between version) refl positive few)
kept_end count n version rows (line.Done totals) positive few =
    kept_if (count + 1) (totals.rows == length rows && totals.odd == count_by is_odd rows) (Ok (reading rows (place.End totals))) (Err (BadLine n))
    (kept_same count rows (place.End totals) refl positive few) tt
kept_end count n version rows (line.Head other) positive few = tt
kept_end count n version rows (line.Edges edges) positive few = tt
kept_end count n version rows (line.Base base) positive few = tt
kept_end count n version rows (line.Weight weight) positive few = tt
kept_end count n version rows (line.Cut c) positive few = tt

-- rows behind which no row is open
closed_positive : (rows : List Row) → All HasPositiveValues (rows ++ []) → All HasPositiveValues rows
closed_positive rows p = subst (All HasPositiveValues) (append-nil rows) p

closed_few : (count : ℕ) (rows : List Row) → length (rows ++ []) ≤ count → length rows ≤ count
closed_few count rows le = omega (arith, ap length (append-nil rows))

kept_opened : (count : ℕ) (version : Version) (rows : List Row) (edges : List ℕ) (base weight : ℤ) (cuts : List Cut)
    → All HasPositiveValues rows → length rows ≤ count → All (λ (c : Cut). 1 ≤ c.value) cuts
    → IsKept (count + 1) (reading rows (place.Cuts version edges base weight cuts))
kept_opened count version rows edges base weight cuts positive few fine = record {
  positive = All-push HasPositiveValues rows (row.Best edges base weight cuts) positive fine;
  few = omega (arith, length_push rows (row.Best edges base weight cuts));
}

before_last : (rows : List Row) (r : Row) → All HasPositiveValues (rows ++ r ∷ []) → All HasPositiveValues rows × HasPositiveValues r
before_last rows r p = All-pop HasPositiveValues (rows ++ r ∷ []) rows (Some r) refl p

kept_cut : (count : ℕ) (version : Version) (rows : List Row) (edges : List ℕ) (base weight : ℤ) (cuts : List Cut) (c : Cut) → 1 ≤ c.value
    → IsKept count (reading rows (place.Cuts version edges base weight cuts))
    → IsKept (count + 1) (reading rows (place.Cuts version edges base weight (cuts ++ c ∷ [])))
kept_cut count version rows edges base weight cuts c fine kept =
    let parts = before_last rows (row.Best edges base weight cuts) kept.positive in
    let few = kept.few in
    kept_opened count version rows edges base weight (cuts ++ c ∷ []) parts.0 (omega (arith, length_push rows (row.Best edges base weight cuts)))
    (All-push (λ (c : Cut). 1 ≤ c.value) cuts c parts.1 fine)

kept_step : (count n : ℕ) (rows : List Row) (here : Place) (said : Line) → IsPositive said → IsKept count (reading rows here) → Kept (count + 1) (step n rows here said)
kept_step count n rows place.Start (line.Head version) fine kept =
    kept_same count rows (place.Between version) refl (closed_positive rows kept.positive) (closed_few count rows kept.few)
kept_step count n rows place.Start said fine kept = tt
kept_step count n rows (place.InRow One) (line.Edges edges) fine kept =
    kept_same count rows (place.Based One edges (pos 0)) refl (closed_positive rows kept.positive) (closed_few count rows kept.few)
kept_step count n rows (place.InRow Two) (line.Edges edges) fine kept =
    kept_same count rows (place.Listed edges) refl (closed_positive rows kept.positive) (closed_few count rows kept.few)
kept_step count n rows (place.InRow version) said fine kept = tt
kept_step count n rows (place.Listed edges) (line.Base base) fine kept =
    kept_same count rows (place.Based Two edges base) refl (closed_positive rows kept.positive) (closed_few count rows kept.few)
kept_step count n rows (place.Listed edges) said fine kept = tt
kept_step count n rows (place.Based version edges base) (line.Weight weight) fine kept =
    kept_if (count + 1) (may_weigh version weight) (Ok (reading rows (place.Cuts version edges base weight []))) (Err (BadLine n))
    (kept_opened count version rows edges base weight [] (closed_positive rows kept.positive) (closed_few count rows kept.few)
    (λ k d lt. absurd (omega arith)))
    tt
kept_step count n rows (place.Based version edges base) said fine kept = tt
kept_step count n rows (place.Cuts version edges base weight cuts) (line.Cut c) fine kept =
    kept_cut count version rows edges base weight cuts c fine kept
kept_step count n rows (place.Cuts version edges base weight cuts) said fine kept =
    kept_end count n version (rows ++ row.Best edges base weight cuts ∷ []) said kept.positive kept.few
kept_step count n rows (place.Between version) said fine kept =
    kept_end count n version rows said (closed_positive rows kept.positive) (closed_few count rows kept.few)
kept_step count n rows (place.End totals) said fine kept = tt

kept_line : (count n : ℕ) (r : Reading) (said : Option Line) → IfSome said IsPositive → IsKept count r → Kept (count + 1) (with_line n r said)
kept_line count n r None fine kept = tt
kept_line count n r (Some said) fine kept = kept_step count n r.rows r.place said fine kept

-- ---- the whole text

record IsFine (count : ℕ) (report : Report) : Type 0 where
  positive : All HasPositiveValues report.rows
  few : length report.rows ≤ count

kept_ending : (count n : ℕ) (rows : List Row) (here : Place) (bytes : List ℕ) → IsKept count (reading rows here) → IfOk (ending n rows here bytes) (IsFine count)
kept_ending count n rows (place.End totals) [] kept = record { positive = closed_positive rows kept.positive; few = closed_few count rows kept.few }
kept_ending count n rows (place.End totals) (b ∷ bytes) kept = tt
kept_ending count n rows here bytes kept = tt

fine_more : (count more : ℕ) (result : Result Report ReportFault) → count ≤ more → IfOk result (IsFine count) → IfOk result (IsFine more)
fine_more count more (Ok report) le fine = record { positive = fine.positive; few = (let few = fine.few in omega arith) }
fine_more count more (Err fault) le fine = tt

kept_read : (count n : ℕ) (r : Reading) (parts : List (List ℕ)) → IsKept count r → IfOk (read_from n r parts) (IsFine (count + length parts))
kept_read count n r [] kept = tt
kept_read count n r (last ∷ []) kept = fine_more count (count + 1) _ (omega arith) (kept_ending count n r.rows r.place last kept)
kept_read count n r (text ∷ part ∷ parts) kept =
    through (with_line n r (line_of (words_of text))) (kept_line count n r (line_of (words_of text)) (line_positive (words_of text)) kept)
    (λ next kept. kept_read (count + 1) (n + 1) next (part ∷ parts) kept)
  where
    through : (result : Result Reading ReportFault) → Kept (count + 1) result → ((next : Reading) → IsKept (count + 1) next → IfOk (read_from (n + 1) next (part ∷ parts)) (IsFine (count + 1 + length (part ∷ parts))))
        → IfOk (go_on result (λ next. read_from (n + 1) next (part ∷ parts))) (IsFine (count + length (text ∷ part ∷ parts)))
    through (Ok next) kept later = fine_more (count + 1 + length (part ∷ parts)) (count + length (text ∷ part ∷ parts)) _ (omega arith) (later next kept)
    through (Err fault) kept later = tt

fine_report : (text : List ℕ) → IfOk (report_of_text text) (IsFine (length (slice_split (λ b. b == 10) text)))
unfolding report_of_text
fine_report text = elim (cases_Bool (nat_lt most_bytes (length text))) [
  | inl long ↦ rw long tt
  | inr short ↦
      rw short (fine_more (0 + length (slice_split (λ b. b == 10) text)) (length (slice_split (λ b. b == 10) text)) _ (omega arith)
      (kept_read 0 1 (reading [] place.Start) (slice_split (λ b. b == 10) text) (record { positive = All-nil HasPositiveValues; few = omega arith })))
]

fine_of : (text : List ℕ) (report : Report) → report_of_text text ≡ Ok report → IsFine (length (slice_split (λ b. b == 10) text)) report
fine_of text report e = subst (λ (r : Result Report ReportFault). IfOk r (IsFine (length (slice_split (λ b. b == 10) text)))) e (fine_report text)

few_rows : (text : List ℕ) (report : Report) → report_of_text text ≡ Ok report → length report.rows < 2 ^ 32
unfolding report_of_text
few_rows text report e = elim (cases_lt most_bytes (length text)) [
  | inl long ↦ absurd (let b = lt-ltb most_bytes (length text) long in let refused = rw b at e in cc)
  | inr short ↦
      let few = (fine_of text report e).few in
      omega (arith, length-slice_split (λ (b : ℕ). b == 10) text, count_by-le-length (λ (b : ℕ). b == 10) text)
]

-- ---- what the reader answers

pub ok_positive : (text : List ℕ) (result : Result Report ReportFault) → IfOk result (λ r. report_of_text text ≡ Ok r) → IfOk result (λ r. All HasPositiveValues r.rows)
ok_positive text (Ok report) e = (fine_of text report e).positive
ok_positive text (Err fault) e = tt

pub ok_few : (text : List ℕ) (result : Result Report ReportFault) → IfOk result (λ r. report_of_text text ≡ Ok r) → IfOk result (λ r. length r.rows < 2 ^ 32)
ok_few text (Ok report) e = few_rows text report e
ok_few text (Err fault) e = tt
