-- A printed report, read line by line.
use Rattle.std.proofs.Common.{◌≡◌, ℕ, ℤ, pos, negsuc, ◌+◌, ◌<◌, ◌≤◌, ◌^◌, Bool, true, false, eqb, List, [], ◌∷◌, ◌++◌, length, All, map, codes, decimal, Option, Some, Ok, refl, sym, ap, subst, ◌∙◌, arith, append_assoc, append-nil}
use Rattle.std.specs.Prelude.{if◌then◌else◌, option_map, option_and_then, count_by, unsigned_abs}
use Rattle.std.specs.Fmt.{signed_decimal}
use Rattle.std.specs.List.{concat, slice_split}
use Rattle.std.proofs.lemmas.Bool.{ne_eqb, eq-eqb, and_from, lt-ltb}
use Rattle.std.proofs.lemmas.Int.{ints}
use Rattle.std.proofs.lemmas.List.{length_push, length-map}
use Rattle.std.proofs.lemmas.List.Sums.{count_by-le-length}
use Rattle.std.proofs.lemmas.List.Elements.{All-nil, All-head, All-tail, All-map, All-weaker}
use Rattle.fb_graph.specs.declared.parts.Cut.{Cut}
use Rattle.fb_graph.specs.declared.parts.Row.{Row}
use Rattle.fb_graph.specs.declared.parts.Row.TheVariants as row
use Rattle.fb_report.specs.Texts as texts
use Rattle.fb_report.specs.Texts.{line, head_text, base_line, weight_line, row_text, rows_text, done_text}
use Rattle.fb_verify.specs.declared.reports.Totals.{Totals}
use Rattle.fb_verify.specs.declared.reports.Version.{Version}
use Rattle.fb_verify.specs.declared.reports.Version.TheVariants.{One, Two}
use Rattle.fb_verify.specs.declared.lines.Line.{Line}
use Rattle.fb_verify.specs.declared.lines.Line.TheVariants as line
use Rattle.fb_verify.specs.Places as place
use Rattle.fb_verify.specs.Places.{Reading}
use Rattle.fb_verify.specs.Reports.{is_odd, has_none, with_number, with_signed, at_end, trace_line, row_kind, cut_of, head_line, shot_line, edges_line, cut_line, done_line, line_of, reading, as_next, at_row_end, after_edges, may_weigh, step, with_line, read_from, report_in}
use Rattle.fb_verify.specs.ReadBack.{Event, TracedRow, event_text, head_of, base_lines, row_of, traced_text, rows_of, report_text, plain_text, report_with, IsBaseInRange, IsWeightInRange, IsCutInRange, IsRowInRange, IsEventInRange, IsInRange, ReadsBack, PlainReadsBack}
use Rattle.fb_verify.proofs.LineAfterLine.{read_taken}
use Rattle.fb_verify.proofs.PrintedWords.{IsWord, AreWords, word_decimal, word_signed, words_decimal, first_number-decimal, first_signed-decimal, all_numbers-decimal, first_line}
use Rattle.fb_verify.specs.Reports as reports

-- ---- what printed lines say

with_first : {X : Type 0} (bound n : ℕ) (ws : List (List ℕ)) (go_on : ℕ → List (List ℕ) → Option X) → n < bound → bound ≤ 2 ^ 64 → with_number bound (decimal n ∷ ws) go_on ≡ go_on n ws
with_first bound n ws go_on lt le = ap (option_and_then (λ p. go_on p.0 p.1)) (first_number-decimal bound n ws lt le)

pub said_shot : (k : ℕ) → k < 2 ^ 32 → line_of (codes "shot" ∷ decimal k ∷ []) ≡ Some (line.Shot k)
unfolding line_of shot_line row_kind
said_shot k lt = with_first (2 ^ 32) k [] row_kind lt (omega arith)

pub said_odd : (k v : ℕ) → k < 2 ^ 32 → v < 2 ^ 32 → line_of (codes "shot" ∷ decimal k ∷ codes "odd" ∷ decimal v ∷ []) ≡ Some (line.Odd k v)
unfolding line_of shot_line row_kind
said_odd k v lt less =
    with_first (2 ^ 32) k (codes "odd" ∷ decimal v ∷ []) row_kind lt (omega arith)
    ∙ with_first (2 ^ 32) v [] (λ v. at_end (line.Odd k v)) less (omega arith)

said_edges : (edges : List ℕ) → All (λ k. k < 2 ^ 32) edges → line_of (codes "edges" ∷ map decimal edges) ≡ Some (line.Edges edges)
unfolding line_of edges_line
said_edges edges lt = ap (option_map line.Edges) (all_numbers-decimal edges lt)

first_with_sign : {X : Type 0} (bound : ℕ) (z : ℤ) (ws : List (List ℕ)) (go_on : ℤ → List (List ℕ) → Option X) → unsigned_abs z < bound → bound ≤ 2 ^ 64
    → with_signed bound (signed_decimal z ∷ ws) go_on ≡ go_on z ws
first_with_sign bound z ws go_on lt le = ap (option_and_then (λ p. go_on p.0 p.1)) (first_signed-decimal bound z ws lt le)

said_base : (base : ℤ) → unsigned_abs base < 2 ^ 63 → line_of (codes "base" ∷ signed_decimal base ∷ []) ≡ Some (line.Base base)
unfolding line_of reports.base_line
said_base base lt = first_with_sign (2 ^ 63) base [] (λ b. at_end (line.Base b)) lt (omega arith)

said_weight : (weight : ℤ) → unsigned_abs weight < 2 ^ 64 → line_of (codes "weight" ∷ signed_decimal weight ∷ []) ≡ Some (line.Weight weight)
unfolding line_of reports.weight_line
said_weight weight lt = first_with_sign (2 ^ 64) weight [] (λ w. at_end (line.Weight w)) lt (omega arith)

-- a weight in its range is one that a row may have
weight_below : (version : Version) (weight : ℤ) → IsWeightInRange version weight → unsigned_abs weight < 2 ^ 64
weight_below One weight fits = fits.1
weight_below Two weight fits = omega arith

weight_taken : (version : Version) (weight : ℤ) → IsWeightInRange version weight → may_weigh version weight ≡ true
weight_taken One (pos w) fits = refl
weight_taken One (negsuc w) fits = absurd (let high = fits.0 in omega (arith, ints))
weight_taken Two weight fits = lt-ltb (unsigned_abs weight) (2 ^ 63) fits

said_cut : (c : Cut) → IsCutInRange c → line_of (codes "cut" ∷ decimal c.value ∷ map decimal c.vertices) ≡ Some (line.Cut c)
unfolding line_of cut_line
said_cut c fits =
    let least = fits.least in
    let some = ne_eqb c.value 0 (λ e. omega arith) in
    with_first (2 ^ 64) c.value (map decimal c.vertices) _ fits.most (omega arith)
    ∙ ap (option_and_then (cut_of c.value)) (all_numbers-decimal c.vertices fits.vertices)
    ∙ rw some refl

trace_said : (worker shot node : ℕ) → worker < 2 ^ 32 → shot < 2 ^ 32 → node < 2 ^ 32 → trace_line (decimal worker ∷ decimal shot ∷ decimal node ∷ []) ≡ Some line.Trace
unfolding trace_line
trace_said worker shot node a b c =
    with_first (2 ^ 32) worker (decimal shot ∷ decimal node ∷ []) _ a (omega arith)
    ∙ with_first (2 ^ 32) shot (decimal node ∷ []) _ b (omega arith)
    ∙ with_first (2 ^ 32) node [] (λ node. at_end line.Trace) c (omega arith)

abbrev event_word : Bool → List ℕ
event_word gave = if gave then codes "gave" else codes "took"

said_trace : (gave : Bool) (worker shot node : ℕ) → worker < 2 ^ 32 → shot < 2 ^ 32 → node < 2 ^ 32
    → line_of (event_word gave ∷ decimal worker ∷ decimal shot ∷ decimal node ∷ []) ≡ Some line.Trace
unfolding line_of
said_trace true worker shot node a b c = trace_said worker shot node a b c
said_trace false worker shot node a b c = trace_said worker shot node a b c

said_done : (rows odd units fusions : ℕ) → rows < 2 ^ 64 → odd < 2 ^ 64 → units < 2 ^ 64 → fusions < 2 ^ 64
    → line_of (codes "done" ∷ decimal rows ∷ codes "odd" ∷ decimal odd ∷ codes "units" ∷ decimal units ∷ codes "fusions" ∷ decimal fusions ∷ [])
    ≡ Some (line.Done (record { rows = rows; odd = odd; units = units; fusions = fusions }))
unfolding line_of done_line
said_done rows odd units fusions a b c d =
    with_first (2 ^ 64) rows (codes "odd" ∷ decimal odd ∷ codes "units" ∷ decimal units ∷ codes "fusions" ∷ decimal fusions ∷ []) _ a (omega arith)
    ∙ with_first (2 ^ 64) odd (codes "units" ∷ decimal units ∷ codes "fusions" ∷ decimal fusions ∷ []) _ b (omega arith)
    ∙ with_first (2 ^ 64) units (codes "fusions" ∷ decimal fusions ∷ []) _ c (omega arith)
    ∙ with_first (2 ^ 64) fusions [] _ d (omega arith)

-- ---- one line

abbrev pub lines_in : List ℕ → List (List ℕ)
lines_in text = slice_split (λ b. eqb b 10) text

-- a printed line is taken
taken : (n : ℕ) (r next : Reading) (w : List ℕ) (ws : List (List ℕ)) (said : Line) (more : List ℕ) → IsWord w → AreWords ws → line_of (w ∷ ws) ≡ Some said
    → step n r.rows r.place said ≡ Ok next
    → read_from n r (lines_in (line w ws ++ more)) ≡ read_from (n + 1) next (lines_in more)
taken n r next w ws said more p q says stepped =
    let first = first_line w ws more p q in
    read_taken n r next (line w ws ++ more) first.prefix more first.split
    (ap (λ (words : List (List ℕ)). with_line n r (line_of words)) first.told ∙ ap (with_line n r) says ∙ stepped)

-- ---- between rows

abbrev pub is_cut : Line → Bool
is_cut (line.Cut c) = true
is_cut said = false

-- these rows are whole
abbrev pub IsBetween : Version → List Row → Reading → Type 0
IsBetween version rows r =
    (n : ℕ) (said : Line) → is_cut said ≡ false → step n r.rows r.place said ≡ at_row_end n version rows said

between_rows : (version : Version) (rows : List Row) → IsBetween version rows (reading rows (place.Between version))
between_rows version rows = λ n said e. refl

between_cuts : (version : Version) (rows : List Row) (edges : List ℕ) (base weight : ℤ) (cuts : List Cut)
    → IsBetween version (rows ++ row.Best edges base weight cuts ∷ []) (reading rows (place.Cuts version edges base weight cuts))
between_cuts version rows edges base weight cuts = λ n said e. other n said e where
  other : (n : ℕ) (said : Line) → is_cut said ≡ false
      → step n rows (place.Cuts version edges base weight cuts) said ≡ at_row_end n version (rows ++ row.Best edges base weight cuts ∷ []) said
  other n (line.Cut c) e = absurd cc
  other n said e = refl

-- a text leads to whole rows and what follows it
pub record Leads (version : Version) (rows : List Row) (n : ℕ) (r : Reading) (text more : List ℕ) : Type 0 where
  pub line_number : ℕ
  pub next : Reading
  pub between : IsBetween version rows next
  pub same : read_from n r (lines_in text) ≡ read_from line_number next (lines_in more)

-- ---- cuts, trace lines

cuts_read : (cuts done : List Cut) (n : ℕ) (version : Version) (rows : List Row) (edges : List ℕ) (base weight : ℤ) (more : List ℕ) → All IsCutInRange cuts
    → Leads version (rows ++ row.Best edges base weight (done ++ cuts) ∷ []) n (reading rows (place.Cuts version edges base weight done))
    (concat (map texts.cut_line cuts) ++ more) more
cuts_read [] done n version rows edges base weight more fits = record {
  line_number = n;
  next = reading rows (place.Cuts version edges base weight done);
  between =
      subst (λ (cs : List Cut). IsBetween version (rows ++ row.Best edges base weight cs ∷ []) (reading rows (place.Cuts version edges base weight done)))
      (sym (append-nil done)) (between_cuts version rows edges base weight done);
  same = refl;
}
cuts_read (c ∷ cuts) done n version rows edges base weight more fits =
    let here = All-head IsCutInRange c cuts fits in
    let later = cuts_read cuts (done ++ c ∷ []) (n + 1) version rows edges base weight more (All-tail IsCutInRange c cuts fits) in
    let regroup : (done ++ c ∷ []) ++ cuts ≡ done ++ (c ∷ cuts) = append_assoc done (c ∷ []) cuts in
    let before : Reading = reading rows (place.Cuts version edges base weight done) in
    record {
      line_number = later.line_number;
      next = later.next;
      between = subst (λ (cs : List Cut). IsBetween version (rows ++ row.Best edges base weight cs ∷ []) later.next) regroup later.between;
      same = ap (λ (l : List ℕ). read_from n before (lines_in l)) (append_assoc (texts.cut_line c) (concat (map texts.cut_line cuts)) more)
          ∙ taken n before (reading rows (place.Cuts version edges base weight (done ++ c ∷ []))) (codes "cut") (decimal c.value ∷ map decimal c.vertices) (line.Cut c)
          (concat (map texts.cut_line cuts) ++ more) (record { space = refl; newline = refl }) (word_decimal c.value here.most, words_decimal c.vertices here.vertices) (said_cut c here) refl
          ∙ later.same;
    }

event_words : (gave : Bool) → IsWord (event_word gave)
event_words true = record { space = refl; newline = refl }
event_words false = record { space = refl; newline = refl }

event-line : (e : Event) → event_text e ≡ line (event_word e.gave) (decimal e.worker ∷ decimal e.shot ∷ decimal e.node ∷ [])
unfolding texts.trace_line
event-line e = refl

event_read : (e : Event) (n : ℕ) (r : Reading) (version : Version) (rows : List Row) (more : List ℕ) → IsBetween version rows r → has_none rows ≡ false → IsEventInRange e
    → read_from n r (lines_in (event_text e ++ more)) ≡ read_from (n + 1) (reading rows (place.Between version)) (lines_in more)
event_read e n r version rows more between some fits =
    let worker = fits.worker in
    let shot = fits.shot in
    let node = fits.node in
    ap (λ (l : List ℕ). read_from n r (lines_in (l ++ more))) (event-line e)
    ∙ taken n r (reading rows (place.Between version)) (event_word e.gave) (decimal e.worker ∷ decimal e.shot ∷ decimal e.node ∷ []) line.Trace more (event_words e.gave)
    (word_decimal e.worker (omega arith), (word_decimal e.shot (omega arith), (word_decimal e.node (omega arith), tt)))
    (said_trace e.gave e.worker e.shot e.node worker shot node)
    (between n line.Trace refl ∙ rw some refl)

events_read : (events : List Event) (n : ℕ) (r : Reading) (version : Version) (rows : List Row) (more : List ℕ) → IsBetween version rows r → has_none rows ≡ false
    → All IsEventInRange events → Leads version rows n r (concat (map event_text events) ++ more) more
events_read [] n r version rows more between some fits = record { line_number = n; next = r; between = between; same = refl }
events_read (e ∷ events) n r version rows more between some fits =
    let later = events_read events (n + 1) (reading rows (place.Between version)) version rows more (between_rows version rows) some (All-tail IsEventInRange e events fits) in
    record {
      line_number = later.line_number;
      next = later.next;
      between = later.between;
      same = ap (λ (l : List ℕ). read_from n r (lines_in l)) (append_assoc (event_text e) (concat (map event_text events)) more)
          ∙ event_read e n r version rows (concat (map event_text events) ++ more) between some (All-head IsEventInRange e events fits)
          ∙ later.same;
    }

-- ---- rows

next_shot : (n : ℕ) (rows : List Row) (k : ℕ) (next : Reading) → k ≡ length rows → as_next n rows k next ≡ Ok next
next_shot n rows k next e = let same = eq-eqb k (length rows) e in rw same refl

row_word : IsWord (codes "shot")
row_word = record { space = refl; newline = refl }

pub odd-line : (version : Version) (k v : ℕ) → row_of version k (row.Odd v) ≡ line (codes "shot") (decimal k ∷ codes "odd" ∷ decimal v ∷ [])
unfolding row_of
odd-line version k v = refl

-- the lines of a correction before those of its cuts
best-lines : (version : Version) (k : ℕ) (edges : List ℕ) (base weight : ℤ) (cuts : List Cut) (more : List ℕ) → row_of version k (row.Best edges base weight cuts) ++ more
    ≡ line (codes "shot") (decimal k ∷ []) ++ (line (codes "edges") (map decimal edges)
    ++ (base_lines version base ++ (weight_line weight ++ (concat (map texts.cut_line cuts) ++ more))))
unfolding row_of
best-lines version k edges base weight cuts more =
    append_assoc (line (codes "shot") (decimal k ∷ [])) _ more
    ∙ ap (λ (l : List ℕ). line (codes "shot") (decimal k ∷ []) ++ l)
    (append_assoc (line (codes "edges") (map decimal edges)) _ more
    ∙ ap (λ (l : List ℕ). line (codes "edges") (map decimal edges) ++ l)
    (append_assoc (base_lines version base) _ more
    ∙ ap (λ (l : List ℕ). base_lines version base ++ l)
    (append_assoc (weight_line weight) (concat (map texts.cut_line cuts)) more)))

-- after the edges: the line of a base, if the version has one
record LeadsToBase (version : Version) (n : ℕ) (rows : List Row) (edges : List ℕ) (base : ℤ) (more : List ℕ) : Type 0 where
  line_number : ℕ
  same : read_from n (reading rows (after_edges version edges)) (lines_in (base_lines version base ++ more))
      ≡ read_from line_number (reading rows (place.Based version edges base)) (lines_in more)

base_read : (version : Version) (n : ℕ) (rows : List Row) (edges : List ℕ) (base : ℤ) (more : List ℕ) → IsBaseInRange version base
    → LeadsToBase version n rows edges base more
base_read One n rows edges base more fits = record {
  line_number = n;
  same = ap (λ (z : ℤ). read_from n (reading rows (place.Based One edges z)) (lines_in more)) (sym fits);
}
base_read Two n rows edges base more fits = record {
  line_number = n + 1;
  same = taken n (reading rows (place.Listed edges)) (reading rows (place.Based Two edges base)) (codes "base") (signed_decimal base ∷ []) (line.Base base) more
      (record { space = refl; newline = refl }) (word_signed base (omega arith), tt) (said_base base fits) refl;
}

row_read : (r : Row) (n : ℕ) (before : Reading) (version : Version) (rows : List Row) (more : List ℕ) → IsBetween version rows before → IsRowInRange version r
    → length rows < 2 ^ 32 → Leads version (rows ++ r ∷ []) n before (row_of version (length rows) r ++ more) more
row_read (row.Best edges base weight cuts) n before version rows more between fits lt =
    let k = length rows in
    let opened = reading rows (place.InRow version) in
    let listed = reading rows (after_edges version edges) in
    let based = reading rows (place.Based version edges base) in
    let weighed = reading rows (place.Cuts version edges base weight []) in
    let rest = concat (map texts.cut_line cuts) ++ more in
    let sums = base_lines version base ++ (weight_line weight ++ rest) in
    let first = base_read version (n + 1 + 1) rows edges base (weight_line weight ++ rest) fits.1 in
    let may = weight_taken version weight fits.2 in
    let later = cuts_read cuts [] (first.line_number + 1) version rows edges base weight more fits.3 in
    record {
      line_number = later.line_number;
      next = later.next;
      between = later.between;
      same = ap (λ (l : List ℕ). read_from n before (lines_in l)) (best-lines version k edges base weight cuts more)
          ∙ taken n before opened (codes "shot") (decimal k ∷ []) (line.Shot k) (line (codes "edges") (map decimal edges) ++ sums)
          row_word (word_decimal k (omega arith), tt) (said_shot k lt) (between n (line.Shot k) refl ∙ next_shot n rows k opened refl)
          ∙ taken (n + 1) opened listed (codes "edges") (map decimal edges) (line.Edges edges) sums
          (record { space = refl; newline = refl }) (words_decimal edges fits.0) (said_edges edges fits.0) refl
          ∙ first.same
          ∙ taken first.line_number based weighed (codes "weight") (signed_decimal weight ∷ []) (line.Weight weight) rest
          (record { space = refl; newline = refl }) (word_signed weight (weight_below version weight fits.2), tt)
          (said_weight weight (weight_below version weight fits.2)) (rw may refl)
          ∙ later.same;
    }
row_read (row.Odd v) n before version rows more between fits lt =
    let k = length rows in
    let next = reading (rows ++ row.Odd v ∷ []) (place.Between version) in
    record {
      line_number = n + 1;
      next = next;
      between = between_rows version (rows ++ row.Odd v ∷ []);
      same = ap (λ (l : List ℕ). read_from n before (lines_in (l ++ more))) (odd-line version k v)
          ∙ taken n before next (codes "shot") (decimal k ∷ codes "odd" ∷ decimal v ∷ []) (line.Odd k v) more
          row_word (word_decimal k (omega arith), (record { space = refl; newline = refl }, (word_decimal v (omega arith), tt))) (said_odd k v lt fits)
          (between n (line.Odd k v) refl ∙ next_shot n rows k next refl);
    }

-- ---- all rows, and the last line

has_some : (rows : List Row) (r : Row) → has_none (rows ++ r ∷ []) ≡ false
has_some [] r = refl
has_some (x ∷ rows) r = refl

traced_read : (traced : List TracedRow) (n : ℕ) (before : Reading) (version : Version) (rows : List Row) (more : List ℕ) → IsBetween version rows before → All (IsInRange version) traced → length rows + length traced ≤ 2 ^ 32
    → Leads version (rows ++ rows_of traced) n before (traced_text version (length rows) traced ++ more) more
traced_read [] n before version rows more between fits lt = record {
  line_number = n;
  next = before;
  between = subst (λ (rs : List Row). IsBetween version rs before) (sym (append-nil rows)) between;
  same = refl;
}
traced_read (t ∷ traced) n before version rows more between fits lt =
    let here = All-head (IsInRange version) t traced fits in
    let rows' = rows ++ t.row ∷ [] in
    let grown : length rows' ≡ length rows + 1 = length_push rows t.row in
    let rest = traced_text version (length rows + 1) traced ++ more in
    let events_text = concat (map event_text t.events) in
    let first = row_read t.row n before version rows (events_text ++ rest) between here.row (omega arith) in
    let told = events_read t.events first.line_number first.next version rows' rest first.between (has_some rows t.row) here.events in
    let later = traced_read traced told.line_number told.next version rows' more told.between (All-tail (IsInRange version) t traced fits) (omega arith) in
    record {
      line_number = later.line_number;
      next = later.next;
      between = subst (λ (rs : List Row). IsBetween version rs later.next) (append_assoc rows (t.row ∷ []) (rows_of traced)) later.between;
      same = ap (λ (l : List ℕ). read_from n before (lines_in l))
          (append_assoc (row_of version (length rows) t.row) (events_text ++ traced_text version (length rows + 1) traced) more
          ∙ ap (λ (l : List ℕ). row_of version (length rows) t.row ++ l) (append_assoc events_text (traced_text version (length rows + 1) traced) more))
          ∙ first.same ∙ told.same
          ∙ ap (λ (k : ℕ). read_from told.line_number told.next (lines_in (traced_text version k traced ++ more))) (sym grown)
          ∙ later.same;
    }

pub done-line : (rows odd units fusions : ℕ) → done_text rows odd units fusions
    ≡ line (codes "done") (decimal rows ∷ codes "odd" ∷ decimal odd ∷ codes "units" ∷ decimal units ∷ codes "fusions" ∷ decimal fusions ∷ [])
unfolding done_text
done-line rows odd units fusions = refl

done_words : (rows odd units fusions : ℕ) → rows < 2 ^ 64 → odd < 2 ^ 64 → units < 2 ^ 64 → fusions < 2 ^ 64
    → AreWords (decimal rows ∷ codes "odd" ∷ decimal odd ∷ codes "units" ∷ decimal units ∷ codes "fusions" ∷ decimal fusions ∷ [])
done_words rows odd units fusions a b c d = (
  word_decimal rows a,
  (
    record { space = refl; newline = refl },
    (
      word_decimal odd b,
      (
        record { space = refl; newline = refl },
        (
          word_decimal units c,
          (
            record { space = refl; newline = refl },
            (word_decimal fusions d, tt),
          ),
        ),
      ),
    ),
  ),
)

done_read : (n : ℕ) (before : Reading) (version : Version) (rows : List Row) (units fusions : ℕ) → IsBetween version rows before → length rows ≤ 2 ^ 32 → units < 2 ^ 64 → fusions < 2 ^ 64
    → read_from n before (lines_in (done_text (length rows) (count_by is_odd rows) units fusions))
    ≡ Ok (report_with rows units fusions)
done_read n before version rows units fusions between lt a b =
    let k = length rows in
    let odd = count_by is_odd rows in
    let totals : Totals = record { rows = k; odd = odd; units = units; fusions = fusions } in
    let some : odd ≤ k = count_by-le-length is_odd rows in
    let counted = and_from _ _ (eq-eqb k k refl) (eq-eqb odd odd refl) in
    ap (λ (l : List ℕ). read_from n before (lines_in l)) (done-line k odd units fusions ∙ sym (append-nil _))
    ∙ taken n before (reading rows (place.End totals)) (codes "done") (decimal k ∷ codes "odd" ∷ decimal odd ∷ codes "units" ∷ decimal units ∷ codes "fusions" ∷ decimal fusions ∷ [])
    (line.Done totals) [] (record { space = refl; newline = refl })
    (done_words k odd units fusions (omega arith) (omega arith) a b)
    (said_done k odd units fusions (omega arith) (omega arith) a b)
    (between n (line.Done totals) refl ∙ rw counted refl)

-- ---- the whole text

abbrev version_word : Version → List ℕ
version_word One = codes "1"
version_word Two = codes "2"

head-line : (version : Version) → head_of version ≡ line (codes "fusion-report") (version_word version ∷ [])
unfolding head_of head_text
head-line One = refl
head-line Two = refl

said_head : (version : Version) → line_of (codes "fusion-report" ∷ version_word version ∷ []) ≡ Some (line.Head version)
unfolding line_of head_line
said_head One = refl
said_head Two = refl

version_words : (version : Version) → AreWords (version_word version ∷ [])
version_words One = (record { space = refl; newline = refl }, tt)
version_words Two = (record { space = refl; newline = refl }, tt)

-- the first line and whole rows
pub rows_read : (version : Version) (traced : List TracedRow) (more : List ℕ) → All (IsInRange version) traced → length traced ≤ 2 ^ 32
    → Leads version (rows_of traced) 1 (reading [] place.Start) (head_of version ++ traced_text version 0 traced ++ more) more
rows_read version traced more fits few =
    let began = reading [] (place.Between version) in
    let rest = traced_text version 0 traced ++ more in
    let all = traced_read traced (1 + 1) began version [] more (between_rows version []) fits (omega arith) in
    record {
      line_number = all.line_number;
      next = all.next;
      between = all.between;
      same = ap (λ (l : List ℕ). read_from 1 (reading [] place.Start) (lines_in l))
          (append_assoc (head_of version) (traced_text version 0 traced) more ∙ ap (λ (l : List ℕ). l ++ rest) (head-line version))
          ∙ taken 1 (reading [] place.Start) began (codes "fusion-report") (version_word version ∷ []) (line.Head version) rest
          (record { space = refl; newline = refl }) (version_words version) (said_head version) refl
          ∙ all.same;
    }

pub read_back : ReadsBack
read_back version traced units fusions fits =
    let rows = rows_of traced in
    let same : length rows ≡ length traced = length-map traced (λ (t : TracedRow). t.row) in
    let few = fits.count in
    let all = rows_read version traced (done_text (length traced) (count_by is_odd rows) units fusions) fits.rows few in
    all.same
    ∙ ap (λ (k : ℕ). read_from all.line_number all.next (lines_in (done_text k (count_by is_odd rows) units fusions))) (sym same)
    ∙ done_read all.line_number all.next version rows units fusions all.between (omega arith) fits.units_fit fits.fusions_fit

-- ---- without events

abbrev pub untraced : Row → TracedRow
untraced r = record { row = r; events = [] }

rows_of-untraced : (rows : List Row) → rows_of (map untraced rows) ≡ rows
rows_of-untraced [] = refl
rows_of-untraced (r ∷ rows) = ap (λ (rs : List Row). r ∷ rs) (rows_of-untraced rows)

-- of version 2 a row and the first line are as they are written
pub row-text : (k : ℕ) (r : Row) → row_of Two k r ≡ row_text k r
unfolding row_of row_text
row-text k (row.Best edges base weight cuts) = refl
row-text k (row.Odd v) = refl

traced_text-untraced : (k : ℕ) (rows : List Row) → traced_text Two k (map untraced rows) ≡ rows_text k rows
traced_text-untraced k [] = refl
traced_text-untraced k (r ∷ rows) =
    ap (λ (l : List ℕ). row_of Two k r ++ l) (traced_text-untraced (k + 1) rows) ∙ ap (λ (l : List ℕ). l ++ rows_text (k + 1) rows) (row-text k r)

pub head-text : head_of Two ≡ head_text
unfolding head_of
head-text = refl

report_text-untraced : (rows : List Row) (units fusions : ℕ) → report_text Two (map untraced rows) units fusions ≡ plain_text rows units fusions
report_text-untraced rows units fusions =
    ap (λ (l : List ℕ). l ++ traced_text Two 0 (map untraced rows) ++ done_text (length (map untraced rows)) (count_by is_odd (rows_of (map untraced rows))) units fusions) head-text
    ∙ ap (λ (l : List ℕ). head_text ++ l ++ done_text (length (map untraced rows)) (count_by is_odd (rows_of (map untraced rows))) units fusions) (traced_text-untraced 0 rows)
    ∙ ap (λ (n : ℕ). head_text ++ rows_text 0 rows ++ done_text n (count_by is_odd (rows_of (map untraced rows))) units fusions) (length-map rows untraced)
    ∙ ap (λ (rs : List Row). head_text ++ rows_text 0 rows ++ done_text (length rows) (count_by is_odd rs) units fusions) (rows_of-untraced rows)

pub in_range : (version : Version) (r : Row) → IsRowInRange version r → IsInRange version (untraced r)
in_range version r fits = record { row = fits; events = All-nil IsEventInRange }

pub plain_read_back : PlainReadsBack
plain_read_back rows units fusions fits lt a b =
    let same = length-map rows untraced in
    ap report_in (sym (report_text-untraced rows units fusions))
    ∙ read_back Two (map untraced rows) units fusions
    (record {
      rows = All-map (IsInRange Two) untraced rows (All-weaker (IsRowInRange Two) (λ r. IsInRange Two (untraced r)) (in_range Two) rows fits);
      count = omega arith;
      units_fit = a;
      fusions_fit = b;
    })
    ∙ ap (λ (rs : List Row). Ok (report_with rs units fusions)) (rows_of-untraced rows)
