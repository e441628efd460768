-- The text of lines that a reading has taken, and the reports that begin so.
use Rattle.std.proofs.Common.{◌≡◌, ℕ, ℤ, pos, negsuc, ◌+◌, ◌<◌, ◌≤◌, ◌^◌, true, false, List, [], ◌∷◌, ◌++◌, length, All, map, codes, decimal, refl, sym, ap, subst, ◌∙◌, arith, append_assoc, append-nil}
use Rattle.std.specs.Prelude.{count_by, unsigned_abs}
use Rattle.std.specs.List.{concat}
use Rattle.std.proofs.lemmas.Bool.{false≢true, ltb-true}
use Rattle.std.proofs.lemmas.Int.{ints}
use Rattle.std.proofs.lemmas.List.{length_push, length-map, map_push}
use Rattle.std.proofs.lemmas.List.Elements.{All-nil, All-cons, All-head, All-tail, All-push}
use Rattle.std.proofs.lemmas.List.Folds.{concat-append}
use Rattle.fb_graph.specs.declared.parts.Cut.{Cut}
use Rattle.fb_graph.specs.declared.parts.Row.{Row}
use Rattle.fb_graph.specs.declared.parts.Row.TheVariants as row
use Rattle.fb_report.specs.Texts as texts
use Rattle.fb_report.specs.Texts.{line, base_line, weight_line, done_text}
use Rattle.fb_verify.specs.declared.reports.Totals.{Totals}
use Rattle.fb_verify.specs.declared.reports.Version.{Version}
use Rattle.fb_verify.specs.declared.reports.Version.TheVariants.{One, Two}
use Rattle.fb_verify.specs.Places.{Place}
use Rattle.fb_verify.specs.Places as place
use Rattle.fb_verify.specs.Reports.{is_odd, has_none, after_edges, may_weigh}
use Rattle.fb_verify.specs.ReadBack.{Event, TracedRow, event_text, head_of, base_lines, row_of, traced_text, rows_of, report_text, IsBaseInRange, IsWeightInRange, IsCutInRange, IsRowInRange, IsEventInRange, IsInRange, IsReportInRange}
use Rattle.fb_verify.specs.Readings.{IsReport, BeginsReport}
use Rattle.fb_verify.proofs.ReadRows.{untraced, in_range}

-- ---- whole rows, and one of which some lines are there

-- the first line, and whole rows, each with its events
pub record AreRows (version : Version) (prefix : List ℕ) (rows : List Row) : Type 0 where
  pub traced : List TracedRow
  pub text : prefix ≡ head_of version ++ traced_text version 0 traced
  pub same : rows_of traced ≡ rows
  pub fits : All (IsInRange version) traced
  pub few : length traced ≤ 2 ^ 32

-- whole rows, and these lines of a further one
pub record AreRowsAnd (version : Version) (begun prefix : List ℕ) (rows : List Row) : Type 0 where
  pub before : List ℕ
  pub whole : AreRows version before rows
  pub text : prefix ≡ before ++ begun
  pub few : length rows < 2 ^ 32

pub count_same : (version : Version) (prefix : List ℕ) (rows : List Row) (are : AreRows version prefix rows) → length rows ≡ length are.traced
count_same version prefix rows are = ap length (sym are.same) ∙ length-map are.traced (λ (t : TracedRow). t.row)

traced_text-append : (version : Version) (k : ℕ) (ts us : List TracedRow) → traced_text version k (ts ++ us) ≡ traced_text version k ts ++ traced_text version (k + length ts) us
traced_text-append version k [] us = let e : k ≡ k + length (let none : List TracedRow = [] in none) = omega arith in ap (λ n. traced_text version n us) e
traced_text-append version k (t ∷ ts) us =
    let e : (k + 1) + length ts ≡ k + length (t ∷ ts) = omega arith in
    let events = concat (map event_text t.events) in
    ap (λ (l : List ℕ). row_of version k t.row ++ (events ++ l)) (traced_text-append version (k + 1) ts us ∙ ap (λ n. traced_text version (k + 1) ts ++ traced_text version n us) e)
    ∙ sym (ap (λ (l : List ℕ). row_of version k t.row ++ l) (append_assoc events (traced_text version (k + 1) ts) (traced_text version (k + length (t ∷ ts)) us)))
    ∙ sym (append_assoc (row_of version k t.row) (events ++ traced_text version (k + 1) ts) (traced_text version (k + length (t ∷ ts)) us))

traced_text-push : (version : Version) (ts : List TracedRow) (r : Row) → traced_text version 0 (ts ++ untraced r ∷ []) ≡ traced_text version 0 ts ++ row_of version (length ts) r
traced_text-push version ts r =
    let e : 0 + length ts ≡ length ts = omega arith in
    traced_text-append version 0 ts (untraced r ∷ [])
    ∙ ap (λ n. traced_text version 0 ts ++ traced_text version n (untraced r ∷ [])) e
    ∙ ap (λ (l : List ℕ). traced_text version 0 ts ++ l) (append-nil (row_of version (length ts) r))

-- the row is whole
pub pushed : (version : Version) (prefix : List ℕ) (rows : List Row) (r : Row) → IsRowInRange version r → AreRowsAnd version (row_of version (length rows) r) prefix rows → AreRows version prefix (rows ++ r ∷ [])
pushed version prefix rows r fits are =
    let whole = are.whole in
    let few = are.few in
    let count = count_same version are.before rows whole in
    record {
      traced = whole.traced ++ untraced r ∷ [];
      text = are.text ∙ ap (λ (l : List ℕ). l ++ row_of version (length rows) r) whole.text
          ∙ append_assoc (head_of version) (traced_text version 0 whole.traced) (row_of version (length rows) r)
          ∙ ap (λ (n : ℕ). head_of version ++ (traced_text version 0 whole.traced ++ row_of version n r)) count
          ∙ ap (λ (l : List ℕ). head_of version ++ l) (sym (traced_text-push version whole.traced r));
      same = map_push (λ (t : TracedRow). t.row) whole.traced (untraced r) ∙ ap (λ (rs : List Row). rs ++ r ∷ []) whole.same;
      fits = All-push (IsInRange version) whole.traced (untraced r) whole.fits (in_range version r fits);
      few = omega (arith, length_push whole.traced (untraced r));
    }

-- rows after the last of which one more event is told
record Added (version : Version) (k : ℕ) (traced : List TracedRow) (e : Event) : Type 0 where
  more : List TracedRow
  text : traced_text version k more ≡ traced_text version k traced ++ event_text e
  same : rows_of more ≡ rows_of traced
  fits : All (IsInRange version) more

events_push : (events : List Event) (e : Event) → concat (map event_text (events ++ e ∷ [])) ≡ concat (map event_text events) ++ event_text e
events_push events e =
    ap concat (map_push event_text events e) ∙ concat-append (map event_text events) (event_text e ∷ [])
    ∙ ap (λ (l : List ℕ). concat (map event_text events) ++ l) (append-nil (event_text e))

added : (version : Version) (ts : List TracedRow) (t : TracedRow) (k : ℕ) (e : Event) → All (IsInRange version) (t ∷ ts) → IsEventInRange e → Added version k (t ∷ ts) e
added version [] t k e fits fit =
    let here = All-head (IsInRange version) t [] fits in
    let events = concat (map event_text t.events) in
    record {
      more = record { row = t.row; events = t.events ++ e ∷ [] } ∷ [];
      text = ap (λ (l : List ℕ). row_of version k t.row ++ l) (append-nil _ ∙ events_push t.events e ∙ ap (λ (l : List ℕ). l ++ event_text e) (sym (append-nil events)))
          ∙ sym (append_assoc (row_of version k t.row) (events ++ []) (event_text e));
      same = refl;
      fits = All-cons (IsInRange version) _ [] (record { row = here.row; events = All-push IsEventInRange t.events e here.events fit }) (All-nil (IsInRange version));
    }
added version (u ∷ ts) t k e fits fit =
    let later = added version ts u (k + 1) e (All-tail (IsInRange version) t (u ∷ ts) fits) fit in
    let events = concat (map event_text t.events) in
    let rest = traced_text version (k + 1) (u ∷ ts) in
    record {
      more = t ∷ later.more;
      text = ap (λ (l : List ℕ). row_of version k t.row ++ (events ++ l)) later.text
          ∙ sym (ap (λ (l : List ℕ). row_of version k t.row ++ l) (append_assoc events rest (event_text e)))
          ∙ sym (append_assoc (row_of version k t.row) (events ++ rest) (event_text e));
      same = ap (λ (rs : List Row). t.row ∷ rs) later.same;
      fits = All-cons (IsInRange version) t later.more (All-head (IsInRange version) t (u ∷ ts) fits) later.fits;
    }

pub told_event : (version : Version) (prefix : List ℕ) (rows : List Row) (e : Event) → has_none rows ≡ false → IsEventInRange e → AreRows version prefix rows → AreRows version (prefix ++ event_text e) rows
told_event version prefix rows e some fit are = by_rows are.traced are.text are.same are.fits are.few where
  by_rows : (traced : List TracedRow) → prefix ≡ head_of version ++ traced_text version 0 traced → rows_of traced ≡ rows → All (IsInRange version) traced → length traced ≤ 2 ^ 32 → AreRows version (prefix ++ event_text e) rows
  by_rows [] text same fits few = absurd (let none = ap has_none same in cc)
  by_rows (t ∷ ts) text same fits few =
      let more = added version ts t 0 e fits fit in
      let all = more.same ∙ same in
      record {
        traced = more.more;
        text = ap (λ (l : List ℕ). l ++ event_text e) text ∙ append_assoc (head_of version) (traced_text version 0 (t ∷ ts)) (event_text e)
            ∙ ap (λ (l : List ℕ). head_of version ++ l) (sym more.text);
        same = all;
        fits = more.fits;
        few = omega (arith, length-map more.more (λ (t : TracedRow). t.row), length-map (t ∷ ts) (λ (t : TracedRow). t.row), ap length more.same);
      }

-- ---- where the next line stands

abbrev pub shot_text : ℕ → List ℕ
shot_text k = line (codes "shot") (decimal k ∷ [])

abbrev pub edges_text : List ℕ → List ℕ
edges_text edges = line (codes "edges") (map decimal edges)

pub record IsEnded (prefix : List ℕ) (rows : List Row) (totals : Totals) : Type 0 where
  pub version : Version
  pub traced : List TracedRow
  pub text : prefix ≡ report_text version traced totals.units totals.fusions
  pub same : rows_of traced ≡ rows
  pub fits : IsReportInRange version traced totals.units totals.fusions
  pub counts : (totals.rows ≡ length rows) × (totals.odd ≡ count_by is_odd rows)

-- the lines of a row up to its base
abbrev pub based_text : Version → ℕ → List ℕ → ℤ → List ℕ
based_text version k edges base = shot_text k ++ (edges_text edges ++ base_lines version base)

-- the text so far, by the rows that were read and the place of the next line
abbrev pub IsPlace : List ℕ → List Row → Place → Type 0
IsPlace prefix rows place.Start = (prefix ≡ []) × (rows ≡ [])
IsPlace prefix rows (place.InRow version) = AreRowsAnd version (shot_text (length rows)) prefix rows
IsPlace prefix rows (place.Listed edges) =
    AreRowsAnd Two (shot_text (length rows) ++ edges_text edges) prefix rows × All (λ k. k < 2 ^ 32) edges
IsPlace prefix rows (place.Based version edges base) =
    AreRowsAnd version (based_text version (length rows) edges base) prefix rows × All (λ k. k < 2 ^ 32) edges
    × IsBaseInRange version base
IsPlace prefix rows (place.Cuts version edges base weight cuts) =
    AreRowsAnd version (row_of version (length rows) (row.Best edges base weight cuts)) prefix rows
    × IsRowInRange version (row.Best edges base weight cuts)
IsPlace prefix rows (place.Between version) = AreRows version prefix rows
IsPlace prefix rows (place.End totals) = IsEnded prefix rows totals

-- one more line of a row
pub longer : (version : Version) (begun prefix here all : List ℕ) (rows : List Row) → AreRowsAnd version begun prefix rows → begun ++ here ≡ all
    → AreRowsAnd version all (prefix ++ here) rows
longer version begun prefix here all rows are e = record {
  before = are.before;
  whole = are.whole;
  text = ap (λ (l : List ℕ). l ++ here) are.text ∙ append_assoc are.before begun here ∙ ap (λ (l : List ℕ). are.before ++ l) e;
  few = are.few;
}

best-weighed : (version : Version) (k : ℕ) (edges : List ℕ) (base weight : ℤ)
    → based_text version k edges base ++ weight_line weight ≡ row_of version k (row.Best edges base weight [])
unfolding row_of
best-weighed version k edges base weight =
    append_assoc (shot_text k) (edges_text edges ++ base_lines version base) (weight_line weight)
    ∙ ap (λ (l : List ℕ). shot_text k ++ l)
    (append_assoc (edges_text edges) (base_lines version base) (weight_line weight)
    ∙ ap (λ (l : List ℕ). edges_text edges ++ (base_lines version base ++ l)) (sym (append-nil (weight_line weight))))

cuts_push : (cuts : List Cut) (c : Cut) → concat (map texts.cut_line cuts) ++ texts.cut_line c ≡ concat (map texts.cut_line (cuts ++ c ∷ []))
cuts_push cuts c =
    ap (λ (l : List ℕ). concat (map texts.cut_line cuts) ++ l) (sym (append-nil (texts.cut_line c)))
    ∙ sym (concat-append (map texts.cut_line cuts) (texts.cut_line c ∷ []))
    ∙ ap concat (sym (map_push texts.cut_line cuts c))

pub best-cut : (version : Version) (k : ℕ) (edges : List ℕ) (base weight : ℤ) (cuts : List Cut) (c : Cut)
    → row_of version k (row.Best edges base weight cuts) ++ texts.cut_line c ≡ row_of version k (row.Best edges base weight (cuts ++ c ∷ []))
unfolding row_of
best-cut version k edges base weight cuts c =
    let all = concat (map texts.cut_line cuts) in
    append_assoc (shot_text k) (edges_text edges ++ (base_lines version base ++ (weight_line weight ++ all))) (texts.cut_line c)
    ∙ ap (λ (l : List ℕ). shot_text k ++ l)
    (append_assoc (edges_text edges) (base_lines version base ++ (weight_line weight ++ all)) (texts.cut_line c)
    ∙ ap (λ (l : List ℕ). edges_text edges ++ l)
    (append_assoc (base_lines version base) (weight_line weight ++ all) (texts.cut_line c)
    ∙ ap (λ (l : List ℕ). base_lines version base ++ l)
    (append_assoc (weight_line weight) all (texts.cut_line c)
    ∙ ap (λ (l : List ℕ). weight_line weight ++ l) (cuts_push cuts c))))

pub edges_listed : (version : Version) (prefix : List ℕ) (rows : List Row) (edges : List ℕ) → All (λ k. k < 2 ^ 32) edges
    → IsPlace prefix rows (place.InRow version) → IsPlace (prefix ++ edges_text edges) rows (after_edges version edges)
edges_listed One prefix rows edges fits are = (
  longer One (shot_text (length rows)) prefix (edges_text edges) _ rows are
      (ap (λ (l : List ℕ). shot_text (length rows) ++ l) (sym (append-nil (edges_text edges)))),
  fits,
  refl,
)
edges_listed Two prefix rows edges fits are = (longer Two (shot_text (length rows)) prefix (edges_text edges) _ rows are refl, fits)

pub based : (prefix : List ℕ) (rows : List Row) (edges : List ℕ) (base : ℤ) → unsigned_abs base < 2 ^ 63 → IsPlace prefix rows (place.Listed edges)
    → IsPlace (prefix ++ base_line base) rows (place.Based Two edges base)
based prefix rows edges base lt are = (
  longer Two _ prefix (base_line base) _ rows are.0 (append_assoc (shot_text (length rows)) (edges_text edges) (base_line base)),
  are.1,
  lt,
)

-- the weight of a line that a row of this version may have
pub weight_in_range : (version : Version) (weight : ℤ) → may_weigh version weight ≡ true → unsigned_abs weight < 2 ^ 64 → IsWeightInRange version weight
weight_in_range One (pos w) may lt = (omega (arith, ints), lt)
weight_in_range One (negsuc w) may lt = absurd (false≢true may)
weight_in_range Two weight may lt = ltb-true (unsigned_abs weight) (2 ^ 63) may

pub weighed : (version : Version) (prefix : List ℕ) (rows : List Row) (edges : List ℕ) (base weight : ℤ) → IsWeightInRange version weight
    → IsPlace prefix rows (place.Based version edges base)
    → IsPlace (prefix ++ weight_line weight) rows (place.Cuts version edges base weight [])
weighed version prefix rows edges base weight fits are = (
  longer version _ prefix (weight_line weight) _ rows are.0 (best-weighed version (length rows) edges base weight),
  (are.1, are.2, fits, All-nil IsCutInRange),
)

-- ---- a report begins so

more_begins : (prefix more : List ℕ) → BeginsReport (prefix ++ more) → BeginsReport prefix
more_begins prefix more begun = record {
  more = more ++ begun.more;
  whole = subst IsReport (append_assoc prefix more begun.more) begun.whole;
}

pub rows_begin : (version : Version) (prefix : List ℕ) (rows : List Row) → AreRows version prefix rows → BeginsReport prefix
rows_begin version prefix rows are =
    let last = done_text (length are.traced) (count_by is_odd (rows_of are.traced)) 0 0 in
    record {
      more = last;
      whole = record {
        version = version;
        traced = are.traced;
        units = 0;
        fusions = 0;
        in_range = record { rows = are.fits; count = are.few; units_fit = omega arith; fusions_fit = omega arith };
        printed = ap (λ (l : List ℕ). l ++ last) are.text;
      };
    }

cuts_begin : (version : Version) (prefix : List ℕ) (rows : List Row) (edges : List ℕ) (base weight : ℤ) (cuts : List Cut)
    → IsPlace prefix rows (place.Cuts version edges base weight cuts) → BeginsReport prefix
cuts_begin version prefix rows edges base weight cuts are =
    rows_begin version prefix (rows ++ row.Best edges base weight cuts ∷ []) (pushed version prefix rows (row.Best edges base weight cuts) are.1 are.0)

weightless : (version : Version) → IsWeightInRange version (pos 0)
weightless One = (omega (arith, ints), omega arith)
weightless Two = omega arith

base_begins : (version : Version) (prefix : List ℕ) (rows : List Row) (edges : List ℕ) (base : ℤ) → IsPlace prefix rows (place.Based version edges base)
    → BeginsReport prefix
base_begins version prefix rows edges base are =
    more_begins prefix (weight_line (pos 0)) (cuts_begin version (prefix ++ weight_line (pos 0)) rows edges base (pos 0) []
    (weighed version prefix rows edges base (pos 0) (weightless version) are))

edges_begin : (prefix : List ℕ) (rows : List Row) (edges : List ℕ) → IsPlace prefix rows (place.Listed edges) → BeginsReport prefix
edges_begin prefix rows edges are =
    more_begins prefix (base_line (pos 0)) (base_begins Two (prefix ++ base_line (pos 0)) rows edges (pos 0) (based prefix rows edges (pos 0) (omega arith) are))

row_begins : (version : Version) (prefix : List ℕ) (rows : List Row) → IsPlace prefix rows (place.InRow version) → BeginsReport prefix
row_begins One prefix rows are =
    more_begins prefix (edges_text []) (base_begins One (prefix ++ edges_text []) rows [] (pos 0)
    (edges_listed One prefix rows [] (All-nil (λ (k : ℕ). k < 2 ^ 32)) are))
row_begins Two prefix rows are =
    more_begins prefix (edges_text []) (edges_begin (prefix ++ edges_text []) rows []
    (edges_listed Two prefix rows [] (All-nil (λ (k : ℕ). k < 2 ^ 32)) are))

pub begins : (prefix : List ℕ) (rows : List Row) (here : Place) → IsPlace prefix rows here → BeginsReport prefix
begins prefix rows place.Start are =
    let head : AreRows Two (head_of Two) [] = record {
      traced = [];
      text = sym (append-nil (head_of Two));
      same = refl;
      fits = All-nil (IsInRange Two);
      few = omega arith;
    } in
    subst BeginsReport (sym are.0) (more_begins [] (head_of Two) (rows_begin Two (head_of Two) [] head))
begins prefix rows (place.InRow version) are = row_begins version prefix rows are
begins prefix rows (place.Listed edges) are = edges_begin prefix rows edges are
begins prefix rows (place.Based version edges base) are = base_begins version prefix rows edges base are
begins prefix rows (place.Cuts version edges base weight cuts) are = cuts_begin version prefix rows edges base weight cuts are
begins prefix rows (place.Between version) are = rows_begin version prefix rows are
begins prefix rows (place.End totals) are = record {
  more = [];
  whole = record {
    version = are.version;
    traced = are.traced;
    units = totals.units;
    fusions = totals.fusions;
    in_range = are.fits;
    printed = append-nil prefix ∙ are.text;
  };
}
