-- What a printed report gives to its reader.
use Rattle.std.specs.Prelude.{ℕ, ℤ, pos, unsigned_abs, ◌≡◌, ◌≤ℤ◌, ◌+◌, ◌<◌, ◌≤◌, ◌^◌, Bool, All, List, [], ◌∷◌, ◌++◌, length, map, count_by, codes, decimal, Ok}
use Rattle.std.specs.List.{concat}
use Rattle.fb_graph.specs.declared.parts.Cut.{Cut}
use Rattle.fb_graph.specs.declared.parts.Row.{Row}
use Rattle.fb_graph.specs.declared.parts.Row.TheVariants.{Best, Odd}
use Rattle.fb_report.specs.Texts.{line, head_text, base_line, weight_line, cut_line, rows_text, trace_line, done_text}
use Rattle.fb_verify.specs.declared.reports.Report.{Report}
use Rattle.fb_verify.specs.declared.reports.Version.{Version}
use Rattle.fb_verify.specs.declared.reports.Version.TheVariants.{One, Two}
use Rattle.fb_verify.specs.Reports.{is_odd, report_in}

-- an event of a run, as its line has it: a worker took a node of the plan for a shot, or gave what it had made of it
pub record Event : Type 0 where
  pub gave : Bool
  pub worker : ℕ
  pub shot : ℕ
  pub node : ℕ

-- a row, and the events that are printed after it
pub record TracedRow : Type 0 where
  pub row : Row
  pub events : List Event

-- ---- the text

abbrev pub event_text : Event → List ℕ
event_text e = trace_line e.gave e.worker e.shot e.node

-- the first line of a report of this version: of version 2 it is the writer's
unfoldable pub head_of : Version → List ℕ
head_of One = line (codes "fusion-report") (codes "1" ∷ [])
head_of Two = head_text

-- the line of a base, if the version has one
abbrev pub base_lines : Version → ℤ → List ℕ
base_lines One base = []
base_lines Two base = base_line base

-- a row of a report of this version: of version 2 it is as the writer prints it
unfoldable pub row_of : Version → ℕ → Row → List ℕ
row_of version k (Best edges base weight cuts) =
    line (codes "shot") (decimal k ∷ [])
    ++ (line (codes "edges") (map decimal edges)
    ++ (base_lines version base
    ++ (weight_line weight
    ++ concat (map cut_line cuts))))
row_of version k (Odd v) = line (codes "shot") (decimal k ∷ codes "odd" ∷ decimal v ∷ [])

-- the rows from row k on, each with its events
abbrev pub traced_text : Version → ℕ → List TracedRow → List ℕ
traced_text version k [] = []
traced_text version k (r ∷ rs) =
    row_of version k r.row ++ (concat (map event_text r.events) ++ traced_text version (k + 1) rs)

abbrev pub rows_of : List TracedRow → List Row
rows_of traced = map (λ r. r.row) traced

abbrev pub report_text : Version → List TracedRow → ℕ → ℕ → List ℕ
report_text version traced units fusions =
    head_of version ++ traced_text version 0 traced
    ++ done_text (length traced) (count_by is_odd (rows_of traced)) units fusions

-- a report without events, as it is written
abbrev pub plain_text : List Row → ℕ → ℕ → List ℕ
plain_text rows units fusions = head_text ++ rows_text 0 rows ++ done_text (length rows) (count_by is_odd rows) units fusions

-- ---- the ranges of its numbers

pub record IsCutInRange (c : Cut) : Type 0 where
  pub least : 1 ≤ c.value
  pub most : c.value < 2 ^ 64
  pub vertices : All (λ v. v < 2 ^ 32) c.vertices

-- a row's base: in version 1 there is no line for it
abbrev pub IsBaseInRange : Version → ℤ → Type 0
IsBaseInRange One base = base ≡ pos 0
IsBaseInRange Two base = unsigned_abs base < 2 ^ 63

-- a row's weight: in version 1 it has no sign
abbrev pub IsWeightInRange : Version → ℤ → Type 0
IsWeightInRange One weight = (pos 0 ≤ℤ weight) × (unsigned_abs weight < 2 ^ 64)
IsWeightInRange Two weight = unsigned_abs weight < 2 ^ 63

abbrev pub IsRowInRange : Version → Row → Type 0
IsRowInRange version (Best edges base weight cuts) =
    All (λ k. k < 2 ^ 32) edges × IsBaseInRange version base × IsWeightInRange version weight × All IsCutInRange cuts
IsRowInRange version (Odd v) = v < 2 ^ 32

pub record IsEventInRange (e : Event) : Type 0 where
  pub worker : e.worker < 2 ^ 32
  pub shot : e.shot < 2 ^ 32
  pub node : e.node < 2 ^ 32

pub record IsInRange (version : Version) (r : TracedRow) : Type 0 where
  pub row : IsRowInRange version r.row
  pub events : All IsEventInRange r.events

-- each number of a report is one that its line can have
pub record IsReportInRange (version : Version) (traced : List TracedRow) (units fusions : ℕ) : Type 0 where
  pub rows : All (IsInRange version) traced
  pub count : length traced ≤ 2 ^ 32
  pub units_fit : units < 2 ^ 64
  pub fusions_fit : fusions < 2 ^ 64

-- ---- the law

-- what a reader of a report has
abbrev pub report_with : List Row → ℕ → ℕ → Report
report_with rows units fusions =
    record { rows = rows; totals = record { rows = length rows; odd = count_by is_odd rows; units = units; fusions = fusions } }

-- A report that is printed, in either version, is read as what was printed, however long it is.
abbrev pub ReadsBack : Type 0
ReadsBack =
    (version : Version) (traced : List TracedRow) (units fusions : ℕ) → IsReportInRange version traced units fusions
    → report_in (report_text version traced units fusions) ≡ Ok (report_with (rows_of traced) units fusions)

-- the same of a report without events, as it is written
abbrev pub PlainReadsBack : Type 0
PlainReadsBack =
    (rows : List Row) (units fusions : ℕ) → All (IsRowInRange Two) rows → length rows ≤ 2 ^ 32 → units < 2 ^ 64 → fusions < 2 ^ 64
    → report_in (plain_text rows units fusions) ≡ Ok (report_with rows units fusions)
