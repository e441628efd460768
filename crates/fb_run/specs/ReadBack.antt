-- What the report of a decode gives to its reader.
use Rattle.std.specs.Prelude.{ℕ, ◌≡◌, ◌+◌, ◌*◌, Bool, true, false, List, [], ◌∷◌, ◌++◌, length, map, Ok}
use Rattle.fb_book.specs.declared.entries.Entry.{Entry}
use Rattle.fb_exits.specs.TextEnds.{whole_text}
use Rattle.fb_graph.specs.Limits.{DecodingGraph, ShotValue}
use Rattle.fb_graph.specs.declared.parts.Row.{Row}
use Rattle.fb_plan.specs.Plans.{PlanTree}
use Rattle.fb_run.specs.Decoding.{AreBatches, Batch, all_rows, is_gave}
use Rattle.fb_run.specs.Endings.{decode_account}
use Rattle.fb_run.specs.Rows.{counts_of}
use Rattle.fb_verify.specs.ReadBack.{Event, IsReportInRange, TracedRow, report_with}
use Rattle.fb_verify.specs.Reports.{report_in}
use Rattle.fb_verify.specs.declared.reports.Version.TheVariants.{Two}
use Rattle.fb_request.specs.Requests.{Decoding}

-- the event of an entry of a batch whose first shot has this number
abbrev pub event_of : ℕ → Entry → Event
event_of first e = record { gave = is_gave e.kind; worker = e.worker; shot = first + e.slot; node = e.node }

-- the events of a batch, if they are wanted
abbrev pub events_of : Bool → ℕ → List Entry → List Event
events_of false first history = []
events_of true first history = map (event_of first) history

-- rows without events but for the last, which has these
abbrev pub rows_with_last : List Row → List Event → List TracedRow
rows_with_last [] events = []
rows_with_last (r ∷ []) events = record { row = r; events = events } ∷ []
rows_with_last (r ∷ s ∷ rs) events = record { row = r; events = [] } ∷ rows_with_last (s ∷ rs) events

-- the rows of batches, the first of which begins with this shot, and the events that are printed after them
abbrev pub traced_rows : Bool → ℕ → List Batch → List TracedRow
traced_rows trace first [] = []
traced_rows trace first (b ∷ bs) =
    rows_with_last b.rows (events_of trace first b.history) ++ traced_rows trace (first + length b.rows) bs

-- how many units and fusions of the plan were solved for the corrections of these batches
abbrev pub units_of : PlanTree → List Batch → ℕ
units_of t bs = (counts_of (all_rows bs)).best * t.units

abbrev pub fusions_of : PlanTree → List Batch → ℕ
fusions_of t bs = (counts_of (all_rows bs)).best * length t.joins

-- The whole text that a decode writes, if each of its numbers is one that its line can have, is read as its rows and the
-- numbers of its last line.
abbrev pub ReadsBackReport : Type 0
ReadsBackReport =
    (request : Decoding) (g : DecodingGraph) (t : PlanTree) (shots : List ShotValue) (bs : List Batch)
    → AreBatches request g t shots bs
    → IsReportInRange Two (traced_rows request.trace 0 bs) (units_of t bs) (fusions_of t bs)
    → report_in (whole_text (decode_account request g t) shots bs) ≡ Ok (report_with (all_rows bs) (units_of t bs) (fusions_of t bs))
