-- What a decode writes: the rows of the shots, batch by batch, between the head and the last line.
use Rattle.std.specs.Prelude.{ℕ, ◌≡◌, ◌≢◌, ◌+◌, ◌*◌, ◌==◌, if◌then◌else◌, Bool, true, false, List, [], ◌∷◌, ◌++◌, length, take, drop, All}
use Rattle.std.specs.List.{flat_map}
use Rattle.fb_book.specs.declared.entries.Entry.{Entry}
use Rattle.fb_book.specs.declared.entries.EntryKind.{EntryKind}
use Rattle.fb_book.specs.declared.entries.EntryKind.TheVariants.{Took, Gave, Left}
use Rattle.fb_crew.specs.Windows.{AreRows, IsHistoryOf}
use Rattle.fb_graph.specs.Limits.{DecodingGraph, IsGraph, IsShot, ShotValue}
use Rattle.fb_graph.specs.declared.parts.Row.{Row}
use Rattle.fb_plan.specs.Plans.{PlanTree}
use Rattle.fb_report.specs.Texts.{rows_text, trace_line, done_text}
use Rattle.fb_run.specs.Rows.{Counts, counts_of}
use Rattle.fb_request.specs.Requests.{Decoding}
use Rattle.fb_exits.specs.declared.ending.Cause.{Cause}
use Rattle.fb_exits.specs.declared.ending.Cause.TheVariants.{Done, Odd}

-- The rows of shots that were solved side by side, and the history of how they were made: an entry's slot is the place of
-- its shot among them.
pub record Batch : Type 0 where
  pub rows : List Row
  pub history : List Entry

abbrev pub is_gave : EntryKind → Bool
is_gave Took = false
is_gave Gave = true
is_gave Left = false

-- an event of a batch whose first shot has this number
abbrev pub event_line : ℕ → Entry → List ℕ
event_line first e = trace_line (is_gave e.kind) e.worker (first + e.slot) e.node

-- the events of a batch, if they are wanted
abbrev pub events_text : Bool → ℕ → List Entry → List ℕ
events_text false first history = []
events_text true first history = flat_map (event_line first) history

-- the rows of a batch, and then its events, if they are wanted
abbrev pub batch_text : Bool → ℕ → Batch → List ℕ
batch_text trace first b = rows_text first b.rows ++ events_text trace first b.history

-- batches one after another, the first of which begins with this shot
abbrev pub batches_text : Bool → ℕ → List Batch → List ℕ
batches_text trace first [] = []
batches_text trace first (b ∷ bs) = batch_text trace first b ++ batches_text trace (first + length b.rows) bs

abbrev pub all_rows : List Batch → List Row
all_rows bs = flat_map (λ b. b.rows) bs

-- The rows of these shots, which are shots of the graph. If the history is wanted, it says how the rows were made.
pub record AnswersBatch (request : Decoding) (g : DecodingGraph) (t : PlanTree) (shots : List ShotValue) (b : Batch) : Type 0 where
  pub is_graph : IsGraph g
  pub of_graph : All (IsShot g) shots
  pub rows : AreRows g shots b.rows
  pub history : request.trace ≡ true → IsHistoryOf t request.workers b.rows b.history

-- the rows of shots, in batches of the window's size, the last of which may be smaller
abbrev pub AreBatches : Decoding → DecodingGraph → PlanTree → List ShotValue → List Batch → Type 0
AreBatches request g t shots [] = shots ≡ []
AreBatches request g t shots (b ∷ bs) = (shots ≢ []) × AnswersBatch request g t (take request.window shots) b
    × AreBatches request g t (drop request.window shots) bs

-- the shots fill whole windows, and there is a batch for each
abbrev pub HaveWholeWindows : Decoding → List ShotValue → List Batch → Type 0
HaveWholeWindows request shots batches = length shots ≡ request.window * length batches

-- the last line after `rows` rows: each correction counts the plan's units and its fusions
abbrev pub last_line : PlanTree → ℕ → Counts → List ℕ
last_line t rows counts = done_text rows counts.odd (counts.best * t.units) (counts.best * length t.joins)

-- the last line after these batches
abbrev pub last_line_of : PlanTree → List Batch → List ℕ
last_line_of t bs = last_line t (length (all_rows bs)) (counts_of (all_rows bs))

-- how a decode of all shots ends
abbrev pub cause_of : Counts → Cause
cause_of counts = if counts.odd == 0 then Done else Odd
