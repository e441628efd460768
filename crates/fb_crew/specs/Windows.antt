-- The rows of a window's shots, and the history of how they were made.
use Rattle.std.specs.Prelude.{ℕ, ◌≡◌, ◌+◌, ◌*◌, ◌/◌, ◌<◌, ◌≤◌, min, max, nat_le, Bool, true, false, if◌then◌else◌, List, [], ◌∷◌, length, sum_by}
use Rattle.std.specs.List.{All, AllZip}
use Rattle.fb_graph.specs.Answers.{IsRight}
use Rattle.fb_graph.specs.Limits.{DecodingGraph, ShotValue}
use Rattle.fb_graph.specs.Parity.{is_in}
use Rattle.fb_graph.specs.declared.parts.Row.{Row}
use Rattle.fb_graph.specs.declared.parts.Row.TheVariants.{Best, Odd}
use Rattle.fb_book.specs.declared.entries.Entry.{Entry}
use Rattle.fb_book.specs.Board.{kids_in}
use Rattle.fb_book.specs.Machine.{IsCompleteOn}
use Rattle.fb_plan.specs.Plans.{PlanTree, node_count}
use Rattle.fb_slots.specs.Ordered.{IsByItem}

-- the row of a shot
abbrev pub IsShotRow : DecodingGraph → ShotValue → Row → Type 0
IsShotRow g shot row = IsRight g shot row

-- the rows of shots
abbrev pub AreRows : DecodingGraph → List ShotValue → List Row → Type 0
AreRows g shots rows = AllZip (IsShotRow g) shots rows

abbrev pub is_best : Row → Bool
is_best (Best edges base weight cuts) = true
is_best (Odd v) = false

-- the places of the corrections among rows, of which the first has this place
abbrev pub best_places : ℕ → List Row → List ℕ
best_places k [] = []
best_places k (r ∷ rs) = if is_best r then k ∷ best_places (k + 1) rs else best_places (k + 1) rs

-- the number of defects that shots list
abbrev pub defect_count : List ShotValue → ℕ
defect_count shots = sum_by (λ shot. length shot.defects) shots

-- the number of defects for which one more worker takes part
abbrev pub defects_per_worker : ℕ
defects_per_worker = 384

-- How many of these workers take part at this number of units in all slots and of defects in all shots: one for each
-- unit if they suffice; else one, and one more for each `defects_per_worker` defects, as far as there are workers. At
-- least one.
abbrev pub seat_count : ℕ → ℕ → ℕ → ℕ
seat_count workers units defects =
    max 1 (if nat_le units workers then units else min workers (1 + defects / defects_per_worker))

-- the most of these workers that take part at this number of units in all slots: no more than units, and at least one
abbrev pub most_seats : ℕ → ℕ → ℕ
most_seats workers units = max 1 (min units workers)

-- A history of how these rows were made by a plan: of each shot that has a correction each node of the plan was taken
-- and then given, as the board's machine allows it; of other shots there is no entry. It is listed by shot, then node,
-- and an item's Took before its Gave. Slots are places among the rows.
pub record IsHistoryOf (t : PlanTree) (workers : ℕ) (rows : List Row) (history : List Entry) : Type 0 where
  pub complete : IsCompleteOn (best_places 0 rows) (kids_in t.units t.joins) (node_count t) (length rows * node_count t) history
  pub within : All (λ e. is_in (best_places 0 rows) e.slot ≡ true) history
  pub by : All (λ e. e.worker ≤ workers) history
  pub seats : All (λ e. e.worker < most_seats workers (length (best_places 0 rows) * t.units)) history
  pub order : IsByItem (node_count t) history
