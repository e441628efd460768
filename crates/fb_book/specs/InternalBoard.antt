-- What a run and a book keep beside the history, so that the next item is found without a search.
use Rattle.std.specs.Prelude.{ℕ, ◌≡◌, ◌+◌, ◌*◌, ◌/◌, ◌%◌, ◌^◌, ◌<◌, ◌≤◌, ◌==◌, ◌&&◌, Bool, true, false, nat_lt, if◌then◌else◌, cond, is_some, option_map, Option, Some, None, List, [], length, get_or, sum_by, count_by}
use Rattle.std.specs.List.{list_any}
use Rattle.fb_book.specs.declared.entries.EntryKind.{EntryKind}
use Rattle.fb_book.specs.declared.entries.Entry.{Entry}
use Rattle.fb_book.specs.declared.entries.Status.{Status}
use Rattle.fb_book.specs.Machine.{Kids, IsForest, is_child, status_at, is_idle, is_held_by, is_left, is_over, can_take, replay, all_idle}
use Rattle.fb_book.specs.Board.{children_in, Course, nodes_of, item_count, kids_of, IsRun, item_status}
use Rattle.fb_book.specs.Books.{IsKept, course_of}
use Rattle.fb_plan.specs.Plans.{JobValue, most_units}

-- A plan has fewer nodes: one fewer than twice its units.
abbrev pub node_limit : ℕ
node_limit = 2 * most_units

-- the parent of each node
pub record AreParents (units : ℕ) (joins : List (ℕ × ℕ)) (parents : List (Option ℕ)) : Type 0 where
  pub count : length parents ≡ units + length joins
  pub sound : (n m : ℕ) → get_or parents n None ≡ Some m
      → (m < units + length joins) × (is_child (children_in units joins m) n ≡ true)
  pub whole : (n m : ℕ) → is_child (children_in units joins m) n ≡ true → get_or parents n None ≡ Some m

-- a fusion that can be taken
abbrev pub is_ready : Kids → List Status → ℕ → Bool
is_ready kids st k = is_some (kids k) && can_take kids st k

abbrev pub unsolved_of : Status → ℕ
unsolved_of s = cond (is_over s) 0 1

-- Beside the statuses: the places of the fusions that can be taken, room for more of them, the first unit that was
-- not taken, the number of items that are neither given nor used, whether an item was left, and room in the history.
pub record IsBoard (kids : Kids) (n count : ℕ) (history : List Entry) (st : List Status) (ready : List ℕ)
    (ready_room next unsolved : ℕ) (starved : Bool) (room : ℕ) : Type 0 where
  pub replayed : replay kids n (all_idle count) history ≡ Some st
  pub loss : starved ≡ list_any is_left st
  pub rest : unsolved ≡ sum_by unsolved_of st
  pub each : (k : ℕ) → count_by (λ j. j == k) ready ≡ cond (is_ready kids st k) 1 0
  pub heap_room : length ready + unsolved ≤ ready_room
  pub before : (k : ℕ) → kids k ≡ None → k < next → is_idle (status_at st k) ≡ false
  pub unit : next < count → kids next ≡ None
  pub behind : (k : ℕ) → kids k ≡ None → next ≤ k → k < count → is_idle (status_at st k) ≡ true
  pub history_room : 2 * count ≤ room

-- What a run keeps beside its history.
pub record IsItems (c : Course) (nodes : ℕ) (parents : List (Option ℕ)) (st : List Status) (ready : List ℕ)
    (ready_room next unsolved : ℕ) (starved : Bool) (room : ℕ) : Type 0 where
  pub some : 0 < c.units
  pub forest : IsForest (children_in c.units c.joins)
  pub nodes_is : nodes ≡ nodes_of c
  pub few_nodes : nodes_of c < node_limit
  pub few_slots : c.slots < 2 ^ 32
  pub parents_are : AreParents c.units c.joins parents
  pub board : IsBoard (kids_of c) (nodes_of c) (item_count c) c.history st ready ready_room next unsolved starved room

-- both children are items
abbrev pub AreWithin : Option (ℕ × ℕ) → ℕ → Type 0
AreWithin None count = Unit {0}
AreWithin (Some pair) count = (pair.0 < count) × (pair.1 < count)

abbrev pub entry_at : EntryKind → ℕ → ℕ → ℕ → Entry
entry_at kind worker nodes k = record { kind = kind; worker = worker; slot = k / nodes; node = k % nodes }

abbrev pub parent_place : ℕ → List (Option ℕ) → ℕ → Option ℕ
parent_place nodes parents k = option_map (λ m. k / nodes * nodes + m) (get_or parents (k % nodes) None)

-- The unit after the one at place k: the next node, or the first one of the next slot.
abbrev pub after_unit : ℕ → ℕ → ℕ → ℕ
after_unit units n k = if nat_lt (k % n + 1) units then k + 1 else k / n * n + n

-- the parent, if it can be taken
abbrev pub ready_parent : Kids → List Status → Option ℕ → Option ℕ
ready_parent kids st None = None
ready_parent kids st (Some p) = if can_take kids st p then Some p else None

-- what every run keeps
pub record IsCourse (c : Course) : Type 0 where
  pub some : 0 < c.units
  pub few_nodes : nodes_of c < node_limit
  pub few_slots : c.slots < 2 ^ 32
  pub forest : IsForest (kids_of c)
  pub run : IsRun c

-- Nothing changed, since the worker doesn't hold the item.
pub record LetsNot (old new : Course) (worker slot node : ℕ) : Type 0 where
  pub same : new ≡ old
  pub unheld : is_held_by worker (item_status old slot node) ≡ false

-- what a book keeps: its pieces, and room for those of the roots
pub record IsBook {P : Type 0} (job_of : P → JobValue) (slot_of node_of : P → ℕ) (made_of : P → Option (List ℕ))
    (job : JobValue) (workers : ℕ) (c : Course) (parked : List (Option P)) (roots : List P) (room : ℕ) : Type 0 where
  pub course : c ≡ course_of job c.history
  pub kept : IsKept job_of slot_of node_of made_of job workers c.history parked
  pub roots_are : roots ≡ []
  pub roots_room : length job.shots ≤ room
