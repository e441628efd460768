-- A run over the items of a plan's nodes in several slots.
use Rattle.std.specs.Prelude.{ℕ, ◌≡◌, ◌+◌, ◌-◌, ◌*◌, ◌/◌, ◌%◌, ◌<◌, ◌≤◌, Bool, true, false, nat_lt, if◌then◌else◌, is_some, unwrap_or, Option, Some, None, List, [], ◌∷◌, ◌++◌, length, slice_get}
use Rattle.std.specs.List.{list_any, list_all}
use Rattle.fb_book.specs.declared.entries.EntryKind.{EntryKind}
use Rattle.fb_book.specs.declared.entries.EntryKind.TheVariants.{Took}
use Rattle.fb_book.specs.declared.entries.Entry.{Entry}
use Rattle.fb_book.specs.declared.entries.Status.{Status}
use Rattle.fb_book.specs.Machine.{Kids, status_at, is_held, is_held_by, is_left, is_over, can_take, replay, all_idle}

-- the two children of a node; a unit has none
abbrev pub children_in : ℕ → List (ℕ × ℕ) → ℕ → Option (ℕ × ℕ)
children_in units joins n = if nat_lt n units then None else slice_get joins (n - units)

abbrev pub shifted_children : ℕ → Option (ℕ × ℕ) → Option (ℕ × ℕ)
shifted_children base None = None
shifted_children base (Some pair) = Some (base + pair.0, base + pair.1)

-- the places of an item's children, which are in its slot
abbrev pub kids_in : ℕ → List (ℕ × ℕ) → Kids
kids_in units joins k =
    let n = units + length joins in shifted_children (k / n * n) (children_in units joins (k % n))

-- a run: the units and joins of a tree, the number of slots, and the history
pub record Course : Type 0 where
  pub units : ℕ
  pub joins : List (ℕ × ℕ)
  pub slots : ℕ
  pub history : List Entry

abbrev pub nodes_of : Course → ℕ
nodes_of c = c.units + length c.joins

abbrev pub item_count : Course → ℕ
item_count c = c.slots * nodes_of c

abbrev pub kids_of : Course → Kids
kids_of c = kids_in c.units c.joins

abbrev pub replay_of : Course → Option (List Status)
replay_of c = replay (kids_of c) (nodes_of c) (all_idle (item_count c)) c.history

-- the statuses that the history leads to
abbrev pub statuses_of : Course → List Status
statuses_of c = unwrap_or (replay_of c) []

-- the machine allows the history
abbrev pub IsRun : Course → Type 0
IsRun c = replay_of c ≡ Some (statuses_of c)

abbrev pub place_in : Course → ℕ → ℕ → ℕ
place_in c slot node = slot * nodes_of c + node

abbrev pub item_status : Course → ℕ → ℕ → Status
item_status c slot node = status_at (statuses_of c) (place_in c slot node)

abbrev pub with_entry : Course → EntryKind → ℕ → ℕ → ℕ → Course
with_entry c kind worker slot node =
    record c { history = c.history ++ record { kind = kind; worker = worker; slot = slot; node = node } ∷ [] }

-- one entry more, which the machine allows
pub record Adds (old new : Course) (kind : EntryKind) (worker slot node : ℕ) : Type 0 where
  pub in_slots : slot < old.slots
  pub in_nodes : node < nodes_of old
  pub entry : new ≡ with_entry old kind worker slot node
  pub run : IsRun new

abbrev pub can_take_item : Course → ℕ → Bool
can_take_item c k = can_take (kids_of c) (statuses_of c) k

abbrev pub is_fusion : Course → ℕ → Bool
is_fusion c k = is_some (kids_of c k)

-- No fusion that can be taken comes before this one.
abbrev pub IsFirstFusion : Course → ℕ → Type 0
IsFirstFusion c k = (j : ℕ) → is_fusion c j ≡ true → can_take_item c j ≡ true → k ≤ j

-- No fusion can be taken, and no unit that can be taken comes before this one.
abbrev pub IsFirstUnit : Course → ℕ → Type 0
IsFirstUnit c k = (j : ℕ) → can_take_item c j ≡ true → (is_fusion c j ≡ false) × (k ≤ j)

-- Nothing can be taken, an item is held and none is left.
pub record MustWait (c : Course) : Type 0 where
  pub none : (j : ℕ) → can_take_item c j ≡ false
  pub held : list_any is_held (statuses_of c) ≡ true
  pub unleft : list_any is_left (statuses_of c) ≡ false

abbrev pub is_starved : Course → Bool
is_starved c = list_any is_left (statuses_of c)

-- every item is given or used
abbrev pub is_finished : Course → Bool
is_finished c = list_all is_over (statuses_of c)

-- Unit (slot, node) is taken: nothing that can be taken comes before it, and no fusion can be taken.
pub record TakesUnit (old new : Course) (worker slot node : ℕ) : Type 0 where
  pub adds : Adds old new Took worker slot node
  pub unit : is_fusion old (place_in old slot node) ≡ false
  pub first : IsFirstUnit old (place_in old slot node)

-- Fusion (slot, node), of these children, is taken: no fusion that can be taken comes before it.
pub record TakesFusion (old new : Course) (worker slot node left right : ℕ) : Type 0 where
  pub adds : Adds old new Took worker slot node
  pub children : kids_of old (place_in old slot node) ≡ Some (left, right)
  pub first : IsFirstFusion old (place_in old slot node)

-- The item was held by the worker, and there is one entry more.
pub record Lets (old new : Course) (kind : EntryKind) (worker slot node : ℕ) : Type 0 where
  pub adds : Adds old new kind worker slot node
  pub held : is_held_by worker (item_status old slot node) ≡ true
