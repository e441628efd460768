-- The machine over the items of a run, each named by its place. Its history is a list of entries.
use Rattle.std.specs.Prelude.{ℕ, ◌≡◌, ◌+◌, ◌*◌, ◌<◌, ◌==◌, ◌&&◌, ◌||◌, nat_lt, Bool, true, false, not, if◌then◌else◌, Option, Some, None, List, [], ◌∷◌, get_or, slice_set, filter, map, replicate}
use Rattle.std.specs.List.{All, list_any, list_all}
use Rattle.fb_graph.specs.Parity.{is_in}
use Rattle.fb_book.specs.declared.entries.EntryKind.{EntryKind}
use Rattle.fb_book.specs.declared.entries.EntryKind.TheVariants.{Took, Gave, Left}
use Rattle.fb_book.specs.declared.entries.Entry.{Entry}
use Rattle.fb_book.specs.declared.entries.Status.{Status}
use Rattle.fb_book.specs.declared.entries.Status.TheVariants.{Idle, Held, Given, Used, Left as Lost}

-- the children of each fusion; a unit has none
abbrev pub Kids : Type 0
Kids = ℕ → Option (ℕ × ℕ)

abbrev pub is_child : Option (ℕ × ℕ) → ℕ → Bool
is_child None c = false
is_child (Some pair) c = (pair.0 == c) || (pair.1 == c)

-- Children come before their fusion, the two differ, and no item is a child of two.
pub record IsForest (kids : Kids) : Type 0 where
  pub before : (k c : ℕ) → is_child (kids k) c ≡ true → c < k
  pub differ : (k : ℕ) (pair : ℕ × ℕ) → kids k ≡ Some pair → (pair.0 == pair.1) ≡ false
  pub once : (j k c : ℕ) → is_child (kids j) c ≡ true → is_child (kids k) c ≡ true → j ≡ k

-- the status of the item at this place; beyond all items nothing can be done
abbrev pub status_at : List Status → ℕ → Status
status_at st k = get_or st k Used

abbrev pub is_idle : Status → Bool
is_idle Idle = true
is_idle (Held w) = false
is_idle Given = false
is_idle Used = false
is_idle Lost = false

abbrev pub is_held : Status → Bool
is_held Idle = false
is_held (Held w) = true
is_held Given = false
is_held Used = false
is_held Lost = false

abbrev pub is_held_by : ℕ → Status → Bool
is_held_by w Idle = false
is_held_by w (Held v) = w == v
is_held_by w Given = false
is_held_by w Used = false
is_held_by w Lost = false

abbrev pub is_given : Status → Bool
is_given Idle = false
is_given (Held w) = false
is_given Given = true
is_given Used = false
is_given Lost = false

abbrev pub is_used : Status → Bool
is_used Idle = false
is_used (Held w) = false
is_used Given = false
is_used Used = true
is_used Lost = false

abbrev pub is_left : Status → Bool
is_left Idle = false
is_left (Held w) = false
is_left Given = false
is_left Used = false
is_left Lost = true

-- given or used
abbrev pub is_over : Status → Bool
is_over s = is_given s || is_used s

abbrev pub are_given : List Status → Option (ℕ × ℕ) → Bool
are_given st None = true
are_given st (Some pair) = is_given (status_at st pair.0) && is_given (status_at st pair.1)

-- The item is idle and, if it is a fusion, both its children are given.
abbrev pub can_take : Kids → List Status → ℕ → Bool
can_take kids st k = is_idle (status_at st k) && are_given st (kids k)

-- what a worker may do with the item at this place
abbrev pub is_permitted : Kids → List Status → EntryKind → ℕ → ℕ → Bool
is_permitted kids st Took w k = not (list_any is_left st) && can_take kids st k
is_permitted kids st Gave w k = is_held_by w (status_at st k)
is_permitted kids st Left w k = is_held_by w (status_at st k)

abbrev pub with_used : Option (ℕ × ℕ) → List Status → List Status
with_used None st = st
with_used (Some pair) st = slice_set (slice_set st pair.0 Used) pair.1 Used

-- the statuses after it
abbrev pub after : Kids → List Status → EntryKind → ℕ → ℕ → List Status
after kids st Took w k = slice_set (with_used (kids k) st) k (Held w)
after kids st Gave w k = slice_set st k Given
after kids st Left w k = slice_set st k Lost

-- items are numbered by slot, then node, of n nodes
abbrev pub place : ℕ → Entry → ℕ
place n e = e.slot * n + e.node

abbrev pub allows : Kids → ℕ → List Status → Entry → Bool
allows kids n st e = nat_lt e.node n && is_permitted kids st e.kind e.worker (place n e)

-- the statuses after all entries, or none if one of them isn't allowed
abbrev pub replay : Kids → ℕ → List Status → List Entry → Option (List Status)
replay kids n st [] = Some st
replay kids n st (e ∷ es) =
    if allows kids n st e then replay kids n (after kids st e.kind e.worker (place n e)) es else None

-- what was done with the item at this place, and by which worker
abbrev pub trace : ℕ → ℕ → List Entry → List (EntryKind × ℕ)
trace n k es = map (λ e. (e.kind, e.worker)) (filter (λ e. place n e == k) es)

-- the statuses at first
abbrev pub all_idle : ℕ → List Status
all_idle count = replicate count Idle

abbrev pub is_loss_kind : EntryKind → Bool
is_loss_kind Took = false
is_loss_kind Gave = false
is_loss_kind Left = true

abbrev pub is_loss : Entry → Bool
is_loss e = is_loss_kind e.kind

-- The history is allowed, nothing was left, and at its end every item is given or used.
pub record IsComplete (kids : Kids) (n count : ℕ) (history : List Entry) : Type 0 where
  pub statuses : List Status
  pub replayed : replay kids n (all_idle count) history ≡ Some statuses
  pub unleft : list_any is_loss history ≡ false
  pub over : list_all is_over statuses ≡ true

-- The slots have items at all nodes.
abbrev pub AreSlots : List ℕ → ℕ → ℕ → Type 0
AreSlots slots n count = (slot node : ℕ) → is_in slots slot ≡ true → node < n → slot * n + node < count

-- The same of the items of some slots alone: none of them was left, and at the end each is given or used.
pub record IsCompleteOn (slots : List ℕ) (kids : Kids) (n count : ℕ) (history : List Entry) : Type 0 where
  pub inside : AreSlots slots n count
  pub statuses : List Status
  pub replayed : replay kids n (all_idle count) history ≡ Some statuses
  pub unleft : All (λ e. is_in slots e.slot ≡ true → is_loss e ≡ false) history
  pub over : (slot node : ℕ) → is_in slots slot ≡ true → node < n
      → is_over (status_at statuses (slot * n + node)) ≡ true
