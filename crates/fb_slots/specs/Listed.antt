-- The entries of all seats in the order of their items.
use Rattle.std.specs.Prelude.{ℕ, zero, suc, ◌≡◌, ◌<◌, not, Some, List, [], ◌∷◌, ◌++◌, filter}
use Rattle.std.specs.List.{All}
use Rattle.fb_book.specs.declared.entries.EntryKind.{EntryKind}
use Rattle.fb_book.specs.declared.entries.EntryKind.TheVariants.{Took, Gave, Left}
use Rattle.fb_book.specs.declared.entries.Entry.{Entry}
use Rattle.fb_book.specs.Machine.{trace, is_loss_kind}
use Rattle.fb_book.specs.InternalBoard.{entry_at}
use Rattle.fb_slots.specs.Slots.{Layout, IsDone, IsWithin, weigh, as_taken, as_given}

-- the entries of the item at place k
abbrev pub entries_for : ℕ → ℕ → List (EntryKind × ℕ) → List Entry
entries_for n k [] = []
entries_for n k (x ∷ xs) = entry_at x.0 x.1 n k ∷ entries_for n k xs

-- the worker of the last Took in a list of events, else w
abbrev pub next_taker : EntryKind → ℕ → ℕ → ℕ
next_taker Took v w = v
next_taker Gave v w = w
next_taker Left v w = w

abbrev pub taker_of : List (EntryKind × ℕ) → ℕ → ℕ
taker_of [] w = w
taker_of (x ∷ xs) w = taker_of xs (next_taker x.0 x.1 w)

abbrev pub gains : List (EntryKind × ℕ) → List (EntryKind × ℕ)
gains done = filter (λ x. not (is_loss_kind x.0)) done

abbrev pub leavings : List (EntryKind × ℕ) → List (EntryKind × ℕ)
leavings done = filter (λ x. is_loss_kind x.0) done

-- some of the entries of the items below a place, by their places
abbrev pub listed_by : (List (EntryKind × ℕ) → List (EntryKind × ℕ)) → ℕ → List Entry → ℕ → List Entry
listed_by f n es zero = []
listed_by f n es (suc k) = listed_by f n es k ++ entries_for n k (f (trace n k es))

-- all entries by slot, then node, an item's in the order in which they were made; but for losses,
-- which come last
abbrev pub listing : ℕ → ℕ → List Entry → List Entry
listing n count es = listed_by gains n es count ++ listed_by leavings n es count

-- entries of items that were taken, given and left in an order that the machine allows
pub record IsOrdered (b : Layout) (es : List Entry) : Type 0 where
  pub done : (k : ℕ) → IsDone (trace b.nodes k es)
  pub ready : (k : ℕ) (pair : ℕ × ℕ) → k < b.count → b.kids k ≡ Some pair
      → 0 < weigh as_taken (trace b.nodes k es)
      → (weigh as_given (trace b.nodes pair.0 es) ≡ 1)
      × (weigh as_given (trace b.nodes pair.1 es) ≡ 1)

-- Every item was taken and given by one worker, and no other entry is there.
pub record IsWhole (b : Layout) (entries : List Entry) : Type 0 where
  pub each : (k : ℕ) → k < b.count
      → (w : ℕ) × (trace b.nodes k entries ≡ (Took, w) ∷ (Gave, w) ∷ [])
  pub within : All (IsWithin b) entries
