-- A worker's seat at a board, as contracts see it.
use Rattle.std.specs.Prelude.{ℕ, ◌+◌, ◌/◌, ◌%◌, Option, Some, None, option_map, List, [], ◌∷◌, ◌++◌}
use Rattle.atomic_table.specs.Seated.{TableId}
use Rattle.atomic_table.specs.Table.{Me}
use Rattle.fb_book.specs.declared.entries.EntryKind.{EntryKind}
use Rattle.fb_book.specs.declared.entries.EntryKind.TheVariants.{Took, Gave, Left}
use Rattle.fb_book.specs.declared.entries.Entry.{Entry}
use Rattle.fb_slots.specs.declared.views.Hand.{Hand}
use Rattle.fb_slots.specs.Slots.{held_of}

-- The board that the seat is of, its worker's number, the worker's entries in the order in which
-- they were made, how many
-- units it has claimed, how many of its claims found no unit left, and the slot and node of the
-- item that it holds.
pub record SeatValue : Type 0 where
  pub board : TableId
  pub worker : ℕ
  pub entries : List Entry
  pub claimed : ℕ
  pub ends : ℕ
  pub held : Option (ℕ × ℕ)

-- a seat that has done nothing
abbrev pub new_seat : TableId → ℕ → SeatValue
new_seat board worker =
    record { board = board; worker = worker; entries = []; claimed = 0; ends = 0; held = None }

-- the seat with one entry more, which names its worker and the item of this slot and node
abbrev pub seat_with_entry : EntryKind → ℕ → ℕ → SeatValue → SeatValue
seat_with_entry kind slot node s =
    record s {
      entries = s.entries ++ record {
        kind = kind;
        worker = s.worker;
        slot = slot;
        node =
            node;
      } ∷ [];
    }

-- the seat once its worker has taken, given or left the item of this slot and node
abbrev pub seat_that_took : ℕ → ℕ → SeatValue → SeatValue
seat_that_took slot node s = record (seat_with_entry Took slot node s) { held = Some (slot, node) }

abbrev pub seat_that_gave : ℕ → ℕ → SeatValue → SeatValue
seat_that_gave slot node s = record (seat_with_entry Gave slot node s) { held = None }

abbrev pub seat_that_left : ℕ → ℕ → SeatValue → SeatValue
seat_that_left slot node s = record (seat_with_entry Left slot node s) { held = None }

-- the same of a unit that it claimed
abbrev pub seat_that_claimed : ℕ → ℕ → SeatValue → SeatValue
seat_that_claimed slot node s = record (seat_that_took slot node s) { claimed = s.claimed + 1 }

-- the entries of all seats, seat after seat
abbrev pub entries_in : List SeatValue → List Entry
entries_in [] = []
entries_in (s ∷ ss) = s.entries ++ entries_in ss

-- how many claims of all seats found no unit left
abbrev pub ends_in : List SeatValue → ℕ
ends_in [] = 0
ends_in (s ∷ ss) = s.ends + ends_in ss

-- the slot and node of the item at a place, of n nodes in each slot
abbrev pub item_at : ℕ → ℕ → ℕ × ℕ
item_at n k = (k / n, k % n)

-- what contracts see of a seat that steps with `me`, at a board of n nodes in each slot
abbrev pub seat_value : {P : Type 0} → ℕ → TableId → ℕ → Me (Option P) Hand → SeatValue
seat_value n board worker me = record {
  board = board;
  worker = worker;
  entries = me.0.entries;
  claimed = me.0.drawn;
  ends = me.0.ends;
  held = option_map (item_at n) (held_of me.1);
}
