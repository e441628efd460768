-- Seats that become one.
use Rattle.std.specs.Prelude.{ℕ, ◌≡◌, ◌+◌, List, ◌++◌, length}
use Rattle.std.specs.List.{All}
use Rattle.fb_slots.specs.declared.views.Hand.{Hand}
use Rattle.fb_slots.specs.Seats.{SeatValue, ends_in, entries_in}
use Rattle.fb_slots.specs.Slots.{Layout, IsClosed}

-- One view has what the last of all seats have done, and the others, which are left, what they
-- have.
pub record IsGathered (own free : SeatValue → Type 0) (b : Layout) (all left : List SeatValue)
    (v : Hand) : Type 0 where
  pub own_all : All own left
  pub free_all : All free left
  pub entries : entries_in left ++ v.entries ≡ entries_in all
  pub ends : ends_in left + v.ends ≡ ends_in all
  pub seats : length left + v.seats ≡ length all
  pub closed : (j : ℕ) → IsClosed b v j
