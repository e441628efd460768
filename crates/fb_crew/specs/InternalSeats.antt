-- The seats of a crew's workers at a board without a lock.
use Rattle.std.specs.Prelude.{ℕ, ◌≡◌, ◌<◌, None}
use Rattle.std.specs.List.{All}
use Rattle.atomic_table.specs.Seated.{TableId}
use Rattle.fb_hands.specs.Gates.{HasPassed}
use Rattle.fb_slots.specs.Seats.{SeatValue, new_seat}

-- nothing was done at the seat
abbrev pub IsNew : TableId → SeatValue → Type 0
IsNew board s = s ≡ new_seat board s.worker

-- The seat of a worker that found no unit left, and holds nothing, and has passed a gate with each item that it gave.
pub record IsEnded (board : TableId) (passed : ℕ → ℕ → ℕ → Type 0) (s : SeatValue) : Type 0 where
  pub own : s.board ≡ board
  pub free : s.held ≡ None
  pub ended : 0 < s.ends
  pub came : All (HasPassed passed) s.entries
