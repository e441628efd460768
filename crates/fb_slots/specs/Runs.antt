-- What a board leaves at its end.
use Rattle.std.specs.Prelude.{ℕ, List}
use Rattle.fb_book.specs.declared.entries.Entry.{Entry}

-- the pieces of all slots' roots, the history of what the seats did, and the number of seats
pub record RunValue (P : Type 0) : Type 0 where
  pub roots : List P
  pub history : List Entry
  pub seats : ℕ
