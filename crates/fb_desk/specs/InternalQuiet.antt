-- A run on one thread between its turns.
use Rattle.std.specs.Prelude.{◌≡◌, false}
use Rattle.std.specs.List.{list_any}
use Rattle.fb_book.specs.Machine.{is_held, is_left}
use Rattle.fb_book.specs.Board.{Course, statuses_of}

-- No worker holds an item, and none was left.
pub record IsQuiet (c : Course) : Type 0 where
  pub unheld : list_any is_held (statuses_of c) ≡ false
  pub unleft : list_any is_left (statuses_of c) ≡ false
