use Rattle.std.proofs.Common.{◌≡◌, ◌+◌, ◌-◌, ◌*◌, length}
use Rattle.fb_book.specs.Board.{item_count}
use Rattle.fb_book.specs.Books.{course_of}
use Rattle.fb_desk.specs.InternalQuiet.{IsQuiet}
use Rattle.fb_desk.proofs.here.drain.Given as goal

-- a quiet run stays quiet, and has as many entries more as were made
abbrev pub invariant-loop-book : goal.invariant-loop-book
invariant-loop-book g l =
    (IsQuiet (course_of g.N.Board.job l.initial.book.0) → IsQuiet (course_of g.N.Board.job l.book.0))
    × (length l.book.0 ≡ length l.initial.book.0 + l.made)

-- the entries that are still to come
abbrev pub decreases-loop-book : goal.decreases-loop-book
decreases-loop-book g l = 2 * item_count (course_of g.N.Board.job l.book.0) - length l.book.0
