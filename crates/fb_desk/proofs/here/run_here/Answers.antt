use Rattle.std.proofs.Common.{ℕ, ◌≡◌, ◌+◌, ◌∙◌, length, true, ap, sym, arith}
use Rattle.fb_book.specs.Board.{is_finished}
use Rattle.fb_book.specs.Books.{course_of}
use Rattle.fb_half.proofs.DoneSteps.{both_with, made_holds}
use Rattle.fb_desk.specs.InternalQuiet.{IsQuiet}
use Rattle.fb_desk.proofs.Turns.{quiet_at_first}
use Rattle.fb_desk.proofs.here.run_here.Goals as goal

none_before : (n : ℕ) → 0 + n ≡ n
none_before n = omega arith

pub finish-requires-clause-finished : goal.finish-requires-clause-finished
finish-requires-clause-finished g c =
    both_with (λ book. IsQuiet (course_of g.N.Board.job c.in_ok-book.book.0) → is_finished (course_of g.N.Board.job book.0) ≡ true)
    c.drain.result c.in_ok-made.made c.drain.new.book c.in_ok-made.book c.in_ok-made.ensures.0 c.in_ok-made.ensures.1 c.drain.ensures.finished
    (quiet_at_first g.N.Board.job c.in_ok-book.book.0 c.in_ok-book.ensures.history)

pub finish-requires-clause-made : goal.finish-requires-clause-made
finish-requires-clause-made g c =
    sym (ap (λ book. length book.0) c.in_ok-made.ensures.1)
    ∙ (made_holds (λ made. length c.drain.new.book.0 ≡ length c.in_ok-book.book.0 + made) c.drain.result c.in_ok-made.made c.in_ok-made.ensures.0 c.drain.ensures.made
    ∙ (ap (λ h. length h + c.in_ok-made.made) c.in_ok-book.ensures.history ∙ none_before c.in_ok-made.made))
