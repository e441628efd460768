use Rattle.std.proofs.Common.{◌*◌, ◌^◌, ◌≤◌, length, subst}
use Rattle.fb_book.specs.Board.{item_count}
use Rattle.fb_book.specs.Books.{course_of}
use Rattle.fb_book.proofs.Keeping.{told_few, told_two}
use Rattle.fb_book.proofs.book.Book.keeps.Goals as goal

pub returns-clause-few : goal.returns-clause-few
returns-clause-few g c =
    subst (λ v. item_count (course_of g.N.Board.job v.0) ≤ 2 ^ 45) c.self.view_is (told_few c.self.invariant c.keeps.ensures)

pub returns-clause-two : goal.returns-clause-two
returns-clause-two g c =
    subst (λ v. length v.0 ≤ 2 * item_count (course_of g.N.Board.job v.0)) c.self.view_is
    (told_two c.self.invariant c.keeps.ensures)
