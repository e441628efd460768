use Rattle.std.proofs.Common.{subst}
use Rattle.fb_book.specs.InternalBoard.{IsCourse}
use Rattle.fb_book.proofs.Turns.{is_course}
use Rattle.fb_book.proofs.items.Items.keeps.Goals as goal

pub returns : goal.returns
returns c = subst IsCourse c.self.view_is (is_course c.self.invariant)
