use Rattle.std.proofs.Common.{ap, ◌∙◌}
use Rattle.fb_book.specs.Board.{is_starved}
use Rattle.fb_book.proofs.Choosing.{starved_if}
use Rattle.fb_book.proofs.items.Items.is_starved.Goals as goal

pub returns : goal.returns
returns c = starved_if c.self.invariant ∙ ap is_starved c.self.view_is
