use Rattle.std.proofs.Common.{◌∙◌, ap}
use Rattle.fb_book.proofs.items.Items.history.Goals as goal

pub returns : goal.returns
returns c = c.as_slice.ensures.value ∙ ap (λ course. course.history) c.self.view_is
