use Rattle.std.proofs.Common.{◌/◌, ◌^◌, ap, ◌∙◌}
use Rattle.fb_gen.specs.Drawing.{next_state}
use Rattle.fb_gen.proofs.Hits.{next_state-wrapping}
use Rattle.fb_gen.proofs.drawing.Draws.next_number.Goals as goal

pub returns-clause-state : goal.returns-clause-state
returns-clause-state c = next_state-wrapping _ ∙ ap next_state c.self.view_is

pub returns-clause-number : goal.returns-clause-number
returns-clause-number c = ap (λ s. s / 2 ^ 44) (returns-clause-state c)
