use Rattle.fb_blossoms.proofs.Nested.{top_round}
use Rattle.fb_blossoms.proofs.blossoms.Blossoms.outer_of.Goals as goal

pub returns : goal.returns
returns c = rw (← c.self.view_is) (top_round _ _ c.self.invariant.forest _ _ c.top_of.ensures)
