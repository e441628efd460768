use Rattle.fb_blossoms.proofs.Nested.{nested}
use Rattle.fb_blossoms.proofs.blossoms.Blossoms.keeps.Goals as goal

pub returns : goal.returns
returns c = rw (← c.self.view_is) (nested _ _ _ c.self.invariant)
