use Rattle.fb_regions.proofs.Widened.{kept_widened}
use Rattle.fb_regions.proofs.regions.Regions.widen.Goals as goal

pub invariant_of-self : goal.invariant_of-self
invariant_of-self g c = (
  kept_widened _ _ _ _ c.limits.ensures (rw (← c.self.view_is) at c.requires.part) (rw (← c.self.view_is) at c.requires.vertices) c.self.invariant.0,
  c.self.invariant.1,
  c.self.invariant.2,
  c.self.invariant.3,
)
