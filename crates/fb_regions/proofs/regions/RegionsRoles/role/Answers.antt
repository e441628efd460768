use Rattle.fb_regions.proofs.Repaced.{pace_at_place, pace_without_place}
use Rattle.fb_regions.proofs.regions.RegionsRoles.role.Goals as goal

pub returns-in-Some : goal.returns-in-Some
returns-in-Some g c =
    rw (← c.self.view_is)
    (pace_at_place _ c.self.inside.clock _ _ _ c.self.inside.marks c.args.node c.in-Some.place _ c.self.invariant.0 c.self.invariant.1
    c.deref.ensures.value c.in-Some.ensures c.index.ensures)

pub returns-in-None : goal.returns-in-None
returns-in-None g c =
    rw (← c.self.view_is)
    (pace_without_place _ c.self.inside.clock _ _ _ c.self.inside.marks c.args.node c.self.invariant.0 c.self.invariant.1 c.deref.ensures.value
    c.in-None.ensures)
