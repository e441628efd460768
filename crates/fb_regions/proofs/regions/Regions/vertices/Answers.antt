use Rattle.fb_regions.proofs.ClockFound.{always_placed, found_at}
use Rattle.fb_regions.proofs.regions.Regions.vertices.Goals as goal

pub unreachable-requires : goal.unreachable-requires
unreachable-requires g c =
    absurd (always_placed c.self.inside.clock c.self.inside.marks c.self.inside.regions.items _ _ c.args.node (rw (← c.self.view_is) at c.requires) c.self.invariant.1
    c.deref.ensures.value c.in_default.ensures)

pub returns : goal.returns
returns g c =
    let at = found_at c.self.inside.clock c.self.inside.marks c.self.inside.regions.items _ _ c.args.node c.in-Some.place _ c.self.invariant.1 c.deref.ensures.value
    c.in-Some.ensures c.index.ensures in
    rw (← c.self.view_is, ← at.top) c.vertices.ensures
