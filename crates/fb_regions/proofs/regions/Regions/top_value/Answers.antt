use Rattle.std.proofs.Common.{ap}
use Rattle.fb_regions.proofs.ClockFound.{always_placed, among_placed, begun_among, fits_at, found_at}
use Rattle.fb_regions.proofs.regions.Regions.top_value.Goals as goal

pub unreachable-requires : goal.unreachable-requires
unreachable-requires g c =
    absurd (always_placed c.self.inside.clock c.self.inside.marks c.self.inside.regions.items _ _ c.args.node (rw (← c.self.view_is) at c.requires) c.self.invariant.1
    c.deref.ensures.value c.in_default.ensures)

pub top_at-requires-clause-begun : goal.top_at-requires-clause-begun
top_at-requires-clause-begun g c =
    begun_among c.self.inside.clock c.self.inside.regions.items _ c.self.invariant.2
    (among_placed c.self.inside.marks c.self.inside.regions.items _ _ c.args.node c.in-Some.place _ c.self.invariant.1 c.deref.ensures.value c.in-Some.ensures c.index.ensures)

pub top_at-requires-clause-fits : goal.top_at-requires-clause-fits
top_at-requires-clause-fits g c =
    (fits_at _ c.self.inside.clock c.self.inside.regions.items _ c.self.invariant.0 _
    (among_placed c.self.inside.marks c.self.inside.regions.items _ _ c.args.node c.in-Some.place _ c.self.invariant.1 c.deref.ensures.value c.in-Some.ensures c.index.ensures)).top

pub returns : goal.returns
returns g c =
    let at = found_at c.self.inside.clock c.self.inside.marks c.self.inside.regions.items _ _ c.args.node c.in-Some.place _ c.self.invariant.1 c.deref.ensures.value
    c.in-Some.ensures c.index.ensures in
    rw (← c.self.view_is, c.top_at.ensures) (ap (λ n. n.top.value) at.is)
