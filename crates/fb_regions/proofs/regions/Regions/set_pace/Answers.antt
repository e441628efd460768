use Rattle.fb_regions.proofs.ClockChanges.{small_at}
use Rattle.fb_regions.proofs.Repaced.{kept_at_time, nodes_at_time, paces_at_time, same_nodes, unrepaced}
use Rattle.fb_regions.proofs.regions.Regions.set_pace.Goals as goal

pub settle-requires-clause-top : goal.settle-requires-clause-top
settle-requires-clause-top g c =
    (small_at _ c.self.inside.clock _ _ _ _ c.args.node c.in-Some.place _ c.self.invariant.0 c.self.invariant.1 c.deref.ensures.value c.in-Some.ensures c.index_mut-region.ensures.value).top

pub settle-requires-clause-radius : goal.settle-requires-clause-radius
settle-requires-clause-radius g c =
    (small_at _ c.self.inside.clock _ _ _ _ c.args.node c.in-Some.place _ c.self.invariant.0 c.self.invariant.1 c.deref.ensures.value c.in-Some.ensures c.index_mut-region.ensures.value).radius

pub invariant_of-self : goal.invariant_of-self
invariant_of-self g c =
    rw c.settle.ensures
    (kept_at_time _ c.self.inside.clock _ _ _ _ c.args.node c.in-Some.place _ c.args.pace c.self.invariant.1 c.deref.ensures.value c.in-Some.ensures
    c.index_mut-region.ensures.value c.self.invariant.0 c.self.invariant.2 c.self.invariant.3)

pub returns-in-Some-clause-same : goal.returns-in-Some-clause-same
returns-in-Some-clause-same g c =
    rw (← c.self.view_is, c.settle.ensures)
    (same_nodes _ _ _ _ _
    (nodes_at_time (g.S.Scope.problem c.self.inside.scope) c.self.inside.clock _ _ _ c.self.inside.marks c.args.node c.in-Some.place _ c.args.pace
    c.self.invariant.1 c.deref.ensures.value c.in-Some.ensures c.index_mut-region.ensures.value))

pub returns-in-Some-clause-paces : goal.returns-in-Some-clause-paces
returns-in-Some-clause-paces g c =
    rw (← c.self.view_is, c.settle.ensures)
    (paces_at_time _ c.self.inside.clock _ _ _ _ c.args.node c.in-Some.place _ c.args.pace c.self.invariant.1 c.deref.ensures.value c.in-Some.ensures
    c.index_mut-region.ensures.value c.self.invariant.0 c.self.invariant.2 c.self.invariant.3)

pub returns-in_default-clause-paces : goal.returns-in_default-clause-paces
returns-in_default-clause-paces g c =
    rw (← c.self.view_is)
    (unrepaced c.self.inside.clock _ _ _ c.self.inside.marks c.args.node c.args.pace c.self.invariant.1 c.deref.ensures.value c.in_default.ensures)
