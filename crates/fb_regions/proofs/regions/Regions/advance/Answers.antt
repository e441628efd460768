use Rattle.std.proofs.Common.{◌<◌, ◌^◌, take, length, ◌++◌, drop, ap, ◌∙◌}
use Rattle.fb_graph.proofs.Among.{among_All}
use Rattle.fb_regions.specs.InternalClock.{all_at, now_at}
use Rattle.fb_regions.proofs.ClockFound.{fits_at}
use Rattle.fb_regions.proofs.ClockSteps.{advanced_anew, advanced_on, view_advanced}
use Rattle.fb_regions.proofs.Found.{mapped_back}
use Rattle.fb_regions.proofs.regions.Regions.advance.Goals as goal

pub invariant_of-self : goal.invariant_of-self
invariant_of-self g c =
    let is = advanced_on _ c.self.inside.regions.items c.self.inside.places.items c.self.inside.marks c.self.inside.clock c.args.length
    c.self.invariant.0 c.self.invariant.1 c.self.invariant.2 c.limits.ensures (rw (← c.self.view_is) at c.requires.roles)
    (rw (← c.self.view_is) at c.requires.crossed) (rw (← c.self.view_is) at c.requires.may) c.self.invariant.3 c.in-Some.clock c.in-Some.ensures.1 in
    (is.kept, is.index, is.begun, is.heads)

pub settle_all-requires-clause-tops : goal.settle_all-requires-clause-tops
settle_all-requires-clause-tops g c =
    rw c.deref_mut.ensures.value
    (among_All (λ r. (now_at c.self.inside.clock r).top_value < 2 ^ 64) c.self.inside.regions.items
    (λ r a. (fits_at _ c.self.inside.clock c.self.inside.regions.items c.self.inside.marks c.self.invariant.0 r a).top))

pub settle_all-requires-clause-radii : goal.settle_all-requires-clause-radii
settle_all-requires-clause-radii g c =
    rw c.deref_mut.ensures.value
    (among_All (λ r. (now_at c.self.inside.clock r).radius < 2 ^ 64) c.self.inside.regions.items
    (λ r a. (fits_at _ c.self.inside.clock c.self.inside.regions.items c.self.inside.marks c.self.invariant.0 r a).radius))

pub invariant_of-self-in_default : goal.invariant_of-self-in_default
invariant_of-self-in_default g c =
    let settled = c.settle_all.ensures ∙ ap (all_at c.self.inside.clock) c.deref_mut.ensures.value in
    let is = advanced_anew _ c.self.inside.regions.items c.self.inside.places.items c.self.inside.marks c.self.inside.clock c.args.length
    c.self.invariant.0 c.self.invariant.1 c.self.invariant.2 c.limits.ensures (rw (← c.self.view_is) at c.requires.roles)
    (rw (← c.self.view_is) at c.requires.crossed) (rw (← c.self.view_is) at c.requires.may) c.self.invariant.3 _
    (ap (λ l. take c.self.inside.regions.len (l ++ drop (length l) c.self.inside.regions.items)) settled
    ∙ mapped_back (now_at c.self.inside.clock) c.self.inside.regions.items c.self.inside.regions.len c.self.inside.regions.ok.0) in
    (is.kept, is.index, is.begun, is.heads)

pub returns-in-Some : goal.returns-in-Some
returns-in-Some g c =
    rw (← c.self.view_is)
    (view_advanced (g.S.Scope.problem c.self.inside.scope) c.self.inside.regions.items c.self.inside.places.items c.self.inside.marks c.self.inside.clock c.args.length _ _
    (advanced_on _ c.self.inside.regions.items c.self.inside.places.items c.self.inside.marks c.self.inside.clock c.args.length
    c.self.invariant.0 c.self.invariant.1 c.self.invariant.2 c.limits.ensures (rw (← c.self.view_is) at c.requires.roles)
    (rw (← c.self.view_is) at c.requires.crossed) (rw (← c.self.view_is) at c.requires.may) c.self.invariant.3 c.in-Some.clock c.in-Some.ensures.1) c.self.inside.scope)

pub returns-in_default : goal.returns-in_default
returns-in_default g c =
    let settled = c.settle_all.ensures ∙ ap (all_at c.self.inside.clock) c.deref_mut.ensures.value in
    rw (← c.self.view_is)
    (view_advanced (g.S.Scope.problem c.self.inside.scope) c.self.inside.regions.items c.self.inside.places.items c.self.inside.marks c.self.inside.clock c.args.length _ _
    (advanced_anew _ c.self.inside.regions.items c.self.inside.places.items c.self.inside.marks c.self.inside.clock c.args.length
    c.self.invariant.0 c.self.invariant.1 c.self.invariant.2 c.limits.ensures (rw (← c.self.view_is) at c.requires.roles)
    (rw (← c.self.view_is) at c.requires.crossed) (rw (← c.self.view_is) at c.requires.may) c.self.invariant.3 _
    (ap (λ l. take c.self.inside.regions.len (l ++ drop (length l) c.self.inside.regions.items)) settled
    ∙ mapped_back (now_at c.self.inside.clock) c.self.inside.regions.items c.self.inside.regions.len c.self.inside.regions.ok.0)) c.self.inside.scope)
