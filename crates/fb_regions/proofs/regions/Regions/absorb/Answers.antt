use Rattle.std.proofs.Common.{◌+◌, sym, arith, refl, ap, None}
use Rattle.fb_regions.specs.InternalClock.{all_at, now_at}
use Rattle.fb_regions.specs.InternalNodes.{nodes_of}
use Rattle.fb_regions.proofs.Absorption.{absorption, may_absorb, no_mark, no_node, no_region}
use Rattle.fb_regions.proofs.ClockChanges.{kept_settled, read_place_at, settled, small_at, view_settled}
use Rattle.fb_regions.proofs.HeadsKept.{alike_outer, cover_outer}
use Rattle.fb_regions.proofs.regions.Regions.absorb.Goals as goal

pub unreachable-requires : goal.unreachable-requires
unreachable-requires g c =
    let may =
    may_absorb (g.S.Scope.problem c.args.self.now.scope) c.args.self.now.nodes c.args.edge c.step_over-step.result c.requires.below c.requires.tight c.requires.inner c.requires.outer c.requires.real c.step_over-step.ensures in
    no_node _ _ _ c.self.invariant.0 c.args.edge c.step_over-step.result (rw (← c.self.view_is) at may)
    (sym (rw (← c.self.view_is) at c.in_default.ensures))

pub unreachable-requires-in_default-at : goal.unreachable-requires-in_default-at
unreachable-requires-in_default-at g c =
    let may =
    may_absorb (g.S.Scope.problem c.args.self.now.scope) c.args.self.now.nodes c.args.edge c.step_over-step.result c.requires.below c.requires.tight c.requires.inner c.requires.outer c.requires.real c.step_over-step.ensures in
    no_mark _ _ _ c.self.invariant.0 c.args.edge c.step_over-step.result (rw (← c.self.view_is) at may)
    (sym c.in_default-at.ensures)

pub unreachable-requires-in_default-place_of : goal.unreachable-requires-in_default-place_of
unreachable-requires-in_default-place_of g c =
    let may =
    may_absorb (g.S.Scope.problem c.args.self.now.scope) c.args.self.now.nodes c.args.edge c.step_over-step.result c.requires.below c.requires.tight c.requires.inner c.requires.outer c.requires.real c.step_over-step.ensures in
    no_region _ _ _ c.self.invariant.0 c.args.edge c.step_over-step.result (rw (← c.self.view_is) at may) c.in-Some.node
    (sym (rw (← c.self.view_is) at c.in-Some.ensures))
    (read_place_at c.self.inside.clock c.self.inside.regions.items _ _ _ None c.self.invariant.1 c.deref.ensures.value c.in_default-place_of.ensures)

pub settle-requires-clause-top : goal.settle-requires-clause-top
settle-requires-clause-top g c =
    (small_at _ c.self.inside.clock _ _ _ _ c.in-Some.node c.in-Some-place_of.place _ c.self.invariant.0 c.self.invariant.1 c.deref.ensures.value c.in-Some-place_of.ensures c.index_mut-region.ensures.value).top

pub settle-requires-clause-radius : goal.settle-requires-clause-radius
settle-requires-clause-radius g c =
    (small_at _ c.self.inside.clock _ _ _ _ c.in-Some.node c.in-Some-place_of.place _ c.self.invariant.0 c.self.invariant.1 c.deref.ensures.value c.in-Some-place_of.ensures c.index_mut-region.ensures.value).radius

pub overflow_add-taken : goal.overflow_add-taken
overflow_add-taken g c =
    let may =
    may_absorb (g.S.Scope.problem c.args.self.now.scope) c.args.self.now.nodes c.args.edge c.step_over-step.result c.requires.below c.requires.tight c.requires.inner c.requires.outer c.requires.real c.step_over-step.ensures in
    let s =
    settled c.self.inside.clock _ _ _ c.in-Some.node c.in-Some-place_of.place _ (record (now_at c.self.inside.clock c.index_mut-region.result.now) { since = c.self.inside.clock }) c.self.invariant.1 c.self.invariant.2
    c.deref.ensures.value c.in-Some-place_of.ensures c.index_mut-region.ensures.value refl refl refl in
    let is =
    absorption _ _ _ c.self.invariant.0 c.args.edge c.step_over-step.result (rw (← c.self.view_is) at may) c.limits.ensures c.in-Some-at.mark.now c.in-Some.node c.in-Some-place_of.place
    _ (sym c.in-Some-at.ensures)
    (sym (rw (← c.self.view_is) at c.in-Some.ensures))
    s.at s.is_old in
    omega (arith, is.distance)

pub overflow_add-taken-2 : goal.overflow_add-taken-2
overflow_add-taken-2 g c =
    let may =
    may_absorb (g.S.Scope.problem c.args.self.now.scope) c.args.self.now.nodes c.args.edge c.step_over-step.result c.requires.below c.requires.tight c.requires.inner c.requires.outer c.requires.real c.step_over-step.ensures in
    let s =
    settled c.self.inside.clock _ _ _ c.in-Some.node c.in-Some-place_of.place _ (record (now_at c.self.inside.clock c.index_mut-region.result.now) { since = c.self.inside.clock }) c.self.invariant.1 c.self.invariant.2
    c.deref.ensures.value c.in-Some-place_of.ensures c.index_mut-region.ensures.value refl refl refl in
    let is =
    absorption _ _ _ c.self.invariant.0 c.args.edge c.step_over-step.result (rw (← c.self.view_is) at may) c.limits.ensures c.in-Some-at.mark.now c.in-Some.node c.in-Some-place_of.place
    _ (sym c.in-Some-at.ensures)
    (sym (rw (← c.self.view_is) at c.in-Some.ensures))
    s.at s.is_old in
    omega (arith, is.size, ap (λ r. r.base) c.settle.ensures, ap (λ r. r.added) c.settle.ensures)

pub overflow_add-region : goal.overflow_add-region
overflow_add-region g c =
    let may =
    may_absorb (g.S.Scope.problem c.args.self.now.scope) c.args.self.now.nodes c.args.edge c.step_over-step.result c.requires.below c.requires.tight c.requires.inner c.requires.outer c.requires.real c.step_over-step.ensures in
    let s =
    settled c.self.inside.clock _ _ _ c.in-Some.node c.in-Some-place_of.place _ (record (now_at c.self.inside.clock c.index_mut-region.result.now) { since = c.self.inside.clock }) c.self.invariant.1 c.self.invariant.2
    c.deref.ensures.value c.in-Some-place_of.ensures c.index_mut-region.ensures.value refl refl refl in
    let is =
    absorption _ _ _ c.self.invariant.0 c.args.edge c.step_over-step.result (rw (← c.self.view_is) at may) c.limits.ensures c.in-Some-at.mark.now c.in-Some.node c.in-Some-place_of.place
    _ (sym c.in-Some-at.ensures)
    (sym (rw (← c.self.view_is) at c.in-Some.ensures))
    s.at s.is_old in
    omega (arith, is.size, ap (λ r. r.base) c.settle.ensures, ap (λ r. r.added) c.settle.ensures)

pub invariant_of-self : goal.invariant_of-self
invariant_of-self g c =
    let old = now_at c.self.inside.clock c.index_mut-region.result.now in
    let may =
    may_absorb (g.S.Scope.problem c.args.self.now.scope) c.args.self.now.nodes c.args.edge c.step_over-step.result c.requires.below c.requires.tight c.requires.inner c.requires.outer c.requires.real c.step_over-step.ensures in
    let s =
    settled c.self.inside.clock _ _ _ c.in-Some.node c.in-Some-place_of.place _
    (record old { added = old.added + 1; last = c.step_over-step.result.to; top_value = 0; since = c.self.inside.clock }) c.self.invariant.1 c.self.invariant.2
    c.deref.ensures.value c.in-Some-place_of.ensures c.index_mut-region.ensures.value refl refl refl in
    let is =
    absorption _ _ _ c.self.invariant.0 c.args.edge c.step_over-step.result (rw (← c.self.view_is) at may) c.limits.ensures c.in-Some-at.mark.now c.in-Some.node c.in-Some-place_of.place
    _ (sym c.in-Some-at.ensures)
    (sym (rw (← c.self.view_is) at c.in-Some.ensures))
    s.at s.is_old in
    rw (c.put_beside.ensures, c.settle.ensures) (kept_settled _ _ _ _ _ _ _ s _ _ is.kept c.self.invariant.3
    (alike_outer _ _ _ c.self.invariant.0 c.in-Some.node c.in-Some-place_of.place _ _ s.at s.is_old
    (cover_outer (nodes_of c.self.inside.marks (all_at c.self.inside.clock c.self.inside.regions.items)) c.step_over-step.result.from c.in-Some.node (sym (rw (← c.self.view_is) at c.in-Some.ensures))) refl refl refl refl refl) refl)

pub returns : goal.returns
returns g c =
    let old = now_at c.self.inside.clock c.index_mut-region.result.now in
    let may =
    may_absorb (g.S.Scope.problem c.args.self.now.scope) c.args.self.now.nodes c.args.edge c.step_over-step.result c.requires.below c.requires.tight c.requires.inner c.requires.outer c.requires.real c.step_over-step.ensures in
    let s =
    settled c.self.inside.clock _ _ _ c.in-Some.node c.in-Some-place_of.place _
    (record old { added = old.added + 1; last = c.step_over-step.result.to; top_value = 0; since = c.self.inside.clock }) c.self.invariant.1 c.self.invariant.2
    c.deref.ensures.value c.in-Some-place_of.ensures c.index_mut-region.ensures.value refl refl refl in
    let is =
    absorption _ _ _ c.self.invariant.0 c.args.edge c.step_over-step.result (rw (← c.self.view_is) at may) c.limits.ensures c.in-Some-at.mark.now c.in-Some.node c.in-Some-place_of.place
    _ (sym c.in-Some-at.ensures)
    (sym (rw (← c.self.view_is) at c.in-Some.ensures))
    s.at s.is_old in
    rw (← c.self.view_is, c.put_beside.ensures, c.settle.ensures) (view_settled _ _ _ _ _ _ _ s _ _ _ is.change)
