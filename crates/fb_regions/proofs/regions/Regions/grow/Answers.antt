use Rattle.std.proofs.Common.{◌+◌, arith, refl, ap, None}
use Rattle.fb_regions.specs.InternalClock.{all_at, now_at}
use Rattle.fb_regions.proofs.ClockChanges.{kept_settled, read_place_at, settled, small_at, view_settled}
use Rattle.fb_regions.proofs.Found.{not_found}
use Rattle.fb_regions.proofs.HeadsKept.{alike_outer}
use Rattle.fb_regions.proofs.Turned.{growth}
use Rattle.fb_regions.proofs.regions.Regions.grow.Goals as goal

pub unreachable-requires : goal.unreachable-requires
unreachable-requires g c =
    let live = rw (← c.self.view_is) at c.requires.live in
    let gone =
    not_found c.self.inside.marks (all_at c.self.inside.clock c.self.inside.regions.items) c.args.node (read_place_at c.self.inside.clock c.self.inside.regions.items _ _ c.args.node None c.self.invariant.1 c.deref.ensures.value c.in_default.ensures) in
    cc

pub settle-requires-clause-top : goal.settle-requires-clause-top
settle-requires-clause-top g c =
    (small_at _ c.self.inside.clock _ _ _ _ c.args.node c.in-Some.place _ c.self.invariant.0 c.self.invariant.1 c.deref.ensures.value c.in-Some.ensures c.index_mut-region.ensures.value).top

pub settle-requires-clause-radius : goal.settle-requires-clause-radius
settle-requires-clause-radius g c =
    (small_at _ c.self.inside.clock _ _ _ _ c.args.node c.in-Some.place _ c.self.invariant.0 c.self.invariant.1 c.deref.ensures.value c.in-Some.ensures c.index_mut-region.ensures.value).radius

pub overflow_add-region : goal.overflow_add-region
overflow_add-region g c =
    let s =
    settled c.self.inside.clock _ _ _ c.args.node c.in-Some.place _ (record (now_at c.self.inside.clock c.index_mut-region.result.now) { since = c.self.inside.clock }) c.self.invariant.1 c.self.invariant.2
    c.deref.ensures.value c.in-Some.ensures c.index_mut-region.ensures.value refl refl refl in
    let is =
    growth _ _ _ c.self.invariant.0 c.limits.ensures c.args.node c.args.k c.in-Some.place _ s.at s.is_old
    (rw (← c.self.view_is) at c.requires.outer) (rw (← c.self.view_is) at c.requires.leaves) (rw (← c.self.view_is) at c.requires.room) in
    omega (arith, is.value, is.radius, ap (λ r. r.top_value) c.settle.ensures)

pub overflow_add-region-2 : goal.overflow_add-region-2
overflow_add-region-2 g c =
    let s =
    settled c.self.inside.clock _ _ _ c.args.node c.in-Some.place _ (record (now_at c.self.inside.clock c.index_mut-region.result.now) { since = c.self.inside.clock }) c.self.invariant.1 c.self.invariant.2
    c.deref.ensures.value c.in-Some.ensures c.index_mut-region.ensures.value refl refl refl in
    let is =
    growth _ _ _ c.self.invariant.0 c.limits.ensures c.args.node c.args.k c.in-Some.place _ s.at s.is_old
    (rw (← c.self.view_is) at c.requires.outer) (rw (← c.self.view_is) at c.requires.leaves) (rw (← c.self.view_is) at c.requires.room) in
    omega (arith, is.radius, ap (λ r. r.radius) c.settle.ensures)

pub invariant_of-self : goal.invariant_of-self
invariant_of-self g c =
    let old = now_at c.self.inside.clock c.index_mut-region.result.now in
    let s =
    settled c.self.inside.clock _ _ _ c.args.node c.in-Some.place _ (record old { top_value = old.top_value + c.args.k; radius = old.radius + c.args.k; since = c.self.inside.clock }) c.self.invariant.1 c.self.invariant.2
    c.deref.ensures.value c.in-Some.ensures c.index_mut-region.ensures.value refl refl refl in
    rw c.settle.ensures (kept_settled _ _ _ _ _ _ _ s _ _
    (growth _ _ _ c.self.invariant.0 c.limits.ensures c.args.node c.args.k c.in-Some.place _ s.at s.is_old
    (rw (← c.self.view_is) at c.requires.outer) (rw (← c.self.view_is) at c.requires.leaves) (rw (← c.self.view_is) at c.requires.room)).kept c.self.invariant.3
    (alike_outer _ _ _ c.self.invariant.0 c.args.node c.in-Some.place _ _ s.at s.is_old (rw (← c.self.view_is) at c.requires.outer) refl refl refl refl refl) refl)

pub returns : goal.returns
returns g c =
    let old = now_at c.self.inside.clock c.index_mut-region.result.now in
    let s =
    settled c.self.inside.clock _ _ _ c.args.node c.in-Some.place _ (record old { top_value = old.top_value + c.args.k; radius = old.radius + c.args.k; since = c.self.inside.clock }) c.self.invariant.1 c.self.invariant.2
    c.deref.ensures.value c.in-Some.ensures c.index_mut-region.ensures.value refl refl refl in
    let is =
    growth _ _ _ c.self.invariant.0 c.limits.ensures c.args.node c.args.k c.in-Some.place _ s.at s.is_old
    (rw (← c.self.view_is) at c.requires.outer) (rw (← c.self.view_is) at c.requires.leaves) (rw (← c.self.view_is) at c.requires.room) in
    rw (← c.self.view_is, c.settle.ensures) (view_settled _ _ _ _ _ _ _ s _ _ _ is.change)
