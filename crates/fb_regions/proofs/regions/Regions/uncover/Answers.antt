use Rattle.std.proofs.Common.{◌≡◌, ◌-◌, arith, refl, ap, sym, ◌∙◌, Some, None}
use Rattle.fb_regions.specs.InternalClock.{all_at, now_at}
use Rattle.fb_regions.specs.InternalNodes.{mark_of}
use Rattle.fb_regions.proofs.ClockChanges.{kept_settled, read_place_at, settled, small_at, view_settled}
use Rattle.fb_regions.proofs.Found.{always_found}
use Rattle.fb_regions.proofs.HeadsKept.{alike_outer}
use Rattle.fb_regions.proofs.Lowered.{kept_lowered, last_marked, lowered_nodes, some_added}
use Rattle.fb_regions.proofs.regions.Regions.uncover.Goals as goal

pub unreachable-requires : goal.unreachable-requires
unreachable-requires g c =
    let may = rw (← c.self.view_is) at c.requires in
    absurd (always_found c.self.inside.marks (all_at c.self.inside.clock c.self.inside.regions.items) c.args.node may.live
    (read_place_at c.self.inside.clock c.self.inside.regions.items _ _ c.args.node None c.self.invariant.1 c.deref.ensures.value c.in_default.ensures))

pub settle-requires-clause-top : goal.settle-requires-clause-top
settle-requires-clause-top g c =
    (small_at _ c.self.inside.clock _ _ _ _ c.args.node c.in-Some.place _ c.self.invariant.0 c.self.invariant.1 c.deref.ensures.value c.in-Some.ensures c.index_mut-region.ensures.value).top

pub settle-requires-clause-radius : goal.settle-requires-clause-radius
settle-requires-clause-radius g c =
    (small_at _ c.self.inside.clock _ _ _ _ c.args.node c.in-Some.place _ c.self.invariant.0 c.self.invariant.1 c.deref.ensures.value c.in-Some.ensures c.index_mut-region.ensures.value).radius

pub unreachable-requires-in_default-at : goal.unreachable-requires-in_default-at
unreachable-requires-in_default-at g c =
    let s =
    settled c.self.inside.clock _ _ _ c.args.node c.in-Some.place _ (record (now_at c.self.inside.clock c.index_mut-region.result.now) { since = c.self.inside.clock }) c.self.invariant.1 c.self.invariant.2
    c.deref.ensures.value c.in-Some.ensures c.index_mut-region.ensures.value refl refl refl in
    let is = last_marked _ _ _ c.self.invariant.0 c.args.node c.in-Some.place _ s.at s.is_old (rw (← c.self.view_is) at c.requires) in
    let none : mark_of c.self.inside.marks c.index_mut-region.result.now.last ≡ None =
    sym (rw c.settle.ensures at c.in_default-at.ensures) in
    let clash : None ≡ Some is.0 = sym none ∙ is.1 in
    cc

pub overflow_sub-region : goal.overflow_sub-region
overflow_sub-region g c =
    let s =
    settled c.self.inside.clock _ _ _ c.args.node c.in-Some.place _ (record (now_at c.self.inside.clock c.index_mut-region.result.now) { since = c.self.inside.clock }) c.self.invariant.1 c.self.invariant.2
    c.deref.ensures.value c.in-Some.ensures c.index_mut-region.ensures.value refl refl refl in
    omega (
      arith,
      some_added _ _ _ c.self.invariant.0 c.args.node c.in-Some.place _ s.at s.is_old (rw (← c.self.view_is) at c.requires),
      ap (λ r. r.added) c.settle.ensures,
    )

pub invariant_of-self : goal.invariant_of-self
invariant_of-self g c =
    let old = now_at c.self.inside.clock c.index_mut-region.result.now in
    let s =
    settled c.self.inside.clock _ _ _ c.args.node c.in-Some.place _
    (record old { added = old.added - 1; last = c.in-Some-at.mark.now.before; top_value = c.in-Some-at.mark.now.under; since = c.self.inside.clock }) c.self.invariant.1 c.self.invariant.2
    c.deref.ensures.value c.in-Some.ensures c.index_mut-region.ensures.value refl refl refl in
    rw (c.take.ensures, c.settle.ensures) (kept_settled _ _ _ _ _ _ _ s _ _
    (kept_lowered _ _ _ c.self.invariant.0 c.args.node c.in-Some.place _ s.at s.is_old (rw (← c.self.view_is) at c.requires) c.in-Some-at.mark.now
    (sym (rw c.settle.ensures at c.in-Some-at.ensures))) c.self.invariant.3
    (alike_outer _ _ _ c.self.invariant.0 c.args.node c.in-Some.place _ _ s.at s.is_old (let may = rw (← c.self.view_is) at c.requires in may.outer) refl refl refl refl refl) refl)

pub returns : goal.returns
returns g c =
    let old = now_at c.self.inside.clock c.index_mut-region.result.now in
    let s =
    settled c.self.inside.clock _ _ _ c.args.node c.in-Some.place _
    (record old { added = old.added - 1; last = c.in-Some-at.mark.now.before; top_value = c.in-Some-at.mark.now.under; since = c.self.inside.clock }) c.self.invariant.1 c.self.invariant.2
    c.deref.ensures.value c.in-Some.ensures c.index_mut-region.ensures.value refl refl refl in
    rw (← c.self.view_is, c.take.ensures, c.settle.ensures) (view_settled _ _ _ _ _ _ _ s _ _ _
    (lowered_nodes _ _ _ c.self.invariant.0 c.args.node c.in-Some.place _ s.at s.is_old (rw (← c.self.view_is) at c.requires) c.in-Some-at.mark.now
    (sym (rw c.settle.ensures at c.in-Some-at.ensures))))
