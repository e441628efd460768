use Rattle.std.proofs.Common.{sym, ap, ◌∙◌, arith}
use Rattle.fb_regions.specs.InternalClock.{all_at}
use Rattle.fb_regions.specs.InternalNodes.{radii_from}
use Rattle.fb_regions.proofs.ClockReadings.{climb_seen, joined_from}
use Rattle.fb_regions.proofs.HeadsKept.{leaf_at, marked_leaf}
use Rattle.fb_regions.proofs.Indexed.{joined_above}
use Rattle.fb_regions.proofs.Readings.{held_by, held_by_none, radii_fit}
use Rattle.fb_regions.proofs.regions.Regions.holder.Goals as goal

pub returns-in_err-mark : goal.returns-in_err-mark
returns-in_err-mark g c =
    rw (← c.self.view_is, c.from_residual.ensures) (held_by_none _ _ _ c.self.invariant.0 c.args.v (sym c.in_err-mark.ensures))

pub climb_from-climb-requires-clause-joined : goal.climb_from-climb-requires-clause-joined
climb_from-climb-requires-clause-joined g c =
    rw c.deref-2.ensures.value (joined_from c.self.inside.clock c.self.inside.regions.items (joined_above _ _ _ c.self.invariant.0))

pub climb_from-climb-requires-clause-begun : goal.climb_from-climb-requires-clause-begun
climb_from-climb-requires-clause-begun g c = rw c.deref-2.ensures.value c.self.invariant.2

pub climb_from-climb-requires-clause-fits : goal.climb_from-climb-requires-clause-fits
climb_from-climb-requires-clause-fits g c =
    let fits = radii_fit _ _ _ c.self.invariant.0 c.in_ok-mark.mark.now.leaf in
    omega (arith, fits, ap (λ l. radii_from (all_at c.self.inside.clock l) c.in_ok-mark.mark.now.leaf) c.deref-2.ensures.value)

pub climb_from-climb-requires-clause-leaf : goal.climb_from-climb-requires-clause-leaf
climb_from-climb-requires-clause-leaf g c =
    rw c.deref-2.ensures.value
    (sym (leaf_at c.self.inside.clock c.self.inside.regions.items c.in_ok-mark.mark.now.leaf)
    ∙ marked_leaf _ _ _ c.self.invariant.0 c.args.v c.in_ok-mark.mark.now (sym c.in_ok-mark.ensures))

pub overflow_sub-result : goal.overflow_sub-result
overflow_sub-result g c =
    (held_by _ _ _ c.self.invariant.0 c.args.v c.in_ok-mark.mark.now c.climb_from-climb.result (sym c.in_ok-mark.ensures)
    (climb_seen c.self.inside.clock c.self.inside.regions.items _ c.in_ok-mark.mark.now.leaf _ c.deref-2.ensures.value c.climb_from-climb.ensures)).0

pub returns : goal.returns
returns g c =
    rw (← c.self.view_is)
    (held_by _ _ _ c.self.invariant.0 c.args.v c.in_ok-mark.mark.now c.climb_from-climb.result (sym c.in_ok-mark.ensures)
    (climb_seen c.self.inside.clock c.self.inside.regions.items _ c.in_ok-mark.mark.now.leaf _ c.deref-2.ensures.value c.climb_from-climb.ensures)).1
