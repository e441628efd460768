use Rattle.std.proofs.Common.{arith, sym}
use Rattle.fb_regions.specs.InternalClock.{now_at}
use Rattle.fb_regions.proofs.ClockFound.{always_placed, found_at}
use Rattle.fb_regions.proofs.Found.{length-layers}
use Rattle.fb_regions.proofs.Readings.{length-top, sized}
use Rattle.fb_regions.proofs.regions.Regions.layer_count.Goals as goal

pub unreachable-requires : goal.unreachable-requires
unreachable-requires g c =
    absurd (always_placed c.self.inside.clock c.self.inside.marks c.self.inside.regions.items _ _ c.args.node (rw (← c.self.view_is) at c.requires) c.self.invariant.1
    c.deref.ensures.value c.in_default.ensures)

pub returns : goal.returns
returns g c =
    let at = found_at c.self.inside.clock c.self.inside.marks c.self.inside.regions.items _ _ c.args.node c.in-Some.place _ c.self.invariant.1 c.deref.ensures.value
    c.in-Some.ensures c.index.ensures in
    rw (← c.self.view_is, ← at.layers) (sym (length-layers c.self.inside.marks (now_at c.self.inside.clock c.index.result.now)))

pub overflow_add-result : goal.overflow_add-result
overflow_add-result g c =
    let at = found_at c.self.inside.clock c.self.inside.marks c.self.inside.regions.items _ _ c.args.node c.in-Some.place _ c.self.invariant.1 c.deref.ensures.value
    c.in-Some.ensures c.index.ensures in
    let r = now_at c.self.inside.clock c.index.result.now in
    omega (
      arith,
      sized _ _ _ c.self.invariant.0 c.limits.ensures r at.among,
      length-top c.self.inside.marks r,
      c.limits.ensures.vertices,
    )
