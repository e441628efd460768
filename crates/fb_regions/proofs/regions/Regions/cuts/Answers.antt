use Rattle.std.proofs.Common.{arith}
use Rattle.std.proofs.lemmas.Grind.{common_steps}
use Rattle.fb_regions.proofs.ClockFound.{fits_at, radius_at_time}
use Rattle.fb_regions.proofs.Found.{among_at}
use Rattle.fb_regions.proofs.regions.Regions.cuts.Goals as goal

pub put_cuts-requires-clause-top : goal.put_cuts-requires-clause-top
put_cuts-requires-clause-top g c =
    (fits_at _ c.self.inside.clock c.self.inside.regions.items _ c.self.invariant.0 c.region-item.result
    (among_at c.self.inside.marks c.self.inside.regions.items c.loop-region.region-index c.region-item.result (rw c.deref-region-items.ensures.value at c.loop-region-test.true) (rw c.deref-region-items.ensures.value at c.region-item.is))).top

pub put_cuts-requires-clause-fits : goal.put_cuts-requires-clause-fits
put_cuts-requires-clause-fits g c =
    (fits_at _ c.self.inside.clock c.self.inside.regions.items _ c.self.invariant.0 c.region-item.result
    (among_at c.self.inside.marks c.self.inside.regions.items c.loop-region.region-index c.region-item.result (rw c.deref-region-items.ensures.value at c.loop-region-test.true) (rw c.deref-region-items.ensures.value at c.region-item.is))).radius

pub put_cuts-requires-clause-radius : goal.put_cuts-requires-clause-radius
put_cuts-requires-clause-radius g c =
    radius_at_time _ c.self.inside.clock c.self.inside.regions.items _ c.self.invariant.0 c.region-item.result
    (among_at c.self.inside.marks c.self.inside.regions.items c.loop-region.region-index c.region-item.result (rw c.deref-region-items.ensures.value at c.loop-region-test.true) (rw c.deref-region-items.ensures.value at c.region-item.is))

pub loop-region-preserved : goal.loop-region-preserved
loop-region-preserved g c = grind (arith, common_steps)

pub returns : goal.returns
returns g c = grind (arith, common_steps)
