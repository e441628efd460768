use Rattle.std.proofs.Common.{◌==◌, sym, ap, ◌∙◌, Some, if◌then◌else◌}
use Rattle.fb_regions.specs.InternalPlaces.{place_in}
use Rattle.fb_regions.specs.declared.region.Region.{Region}
use Rattle.fb_regions.proofs.Indexed.{index_entered}
use Rattle.fb_regions.proofs.places.enter_from.Goals as goal

pub loop-i-preserved : goal.loop-i-preserved
loop-i-preserved c = (
  index_entered c.args.regions.now c.loop-i.places.items c.set_place.new.places.items c.loop-i.i c.index-regions-i.result c.requires.distinct
      c.index-regions-i.is c.loop-i-test.true c.loop-i.invariant.0
      (λ k.
      c.set_place.ensures.entries k
      ∙ ap (λ (r : Region). if r.name == k then Some c.loop-i.i else place_in c.loop-i.places.items k) (sym c.index-regions-i.is)),
  c.set_place.ensures.count ∙ c.loop-i.invariant.1,
)
