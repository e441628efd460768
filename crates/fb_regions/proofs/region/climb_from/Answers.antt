use Rattle.std.proofs.Common.{◌+◌, ◌%◌, ◌^◌, Some, ap, ◌∙◌}
use Rattle.fb_graph.proofs.Among.{All_among}
use Rattle.fb_regions.specs.InternalClock.{HasBegun}
use Rattle.fb_regions.proofs.HeadClimbs.{named_among, way_begins, way_ends, way_goes_on}
use Rattle.fb_regions.proofs.region.climb_from.Goals as goal

pub loop-region-init : goal.loop-region-init
loop-region-init c = way_begins c.args.clock c.args.regions.now c.args.leaf _ c.requires.leaf c.region_of-region.ensures

pub region_of-region-requires-in-Some-clause-known : goal.region_of-region-requires-in-Some-clause-known
region_of-region-requires-in-Some-clause-known c =
    (way_goes_on _ _ _ _ _ c.requires.joined c.requires.heads c.loop-region.invariant c.in-Some.beside c.in-Some.is).known

pub loop-region-smaller : goal.loop-region-smaller
loop-region-smaller c =
    (way_goes_on _ _ _ _ _ c.requires.joined c.requires.heads c.loop-region.invariant c.in-Some.beside c.in-Some.is).later _
    c.region_of-region-in-Some.ensures

pub loop-region-preserved : goal.loop-region-preserved
loop-region-preserved c =
    (way_goes_on _ _ _ _ _ c.requires.joined c.requires.heads c.loop-region.invariant c.in-Some.beside c.in-Some.is).on _
    c.region_of-region-in-Some.ensures

pub region_of-outer-requires-clause-known : goal.region_of-outer-requires-clause-known
region_of-outer-requires-clause-known c =
    (way_ends _ _ _ _ _ c.requires.joined c.requires.heads c.loop-region.invariant c.in_default.is).known

pub depth-requires-clause-begun : goal.depth-requires-clause-begun
depth-requires-clause-begun c =
    All_among (HasBegun c.args.clock) c.args.regions.now c.requires.begun _
    (named_among c.args.regions.now c.loop-region.region.now.link.top _ c.region_of-outer.ensures)

pub depth-requires-clause-fits : goal.depth-requires-clause-fits
depth-requires-clause-fits c =
    (way_ends _ _ _ _ _ c.requires.joined c.requires.heads c.loop-region.invariant c.in_default.is).fits c.requires.leaf c.requires.fits _
    c.region_of-outer.ensures

pub returns : goal.returns
returns c =
    ap (λ n. Some (record { root = c.loop-region.region.now.link.top; radii = (c.loop-region.radii + n) % 2 ^ 64 })) c.depth.ensures
    ∙ (way_ends _ _ _ _ _ c.requires.joined c.requires.heads c.loop-region.invariant c.in_default.is).climb c.requires.fits _
    c.region_of-outer.ensures
