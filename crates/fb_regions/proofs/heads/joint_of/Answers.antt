use Rattle.std.proofs.Common.{◌≡◌, Some, true, sym, ap, subst}
use Rattle.fb_graph.proofs.Among.{All_among}
use Rattle.fb_graph.specs.Parity.{is_in}
use Rattle.fb_regions.specs.declared.region.Region.{Region}
use Rattle.fb_regions.specs.InternalHeads.{IsInTime}
use Rattle.fb_regions.specs.InternalListings.{region_named}
use Rattle.fb_regions.proofs.HeadClimbs.{named_among, named_listed}
use Rattle.fb_regions.proofs.heads.joint_of.Goals as goal
use Rattle.fb_regions.proofs.heads.joint_of.Goals.{then-region-core, else-region-core}

pub loop-child-init : goal.loop-child-init
loop-child-init c = named_listed c.args.regions.now c.args.children.now 0 _ c.requires.some c.region_of-core.ensures

pub loop-child-preserved : goal.loop-child-preserved
loop-child-preserved c =
    let P : Region → Type 0 = λ r. (is_in c.args.children.now r.name ≡ true) × (region_named c.args.regions.now r.name ≡ Some r) in
    elim c.if-region-core.branch [
      | then-region-core w ↦
          subst P (sym (ap (λ b. b.now) w.core-is))
          (named_listed c.args.regions.now c.args.children.now c.loop-child.child-index _ c.loop-child-test.true c.region_of-region.ensures)
      | else-region-core w ↦ subst P (sym (ap (λ b. b.now) w.core-is)) c.loop-child.invariant
    ]

pub depth-requires-clause-begun : goal.depth-requires-clause-begun
depth-requires-clause-begun c =
    (All_among (IsInTime c.args.clock) c.args.regions.now c.requires.time _
    (named_among c.args.regions.now c.loop-child.core.now.name _ c.loop-child.invariant.1)).begun

pub depth-requires-clause-fits : goal.depth-requires-clause-fits
depth-requires-clause-fits c =
    (All_among (IsInTime c.args.clock) c.args.regions.now c.requires.time _
    (named_among c.args.regions.now c.loop-child.core.now.name _ c.loop-child.invariant.1)).fits
