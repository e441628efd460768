use Rattle.std.proofs.Common.{None, arith}
use Rattle.fb_layers.proofs.Heights.{height_more}
use Rattle.fb_layers.proofs.depths.Layers.height.Goals as goal
use Rattle.fb_layers.proofs.depths.Layers.height.Goals.{then-height-depth, else-height-depth}

pub loop-layer-preserved : goal.loop-layer-preserved
loop-layer-preserved c =
    elim c.if-height-depth.branch [
      | then-height-depth w ↦
          omega (
            arith,
            c.depth_of-depth.ensures,
            c.loop-layer.invariant,
            height_more c.deref-layer-items.result.now c.loop-layer.layer-index None (omega arith),
          )
      | else-height-depth w ↦
          omega (
            arith,
            c.depth_of-depth.ensures,
            c.loop-layer.invariant,
            height_more c.deref-layer-items.result.now c.loop-layer.layer-index None (omega arith),
          )
    ]
