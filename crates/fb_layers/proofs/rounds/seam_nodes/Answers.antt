use Rattle.std.proofs.Common.{arith}
use Rattle.fb_layers.proofs.Layering.{seam_within, seams_step}
use Rattle.fb_layers.proofs.rounds.seam_nodes.Goals as goal

pub index_mut-requires : goal.index_mut-requires
index_mut-requires c =
    omega (
      arith,
      c.loop-i.invariant.0,
      seam_within c.args.units c.loop-i.i c.args.fusions.now c.requires.some c.requires.limit c.requires.fusions (omega arith),
    )

pub loop-i-preserved : goal.loop-i-preserved
loop-i-preserved c =
    seams_step c.args.units c.loop-i.i c.args.fusions.now c.loop-i.nodes.items c.requires.some c.requires.limit
    c.requires.fusions (omega arith) c.loop-i.invariant.0 c.loop-i.invariant.1
