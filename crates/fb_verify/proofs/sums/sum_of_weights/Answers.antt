use mir.Syntax.{w128}
use Rattle.std.proofs.Common.{◌≡◌, ◌+◌, to_z, ℤ, ◌+ℤ◌, drop, get_or, arith}
use Rattle.std.proofs.lemmas.Int.{ints}
use Rattle.std.proofs.lemmas.List.{at_drop_more}
use Rattle.fb_graph.specs.Limits.{signed_weight}
use Rattle.fb_graph.specs.ShotGraphs.{shot_graph}
use Rattle.fb_graph.specs.Signs.{signed_weight_of}
use Rattle.fb_verify.proofs.sums.sum_of_weights.Goals as goal

one_more : (all total weight rest later : ℤ) → all ≡ total +ℤ rest → rest ≡ weight +ℤ later → all ≡ (total +ℤ weight) +ℤ later
one_more all total weight rest later e f = omega (arith, ints)

pub loop-edge-preserved : goal.loop-edge-preserved
loop-edge-preserved c =
    let g = c.args.graph.now in
    let shot = c.args.shot.now in
    let edges = c.args.edges.now in
    let i = c.loop-edge.edge-index in
    let more = at_drop_more (signed_weight_of g shot) edges i 0 c.loop-edge-test.true in
    let all = one_more (signed_weight_of g shot edges) (to_z w128 c.loop-edge.total-bits) (signed_weight (shot_graph g shot) (get_or edges i 0))
    (signed_weight_of g shot (drop i edges)) (signed_weight_of g shot (drop (i + 1) edges)) c.loop-edge.invariant.0 more in (
      omega (arith, ints, all, c.weight.ensures),
      omega (arith, ints),
      omega (arith, ints),
    )
