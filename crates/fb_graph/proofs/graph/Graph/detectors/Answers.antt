use Rattle.std.proofs.Common.{◌≤◌, length, arith}
use Rattle.fb_graph.proofs.Ranges.{length-filter-range}
use Rattle.fb_graph.proofs.graph.Graph.detectors.Goals as goal

pub overflow_cast-result : goal.overflow_cast-result
overflow_cast-result c =
    let few : length c.as_slice.result.now ≤ c.self.inside.vertices =
    rw (c.as_slice.ensures, c.self.invariant.each_detector) (length-filter-range _ c.self.inside.vertices) in
    record { fits = omega (arith, few, c.self.invariant.graph.vertices) }
