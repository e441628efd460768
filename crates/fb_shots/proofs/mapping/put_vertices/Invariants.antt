use Rattle.std.proofs.Common.{◌≡◌, ◌++◌, map, take, drop, get_or}
use Rattle.fb_shots.proofs.mapping.put_vertices.Given as goal
use Rattle.fb_graph.specs.Limits.{detectors_of}

abbrev pub invariant-loop-detector : goal.invariant-loop-detector
invariant-loop-detector l =
    l.detectors
    ≡ map (λ k. get_or (detectors_of l.graph) k 0) (take l.detector-index l.initial.detectors) ++ drop l.detector-index l.initial.detectors
