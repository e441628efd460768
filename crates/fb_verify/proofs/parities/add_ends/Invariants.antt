use Rattle.std.proofs.Common.{◌≡◌, ◌++◌, drop}
use Rattle.fb_verify.specs.InternalMarks.{ends_of}
use Rattle.fb_verify.proofs.parities.add_ends.Given as goal

abbrev pub invariant-loop-edge : goal.invariant-loop-edge
invariant-loop-edge l =
    l.initial.ends.items ++ ends_of l.graph.edges l.edges
    ≡ l.ends.items ++ ends_of l.graph.edges (drop l.edge-index l.edges)
