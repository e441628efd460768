use Rattle.std.proofs.Common.{◌≡◌, drop}
use Rattle.std.specs.List.{find}
use Rattle.fb_graph.specs.Parity.{is_in}
use Rattle.fb_verify.proofs.parities.first_virtual.Given as goal

abbrev pub invariant-loop-vertex : goal.invariant-loop-vertex
invariant-loop-vertex l =
    find (is_in l.graph.virtuals) l.vertices ≡ find (is_in l.graph.virtuals) (drop l.vertex-index l.vertices)
