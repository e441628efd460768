use Rattle.std.proofs.Common.{◌≡◌, not, drop}
use Rattle.std.specs.List.{find}
use Rattle.fb_graph.specs.Parity.{is_in}
use Rattle.fb_verify.proofs.parities.first_real.Given as goal

abbrev pub invariant-loop-vertex : goal.invariant-loop-vertex
invariant-loop-vertex l =
    find (λ v. not (is_in l.graph.virtuals v)) l.vertices
    ≡ find (λ v. not (is_in l.graph.virtuals v)) (drop l.vertex-index l.vertices)
