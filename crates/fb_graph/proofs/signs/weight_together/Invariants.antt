use Rattle.std.proofs.Common.{◌≡◌, ◌*◌, ◌≤◌, take, sum_by}
use Rattle.fb_graph.specs.Limits.{most_weight}
use Rattle.fb_graph.specs.Problem.{edge_at}
use Rattle.fb_graph.proofs.signs.weight_together.Given as goal

abbrev pub invariant-loop-k : goal.invariant-loop-k
invariant-loop-k l =
    (l.total ≡ sum_by (λ k. (edge_at l.edges k).weight) (take l.k-index l.listed)) × (l.total ≤ l.k-index * most_weight)
