use Rattle.std.proofs.Common.{◌≡◌, length, arith}
use Rattle.std.proofs.lemmas.Result.{IfOk-from_err}
use Rattle.fb_graph.proofs.building.edges_by_vertex.Goals as goal

pub returns-in_err-put_edge-clause-len : goal.returns-in_err-put_edge-clause-len
returns-in_err-put_edge-clause-len c = IfOk-from_err _ _ c.from_residual-in_err-put_edge.ensures.0

pub returns-in_err-put_edge-clause-each : goal.returns-in_err-put_edge-clause-each
returns-in_err-put_edge-clause-each c = IfOk-from_err _ _ c.from_residual-in_err-put_edge.ensures.0

pub returns-clause-each : goal.returns-clause-each
returns-clause-each c =
    let all : c.loop-k.k ≡ length c.args.edges.now = omega arith in
    rw all at c.loop-k.invariant.1
