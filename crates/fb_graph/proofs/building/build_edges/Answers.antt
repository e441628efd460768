use Rattle.std.proofs.Common.{◌<◌, ◌∙◌, pos, length, sym, arith}
use Rattle.std.proofs.lemmas.Grind.{common_steps}
use Rattle.std.proofs.lemmas.List.{map_more}
use Rattle.std.proofs.lemmas.List.Elements.{All-push}
use Rattle.std.proofs.lemmas.Result.{IfOk-from_err, err_from_is_err_and}
use Rattle.fb_graph.specs.GraphRules.{edge_from}
use Rattle.fb_graph.specs.Limits.{IsEdge}
use Rattle.fb_graph.proofs.BuildSteps.{edges_fault_more, edges_fault_stops}
use Rattle.fb_graph.proofs.building.build_edges.Goals as goal

pub returns-in_err-edge-clause-good : goal.returns-in_err-edge-clause-good
returns-in_err-edge-clause-good c = IfOk-from_err _ _ c.from_residual.ensures.0

pub returns-in_err-edge-clause-items : goal.returns-in_err-edge-clause-items
returns-in_err-edge-clause-items c = IfOk-from_err _ _ c.from_residual.ensures.0

pub returns-in_err-edge-clause-each : goal.returns-in_err-edge-clause-each
returns-in_err-edge-clause-each c = IfOk-from_err _ _ c.from_residual.ensures.0

pub returns-in_err-edge-clause-err : goal.returns-in_err-edge-clause-err
returns-in_err-edge-clause-err c =
    let exit = err_from_is_err_and c.from_residual.result c.from_residual.ensures.1 in
    rw (exit.1, exit.2) (λ _. c.loop-i.invariant.0 ∙ edges_fault_stops _ _ _ (0, 0, pos 0) _ c.loop-i-test.true c.in_err-edge.ensures.err)

pub returns-in_err-push-clause-good : goal.returns-in_err-push-clause-good
returns-in_err-push-clause-good c = IfOk-from_err _ _ c.from_residual-in_err-push.ensures.0

pub returns-in_err-push-clause-items : goal.returns-in_err-push-clause-items
returns-in_err-push-clause-items c = IfOk-from_err _ _ c.from_residual-in_err-push.ensures.0

pub returns-in_err-push-clause-each : goal.returns-in_err-push-clause-each
returns-in_err-push-clause-each c = IfOk-from_err _ _ c.from_residual-in_err-push.ensures.0

pub returns-in_err-push-clause-err : goal.returns-in_err-push-clause-err
returns-in_err-push-clause-err c =
    let exit = err_from_is_err_and c.from_residual-in_err-push.result c.from_residual-in_err-push.ensures.1 in
    rw exit.1 (λ other. absurd (other exit.2))

pub loop-i-preserved : goal.loop-i-preserved
loop-i-preserved c =
    let below : c.loop-i.i < length c.args.edges.now = c.loop-i-test.true in (
      c.loop-i.invariant.0 ∙ edges_fault_more _ _ _ (0, 0, pos 0) below c.in_ok-edge.ensures.good,
      c.in_ok-push.ensures.items
          ∙ rw (c.loop-i.invariant.1, c.in_ok-edge.ensures.value) (sym (map_more edge_from _ _ (0, 0, pos 0) below)),
      rw c.in_ok-push.ensures.items (All-push (IsEdge c.args.n) _ _ c.loop-i.invariant.2 c.in_ok-edge.ensures.each),
    )

pub returns-clause-good : goal.returns-clause-good
returns-clause-good c = grind (arith, common_steps)

pub returns-clause-items : goal.returns-clause-items
returns-clause-items c = grind (arith, common_steps)
