use Rattle.std.proofs.Common.{◌&&◌, ◌∙◌, ltb, get_or, sym, arith}
use Rattle.fb_graph.specs.Limits.{is_real_in}
use Rattle.fb_graph.proofs.Leasts.{least_none, least_some}
use Rattle.fb_plan.proofs.judging.first_twice.Goals as goal

pub returns-then-is_owned_twice : goal.returns-then-is_owned_twice
returns-then-is_owned_twice c =
    sym (least_some c.args.graph.now.vertices c.loop-v.v (λ v. is_real_in c.args.graph.now v && ltb 1 (get_or c.args.counts.now v 0))
    (omega (arith, c.loop-v-test.true, c.vertices-v-end.ensures)) c.loop-v.invariant
    (sym c.is_owned_twice.ensures ∙ c.if-is_owned_twice.true))

pub returns : goal.returns
returns c =
    sym (least_none c.args.graph.now.vertices (λ v. is_real_in c.args.graph.now v && ltb 1 (get_or c.args.counts.now v 0))
    (λ k less. c.loop-v.invariant k (omega (arith, less, c.loop-v-test.false, c.vertices-v-end.ensures))))
