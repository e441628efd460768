use Rattle.std.proofs.Common.{◌<◌, ◌∙◌, ap, length, sym, arith}
use Rattle.fb_graph.specs.Problem.{edge_at, no_edge}
use Rattle.fb_plan.specs.Plans.{are_unrelated, goes_across, owner_of}
use Rattle.fb_graph.proofs.Leasts.{least_none, least_some}
use Rattle.fb_plan.proofs.judging.first_across.Goals as goal

pub is_across-requires-clause-first : goal.is_across-requires-clause-first
is_across-requires-clause-first c =
    let low : (edge_at c.args.graph.now.edges c.loop-e.e).first < c.args.graph.now.vertices = (c.limits.ensures.each_edge c.loop-e.e no_edge (omega arith)).first in
    omega (arith, c.ends-first.ensures.first, low, c.requires)

pub is_across-requires-clause-second : goal.is_across-requires-clause-second
is_across-requires-clause-second c =
    let low : (edge_at c.args.graph.now.edges c.loop-e.e).second < c.args.graph.now.vertices = (c.limits.ensures.each_edge c.loop-e.e no_edge (omega arith)).second in
    omega (arith, c.ends-first.ensures.second, low, c.requires)

pub returns-then-is_across : goal.returns-then-is_across
returns-then-is_across c =
    sym (least_some (length c.args.graph.now.edges) c.loop-e.e (λ e. goes_across c.args.plan.now (edge_at c.args.graph.now.edges e)) (omega arith) c.loop-e.invariant
    (ap (λ x. are_unrelated c.args.plan.now (owner_of c.args.plan.now x) (owner_of c.args.plan.now (edge_at c.args.graph.now.edges c.loop-e.e).second)) (sym c.ends-first.ensures.first)
    ∙ ap (λ x. are_unrelated c.args.plan.now (owner_of c.args.plan.now c.ends-first.result.0) (owner_of c.args.plan.now x)) (sym c.ends-first.ensures.second)
    ∙ sym c.is_across.ensures ∙ c.if-is_across.true))

pub returns : goal.returns
returns c =
    sym (least_none (length c.args.graph.now.edges) (λ e. goes_across c.args.plan.now (edge_at c.args.graph.now.edges e)) (λ k less. c.loop-e.invariant k (omega arith)))
