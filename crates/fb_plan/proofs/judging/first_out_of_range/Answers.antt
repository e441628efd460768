use Rattle.std.proofs.Common.{◌∙◌, length, sym, arith}
use Rattle.fb_plan.specs.Rules.{is_out_of_range, joins_of}
use Rattle.fb_plan.proofs.Fusions.{length-joins_of, out_of_range_at}
use Rattle.fb_graph.proofs.Leasts.{least_none, least_some, none_more}
use Rattle.fb_plan.proofs.judging.first_out_of_range.Goals as goal

pub returns-then-is_out_of_range : goal.returns-then-is_out_of_range
returns-then-is_out_of_range c =
    sym (least_some (length (joins_of c.args.fusions.now)) c.loop-i.i (is_out_of_range c.args.units (joins_of c.args.fusions.now))
    (omega (arith, c.loop-i-test.true, length-joins_of c.args.fusions.now)) c.loop-i.invariant
    (out_of_range_at c.args.units c.args.fusions.now c.loop-i.i c.index-fusions-i.result (omega arith) c.index-fusions-i.is
    ∙ sym c.is_out_of_range.ensures ∙ c.if-is_out_of_range.true))

pub loop-i-preserved : goal.loop-i-preserved
loop-i-preserved c =
    none_more c.loop-i.i (is_out_of_range c.args.units (joins_of c.args.fusions.now)) c.loop-i.invariant
    (out_of_range_at c.args.units c.args.fusions.now c.loop-i.i c.index-fusions-i.result (omega arith) c.index-fusions-i.is
    ∙ sym c.is_out_of_range.ensures ∙ c.if-is_out_of_range.false)

pub returns : goal.returns
returns c =
    sym (least_none (length (joins_of c.args.fusions.now)) (is_out_of_range c.args.units (joins_of c.args.fusions.now))
    (λ k less. c.loop-i.invariant k (omega (arith, less, c.loop-i-test.false, length-joins_of c.args.fusions.now))))
