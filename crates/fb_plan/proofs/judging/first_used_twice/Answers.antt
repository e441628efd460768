use Rattle.std.proofs.Common.{◌<◌, ◌∙◌, false, ap, get_or, length, sym, take, arith, length-set}
use Rattle.fb_plan.specs.Rules.{is_used_twice, joins_of}
use Rattle.fb_plan.proofs.Fusions.{AreNamed, length-joins_of, named_more, used_twice_at}
use Rattle.fb_graph.proofs.Leasts.{least_none, least_some, none_more}
use Rattle.fb_plan.proofs.judging.first_used_twice.Goals as goal

pub returns-then-is_used_twice : goal.returns-then-is_used_twice
returns-then-is_used_twice c =
    let less : c.loop-i.i < length c.args.fusions.now = omega arith in
    let low = c.requires c.loop-i.i c.index-fusions-i.result less in
    let told : AreNamed c.deref.result.now (take c.loop-i.i (joins_of c.args.fusions.now)) c.args.nodes =
    λ n node. ap (λ used. get_or used n false) c.deref.ensures.value ∙ c.loop-i.invariant.2 n node in
    sym (least_some (length (joins_of c.args.fusions.now)) c.loop-i.i (is_used_twice (joins_of c.args.fusions.now))
    (omega (arith, c.loop-i-test.true, length-joins_of c.args.fusions.now)) c.loop-i.invariant.0
    (used_twice_at c.args.fusions.now c.loop-i.i c.args.nodes c.index-fusions-i.result c.deref.result.now less c.index-fusions-i.is
    (rw c.index-fusions-i.is low.0) (rw c.index-fusions-i.is low.1) told
    ∙ sym c.is_used_twice.ensures ∙ c.if-is_used_twice.true))

pub loop-i-preserved : goal.loop-i-preserved
loop-i-preserved c =
    let less : c.loop-i.i < length c.args.fusions.now = omega arith in
    let low = c.requires c.loop-i.i c.index-fusions-i.result less in
    let told : AreNamed c.deref.result.now (take c.loop-i.i (joins_of c.args.fusions.now)) c.args.nodes =
    λ n node. ap (λ used. get_or used n false) c.deref.ensures.value ∙ c.loop-i.invariant.2 n node in (
      none_more c.loop-i.i (is_used_twice (joins_of c.args.fusions.now)) c.loop-i.invariant.0
          (used_twice_at c.args.fusions.now c.loop-i.i c.args.nodes c.index-fusions-i.result c.deref.result.now less c.index-fusions-i.is
          (rw c.index-fusions-i.is low.0) (rw c.index-fusions-i.is low.1) told
          ∙ sym c.is_used_twice.ensures ∙ c.if-is_used_twice.false),
      length-set _ _ _ ∙ length-set _ _ _ ∙ c.loop-i.invariant.1,
      named_more c.args.fusions.now c.loop-i.i c.args.nodes c.index-fusions-i.result c.loop-i.used.items less c.index-fusions-i.is
          (rw c.index-fusions-i.is low.0) (rw c.index-fusions-i.is low.1) c.loop-i.invariant.1 c.loop-i.invariant.2,
    )

pub returns : goal.returns
returns c =
    sym (least_none (length (joins_of c.args.fusions.now)) (is_used_twice (joins_of c.args.fusions.now))
    (λ k less. c.loop-i.invariant.0 k (omega (arith, less, c.loop-i-test.false, length-joins_of c.args.fusions.now))))
