use Rattle.std.proofs.Common.{ap, arith}
use Rattle.fb_plan.specs.declared.parts.Join.{Join}
use Rattle.fb_plan.proofs.Gathering.{mapped_more}
use Rattle.fb_plan.proofs.owners.pairs_of.Goals as goal

pub loop-fusion-preserved : goal.loop-fusion-preserved
loop-fusion-preserved c =
    mapped_more (λ (join : Join). (join.left, join.right)) c.args.fusions.now c.loop-fusion.fusion-index _ (omega arith)
    c.loop-fusion.joins.items _ _ c.in_ok-push.ensures.items c.loop-fusion.invariant
    (ap (λ (join : Join). (join.left, join.right)) c.fusion-item.is)
