use Rattle.std.proofs.Common.{◌∙◌, ◌+◌, length, arith}
use Rattle.json.specs.Tree.{json_tokens}
use Rattle.fb_plan_out.specs.PlanWriting.{fusion_json}
use Rattle.fb_plan_out.specs.InternalWriting.{entries_after}
use Rattle.fb_plan_out.proofs.Entries.{entry_more, written_more}
use Rattle.fb_plan_out.proofs.writer.write_fusions.Goals as goal

pub loop-fusion-preserved : goal.loop-fusion-preserved
loop-fusion-preserved c = record {
  before = c.in_ok-write_fusion.ensures.before ∙ c.loop-fusion.invariant.before;
  tokens =
      written_more c.loop-fusion.writer.tokens c.write_fusion.new.writer.tokens
      (json_tokens (fusion_json c.args.plan.now c.loop-fusion.fusion))
      (entries_after (fusion_json c.args.plan.now) (length c.args.plan.now.joins) c.loop-fusion.fusion)
      (entries_after (fusion_json c.args.plan.now) (length c.args.plan.now.joins) (c.loop-fusion.fusion + 1)) _
      c.in_ok-write_fusion.ensures.tokens
      (entry_more (fusion_json c.args.plan.now) (length c.args.plan.now.joins) c.loop-fusion.fusion (omega (arith, c.keeps.ensures.tree.count)))
      c.loop-fusion.invariant.tokens;
}
