use Rattle.std.proofs.Common.{◌≡◌, ◌++◌, length}
use Rattle.fb_plan_out.specs.PlanWriting.{fusion_json}
use Rattle.fb_plan_out.specs.InternalWriting.{entries_after}
use Rattle.fb_plan_out.proofs.writer.write_fusions.Given as goal

abbrev pub invariant-loop-fusion : goal.invariant-loop-fusion
invariant-loop-fusion l = record {
  before : l.writer.before ≡ l.initial.writer.before;
  tokens : l.writer.tokens ++ entries_after (fusion_json l.plan) (length l.plan.joins) l.fusion
      ≡ l.initial.writer.tokens ++ entries_after (fusion_json l.plan) (length l.plan.joins) 0;
}
