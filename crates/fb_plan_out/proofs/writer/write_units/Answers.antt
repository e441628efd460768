use Rattle.std.proofs.Common.{◌∙◌, ◌+◌, arith}
use Rattle.json.specs.Tree.{json_tokens}
use Rattle.fb_plan_out.specs.PlanWriting.{unit_json}
use Rattle.fb_plan_out.specs.InternalWriting.{entries_after}
use Rattle.fb_plan_out.proofs.Entries.{entry_more, written_more}
use Rattle.fb_plan_out.proofs.writer.write_units.Goals as goal

pub loop-unit-preserved : goal.loop-unit-preserved
loop-unit-preserved c = record {
  before = c.in_ok-write_node.ensures.before ∙ c.loop-unit.invariant.before;
  tokens =
      written_more c.loop-unit.writer.tokens c.write_node.new.writer.tokens (json_tokens (unit_json c.args.plan.now c.loop-unit.unit))
      (entries_after (unit_json c.args.plan.now) c.args.plan.now.units c.loop-unit.unit)
      (entries_after (unit_json c.args.plan.now) c.args.plan.now.units (c.loop-unit.unit + 1)) _ c.in_ok-write_node.ensures.tokens
      (entry_more (unit_json c.args.plan.now) c.args.plan.now.units c.loop-unit.unit (omega arith)) c.loop-unit.invariant.tokens;
}
