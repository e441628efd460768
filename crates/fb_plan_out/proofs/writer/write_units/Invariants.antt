use Rattle.std.proofs.Common.{◌≡◌, ◌++◌}
use Rattle.fb_plan_out.specs.PlanWriting.{unit_json}
use Rattle.fb_plan_out.specs.InternalWriting.{entries_after}
use Rattle.fb_plan_out.proofs.writer.write_units.Given as goal

abbrev pub invariant-loop-unit : goal.invariant-loop-unit
invariant-loop-unit l = record {
  before : l.writer.before ≡ l.initial.writer.before;
  tokens : l.writer.tokens ++ entries_after (unit_json l.plan) l.plan.units l.unit
      ≡ l.initial.writer.tokens ++ entries_after (unit_json l.plan) l.plan.units 0;
}
