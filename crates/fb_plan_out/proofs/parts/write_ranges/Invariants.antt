use Rattle.std.proofs.Common.{◌≡◌, ◌++◌, map, drop}
use Rattle.json.specs.Tree.{items_tokens}
use Rattle.fb_plan_out.specs.PlanWriting.{items_from, pair_json}
use Rattle.fb_plan_out.proofs.parts.write_ranges.Given as goal

abbrev pub invariant-loop-range : goal.invariant-loop-range
invariant-loop-range l = record {
  before : l.writer.before ≡ l.initial.writer.before;
  tokens : l.writer.tokens ++ items_tokens (items_from (map pair_json (drop l.range-index l.ranges)))
      ≡ l.initial.writer.tokens ++ items_tokens (items_from (map pair_json l.ranges));
}
