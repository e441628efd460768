use Rattle.std.specs.Prelude.{codes}
use Rattle.json.specs.Tree.{json_tokens}
use Rattle.fb_plan_out.specs.PlanWriting.{fusions_json, plan_json, units_json}
use Rattle.fb_plan_out.proofs.Entries.{object_of_two}
use Rattle.fb_plan_out.proofs.writer.write_plan.Goals as goal

pub returns : goal.returns
unfolding plan_json
returns c =
    object_of_two c.args.writer.now c.begin_object.new.self c.key.new.self c.write_units.new.writer c.key-2.new.self
    c.write_fusions.new.writer c.end_object.new.self (codes "units") (codes "fusions") (json_tokens (units_json c.args.plan.now))
    (json_tokens (fusions_json c.args.plan.now)) c.begin_object.ensures.room.0 c.in_ok-begin_object.ensures.ok c.key.ensures.room.0
    c.in_ok-key.ensures.ok c.in_ok-write_units.ensures c.key-2.ensures.room.0 c.in_ok-key-2.ensures.ok c.in_ok-write_fusions.ensures
    c.end_object.ensures.room.0 c.in_ok-end_object.ensures.ok
