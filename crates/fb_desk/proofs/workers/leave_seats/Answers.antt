use Rattle.std.proofs.Common.{arith}
use Rattle.std.proofs.lemmas.Grind.{common_steps}
use Rattle.fb_desk.proofs.workers.leave_seats.Goals as goal

pub overflow_add-made : goal.overflow_add-made
overflow_add-made g c = omega arith

pub loop-seat-preserved : goal.loop-seat-preserved
loop-seat-preserved g c = record {
  made = omega arith;
  parts = grind (arith, common_steps);
  total = omega arith;
  tools = grind (arith, common_steps);
  tools_room = grind (arith, common_steps);
}
