use Rattle.std.proofs.Common.{length, ap, sym, subst, ◌∙◌, arith}
use Rattle.std.proofs.lemmas.Grind.{common_steps}
use Rattle.fb_desk.specs.Numbers.{AreNumbered}
use Rattle.fb_desk.proofs.Numbers.{numbered_more, numbered_none}
use Rattle.fb_desk.proofs.workers.take_seats.Goals as goal

pub loop-worker-init : goal.loop-worker-init
loop-worker-init g c = record {
  seats = ap length c.in_ok-seats.ensures.items;
  numbers = subst (AreNumbered (λ s. s.worker)) (sym c.in_ok-seats.ensures.items) (numbered_none (λ s. s.worker));
  seats_room = c.in_ok-seats.ensures.capacity;
  tools = omega arith;
  tools_room = grind (arith, common_steps);
  parts = omega arith;
  none = c.requires.none;
}

pub loop-worker-preserved : goal.loop-worker-preserved
loop-worker-preserved g c = record {
  seats = grind (arith, common_steps);
  numbers = numbered_more (λ s. s.worker) c.loop-worker.seats.items _ c.new.result c.push_reserved.ensures.items
      (c.new.ensures.0 ∙ sym c.loop-worker.invariant.seats) c.loop-worker.invariant.numbers;
  seats_room = grind (arith, common_steps);
  tools = grind (arith, common_steps);
  tools_room = grind (arith, common_steps);
  parts = grind (arith, common_steps);
  none = grind (arith, common_steps);
}
