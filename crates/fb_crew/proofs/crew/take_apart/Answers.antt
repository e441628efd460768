use Rattle.std.proofs.Common.{[], ◌∷◌, length, ap, ◌∙◌, arith}
use Rattle.std.proofs.lemmas.List.{length-append}
use Rattle.fb_crew.specs.InternalSeats.{IsEnded}
use Rattle.fb_crew.proofs.Members.{entries_more, popped, pushed}
use Rattle.fb_crew.proofs.crew.take_apart.Goals as goal

pub loop-member-preserved : goal.loop-member-preserved
loop-member-preserved g c =
    let passed = g.G.Gate.passed c.args.runner.now.gate.now in
    let i = c.loop-member.invariant in
    let m = c.in-Some.member in
    let rest = popped (λ x. IsEnded c.args.board.now passed x.worker.seat) c.loop-member.members.items c.pop.new.self.items m c.in-Some.ensures.items i.members in
    let fewer = ap length c.in-Some.ensures.items ∙ length-append c.pop.new.self.items (m ∷ []) in
    let seated = ap length c.in_ok-push.ensures.items ∙ length-append c.loop-member.seats.items (m.worker.seat ∷ []) in
    let tooled = ap length c.in_ok-push-2.ensures.items ∙ length-append c.loop-member.tools.items (m.tools ∷ []) in
    let count = i.count in
    let tools = i.tools in
    record {
      members = rest.0;
      seats = pushed (IsEnded c.args.board.now passed) c.loop-member.seats.items c.push.new.self.items m.worker.seat c.in_ok-push.ensures.items i.seats
          rest.1;
      entries = entries_more c.loop-member.seats.items c.push.new.self.items m.worker.seat c.loop-member.entries.items m.worker.entries.items
          c.append.new.self.items c.in_ok-push.ensures.items i.entries m.worker.same c.in_ok-append.ensures.items;
      count = omega (arith, fewer, seated, count);
      tools = omega (arith, fewer, tooled, tools);
    }
