use Rattle.std.proofs.Common.{◌≡◌, ℕ, ◌+◌, ◌-◌, ◌*◌, ◌<◌, length, ap, ◌∙◌, arith}
use Rattle.fb_slots.specs.Seats.{SeatValue}
use Rattle.fb_crew.proofs.Entries.{came_claimed}
use Rattle.fb_crew.proofs.worker.Worker.work.Goals as goal

pub climb-requires-clause-own : goal.climb-requires-clause-own
climb-requires-clause-own g c κs within =
    ap (λ (s : SeatValue). s.board) (c.claim.ensures.unit c.in-Unit.ticket c.in-Unit.is).1 ∙ c.loop-self.invariant.own

pub climb-requires-clause-held : goal.climb-requires-clause-held
climb-requires-clause-held g c κs within = ap (λ (s : SeatValue). s.held) (c.claim.ensures.unit c.in-Unit.ticket c.in-Unit.is).1

pub climb-requires-clause-unit : goal.climb-requires-clause-unit
climb-requires-clause-unit g c κs within = (c.claim.ensures.unit c.in-Unit.ticket c.in-Unit.is).0

pub climb-requires-clause-came : goal.climb-requires-clause-came
climb-requires-clause-came g c κs within =
    came_claimed (g.G.Gate.passed c.args.runner.now.gate.now) c.in-Unit.ticket.slot c.in-Unit.ticket.node c.loop-self.self.seat
    c.claim.new.self.seat (c.claim.ensures.unit c.in-Unit.ticket c.in-Unit.is).1 c.loop-self.invariant.came

pub loop-self-smaller : goal.loop-self-smaller
loop-self-smaller g c =
    let job = g.N.Board.job in
    let all : ℕ = length job.shots * job.plan.units in
    let was : ℕ = c.loop-self.self.seat.claimed in
    let now : ℕ = c.climb.new.self.seat.claimed in
    let left : was < all = c.claim.ensures.left c.in-Unit.ticket c.in-Unit.is in
    let more : now ≡ was + 1 = c.in_ok-climb.ensures.same.1
    ∙ ap (λ (s : SeatValue). s.claimed) (c.claim.ensures.unit c.in-Unit.ticket c.in-Unit.is).1 in
    let smaller : all - now < all - was = omega (arith, left, more) in smaller

pub loop-self-preserved : goal.loop-self-preserved
loop-self-preserved g c =
    let took = (c.claim.ensures.unit c.in-Unit.ticket c.in-Unit.is).1 in
    record {
      own = c.climb.ensures.own ∙ (ap (λ (s : SeatValue). s.board) took ∙ c.loop-self.invariant.own);
      unended = c.in_ok-climb.ensures.same.0 ∙ (ap (λ (s : SeatValue). s.ends) took ∙ c.loop-self.invariant.unended);
      came = c.climb.ensures.came;
      free = c.climb.ensures.free;
    }
