use Rattle.std.proofs.Common.{◌≡◌, ℕ, ◌-◌, ◌*◌, ◌<◌, length, ap, subst, ◌∙◌, arith, IfOk, OnOk}
use Rattle.std.proofs.lemmas.Nat.{mul-add-lt}
use Rattle.fb_plan.specs.Plans.{node_count}
use Rattle.fb_book.specs.Books.{IsPieceAt, place_of}
use Rattle.fb_slots.specs.Seats.{SeatValue}
use Rattle.fb_crew.proofs.Entries.{came_fused}
use Rattle.fb_crew.proofs.worker.Worker.climb.Goals as goal

pub fusion-piece-requires-clause-children : goal.fusion-piece-requires-clause-children
fusion-piece-requires-clause-children g c κs within =
    rw (c.item_of-item.ensures.slot, c.item_of-item.ensures.node)
    (c.post.ensures.pieces c.in-Fusion.next c.in-Fusion.left c.in-Fusion.right c.in-Fusion.is)

pub loop-piece-smaller : goal.loop-piece-smaller
loop-piece-smaller g c =
    let job = g.N.Board.job in
    let p = c.loop-piece.ticket in
    let q = c.in-Fusion.next in
    let inside = mul-add-lt p.slot (node_count job.plan) p.node (length job.shots) p.in_slots p.in_nodes in
    let a : ℕ = place_of job p.slot p.node in
    let d : ℕ = place_of job q.slot q.node in
    let all : ℕ = length job.shots * node_count job.plan in
    let a_less : a < all = omega (arith, inside) in
    let later : a < d = c.post.ensures.later q c.in-Fusion.left c.in-Fusion.right c.in-Fusion.is in
    let smaller : all - d < all - a = omega (arith, a_less, later) in smaller

pub loop-piece-preserved : goal.loop-piece-preserved
loop-piece-preserved g c =
    let job = g.N.Board.job in
    let took = c.post.ensures.fusion c.in-Fusion.next c.in-Fusion.left c.in-Fusion.right c.in-Fusion.is in
    let i = c.loop-piece.invariant in
    let passed = g.G.Gate.passed c.args.runner.now.gate.now in
    let t = c.loop-piece.ticket in
    let n = c.in-Fusion.next in
    let item = c.item_of-item.ensures in
    let at_item : place_of job c.item_of-item.result.slot c.item_of-item.result.node ≡ place_of job c.in-Fusion.next.slot c.in-Fusion.next.node =
    λ j. place_of job (c.item_of-item.ensures.slot j) (c.item_of-item.ensures.node j) in
    record {
      own = ap (λ (s : SeatValue). s.board) took ∙ i.own;
      held = ap (λ (s : SeatValue). s.held) took;
      room = c.post.ensures.room;
      piece = subst (λ (k : ℕ). IfOk c.fusion-piece.result (IsPieceAt g.P.Piece.job_of g.P.Piece.slot_of g.P.Piece.node_of g.P.Piece.made_of job k))
          at_item c.fusion-piece.ensures.piece;
      came = came_fused passed t.slot t.node n.slot n.node c.loop-piece.self.seat c.post.new.self.seat took
          (subst (λ r. OnOk r (passed c.loop-piece.self.seat.worker t.slot t.node)) c.in-Ok.is i.passed) i.came;
      passed = subst (λ (x : ℕ × ℕ × ℕ). OnOk c.fusion-piece.result (passed x.0 x.1 x.2)) (λ j. (item.worker j, item.slot j, item.node j))
          c.fusion-piece.ensures.passed;
      ends = ap (λ (s : SeatValue). s.ends) took ∙ i.ends;
      claimed = ap (λ (s : SeatValue). s.claimed) took ∙ i.claimed;
    }
