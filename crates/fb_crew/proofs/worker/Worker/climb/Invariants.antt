use Rattle.std.proofs.Common.{◌≡◌, ◌-◌, ◌*◌, ◌<◌, Some, length, vec_capacity, All, IfOk, OnOk}
use Rattle.fb_plan.specs.Plans.{node_count}
use Rattle.fb_book.specs.Books.{IsPieceAt, place_of}
use Rattle.fb_hands.specs.Gates.{HasPassed}
use Rattle.fb_crew.proofs.worker.Worker.climb.Given as goal

-- the worker holds the ticket's item, whose piece was made and has passed unless memory ran out
abbrev pub invariant-loop-piece : goal.invariant-loop-piece
invariant-loop-piece g l = record {
  own : l.self.seat.board ≡ l.board;
  held : l.self.seat.held ≡ Some (l.ticket.slot, l.ticket.node);
  room : length l.self.entries.items < vec_capacity l.self.entries;
  piece : IfOk l.piece (IsPieceAt g.P.Piece.job_of g.P.Piece.slot_of g.P.Piece.node_of g.P.Piece.made_of g.N.Board.job
      (place_of g.N.Board.job l.ticket.slot l.ticket.node));
  came : All (HasPassed (g.G.Gate.passed l.runner.gate.now)) l.self.seat.entries;
  passed : OnOk l.piece (g.G.Gate.passed l.runner.gate.now l.self.seat.worker l.ticket.slot l.ticket.node);
  ends : l.self.seat.ends ≡ l.initial.self.seat.ends;
  claimed : l.self.seat.claimed ≡ l.initial.self.seat.claimed;
}

-- the items that come after it
abbrev pub decreases-loop-piece : goal.decreases-loop-piece
decreases-loop-piece g l =
    length g.N.Board.job.shots * node_count g.N.Board.job.plan - place_of g.N.Board.job l.ticket.slot l.ticket.node
