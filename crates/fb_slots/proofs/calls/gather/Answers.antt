use Rattle.fb_book.specs.Books.{IsPieceAt}
use Rattle.fb_slots.specs.Slots.{layout_of}
use Rattle.fb_slots.proofs.Ending.{joins}
use Rattle.fb_slots.proofs.calls.gather.Goals as goal

pub join_seat-requires : goal.join_seat-requires
join_seat-requires g c = (
  c.requires.table,
  c.requires.other.0,
  c.requires.other.1,
  c.requires.words,
  joins (IsPieceAt g.P.Piece.job_of g.P.Piece.slot_of g.P.Piece.node_of g.P.Piece.made_of
      g.N.Board.job) (layout_of g.N.Board.job g.N.Board.workers)
      c.requires.layout c.args.me.now.id c.args.other.id c.args.me.now.me.0 c.args.other.me.0,
)
