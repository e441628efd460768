use Rattle.fb_book.specs.Books.{IsPieceAt}
use Rattle.fb_slots.specs.Slots.{layout_of}
use Rattle.fb_slots.proofs.Ending.{splits}
use Rattle.fb_slots.proofs.calls.another.Goals as goal

pub split_seat-requires : goal.split_seat-requires
split_seat-requires g c = (
  c.requires.table,
  c.requires.words,
  splits (IsPieceAt g.P.Piece.job_of g.P.Piece.slot_of g.P.Piece.node_of g.P.Piece.made_of
      g.N.Board.job) (layout_of g.N.Board.job g.N.Board.workers)
      c.requires.layout c.args.me.now.id c.args.me.now.me.0 c.requires.more,
)
