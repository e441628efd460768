use Rattle.fb_book.specs.Books.{IsPieceAt}
use Rattle.fb_slots.specs.Slots.{layout_of}
use Rattle.fb_slots.proofs.Ending.{opens}
use Rattle.fb_slots.proofs.calls.open.Goals as goal

pub vacant-requires : goal.vacant-requires
vacant-requires g c =
    opens (IsPieceAt g.P.Piece.job_of g.P.Piece.slot_of g.P.Piece.node_of g.P.Piece.made_of
    g.N.Board.job) (layout_of g.N.Board.job g.N.Board.workers)
    c.requires.layout c.args.words.now c.args.count c.requires.words c.requires.count
