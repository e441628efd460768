use Rattle.std.proofs.Common.{None, arith}
use Rattle.fb_book.specs.Books.{IsPieceAt}
use Rattle.fb_slots.specs.Slots.{layout_of}
use Rattle.fb_slots.proofs.Posting.{mark_allows}
use Rattle.fb_slots.proofs.calls.leave.Goals as goal

pub fetch_or-requires : goal.fetch_or-requires
fetch_or-requires g c =
    let t = c.args.table.now.shared in (
      c.requires.table,
      omega (arith, c.requires.words),
      mark_allows (IsPieceAt g.P.Piece.job_of g.P.Piece.slot_of g.P.Piece.node_of g.P.Piece.made_of
          g.N.Board.job) (layout_of g.N.Board.job g.N.Board.workers)
          c.requires.layout t.table_id.slots c.args.me.now.id c.args.me.now.me c.args.place None
          c.requires.held c.requires.holds,
    )
