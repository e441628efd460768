use Rattle.fb_book.specs.Books.{IsPieceAt}
use Rattle.fb_slots.specs.Slots.{layout_of}
use Rattle.fb_slots.proofs.Steps.{claim_allows}
use Rattle.fb_slots.proofs.calls.claim.Goals as goal

pub fetch_add-requires : goal.fetch_add-requires
fetch_add-requires g c =
    let t = c.args.table.now.shared in (
      c.requires.table,
      c.requires.words,
      claim_allows (IsPieceAt g.P.Piece.job_of g.P.Piece.slot_of g.P.Piece.node_of g.P.Piece.made_of
          g.N.Board.job) (layout_of g.N.Board.job g.N.Board.workers)
          c.requires.layout t.table_id.slots c.args.me.now.id c.args.me.now.me c.requires.open,
    )
