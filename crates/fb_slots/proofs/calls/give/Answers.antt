use Rattle.std.proofs.Common.{Some, ◌∷◌, sym, ap, subst, ◌∙◌, arith}
use Rattle.atomic_table.specs.Table.{rest}
use Rattle.fb_book.specs.Books.{IsPieceAt}
use Rattle.fb_slots.specs.Slots.{layout_of, IsHeld}
use Rattle.fb_slots.proofs.Posting.{count_allows}
use Rattle.fb_slots.proofs.calls.give.Goals as goal

pub fetch_add-requires : goal.fetch_add-requires
fetch_add-requires g c =
    let t = c.args.table.now.shared in
    let e = c.exchange.ensures in
    let b = layout_of g.N.Board.job g.N.Board.workers in
    let view = ap (λ m. m.0) e.3 in
    let held = ap (λ m. m.1) e.3 ∙ ap (λ l. (c.args.place, Some c.args.piece) ∷ rest l)
    c.requires.holds in (
      e.0 ∙ c.requires.table,
      omega (arith, c.requires.words, c.requires.counted.less),
      count_allows (IsPieceAt g.P.Piece.job_of g.P.Piece.slot_of g.P.Piece.node_of g.P.Piece.made_of
          g.N.Board.job) b
          c.requires.layout t.table_id.slots c.exchange.new.seat.id c.exchange.new.seat.me
          c.args.place c.args.counted c.args.piece
          c.requires.slots (subst (λ v. IsHeld b v c.args.place) (sym view) c.requires.held)
          c.requires.counted.less c.requires.counted.counts c.requires.piece held,
    )

pub overflow_add-counted : goal.overflow_add-counted
overflow_add-counted g c = let less = c.requires.counted.less in let small =
    c.requires.layout.small in omega (arith, less, small)
