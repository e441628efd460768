use Rattle.std.proofs.Common.{◌≡◌, ◌≢◌, ◌+◌, ◌*◌, Some, sym, ap, subst, ◌∙◌, arith}
use Rattle.std.proofs.lemmas.Nat.{div-add-mod'}
use Rattle.fb_plan.specs.Plans.{node_count}
use Rattle.fb_book.specs.Board.{kids_in}
use Rattle.fb_book.specs.Books.{IsPieceAt, place_of}
use Rattle.fb_book.proofs.Handing.{of_children, of_same}
use Rattle.fb_slots.specs.Slots.{IsSeat, held_of, layout_of}
use Rattle.fb_slots.proofs.Holding.{seat_joined}
use Rattle.fb_slots.proofs.Pieces.{found}
use Rattle.fb_slots.proofs.Seating.{held_place, joined_me}
use Rattle.fb_slots.proofs.board.SlotBook.post.Goals as goal

-- the seat holds the fusion, with the empty slots of its children
pub invariant_of-seat-2 : goal.invariant_of-seat-2
invariant_of-seat-2 g c =
    let job = g.N.Board.job in
    let b = layout_of job g.N.Board.workers in
    let IsPiece = IsPieceAt g.P.Piece.job_of g.P.Piece.slot_of g.P.Piece.node_of
    g.P.Piece.made_of job in
    let me = c.seat.inside.holder.me in
    let k = c.place-place.result in
    let above = c.counted-counted.result in
    let t = c.give.ensures.fusion c.if-give-ne-ONE_CHILD_GIVEN.false in
    let less = t.less in
    let held : held_of me.1 ≡ Some k =
    held_place (node_count job.plan) c.args.ticket.slot c.args.ticket.node me.1
    (ap (λ s. s.held) c.seat.view_is ∙ c.requires.held)
    ∙ ap Some (sym c.place-place.ensures.place) in
    let other : k ≢ above = λ e. absurd (omega (arith, less, e)) in
    let kids = sym c.kids.ensures ∙ c.in-Some.is in
    let is = joined_me IsPiece b k above me.0 c.give.new.me.me t c.in-Some.left c.in-Some.right
    c.take_out-first.new.me.me c.take_out-second.new.me.me kids
    c.take_out-first.ensures.view c.take_out-second.ensures.view in
    subst (IsSeat b c.seat.inside.worker) (sym is)
    (seat_joined b c.seat.inside.worker me k above c.in-Some.left c.in-Some.right
    c.seat.invariant held c.counted-counted.ensures.less other t.fresh kids)

pub returns-clause-pieces : goal.returns-clause-pieces
returns-clause-pieces g c next a b e =
    let job = g.N.Board.job in
    let layout = layout_of job g.N.Board.workers in
    let same : c.ticket.result ≡ next = cc in
    let first : c.take_out-first.result ≡ a = cc in
    let second : c.take_out-second.result ≡ b = cc in
    let IsPiece = IsPieceAt g.P.Piece.job_of g.P.Piece.slot_of g.P.Piece.node_of
    g.P.Piece.made_of job in
    let kids = sym c.kids.ensures ∙ c.in-Some.is in
    let at : place_of job c.ticket.result.slot c.ticket.result.node ≡ c.counted-counted.result =
    (λ i. c.ticket.ensures.slot i * node_count job.plan + c.ticket.ensures.node i)
    ∙ div-add-mod' c.counted-counted.result (node_count job.plan) in
    let both = found IsPiece layout c.place-place.result c.counted-counted.result
    c.seat.inside.holder.me.0 c.give.new.me.me
    (c.give.ensures.fusion c.if-give-ne-ONE_CHILD_GIVEN.false)
    c.in-Some.left c.in-Some.right c.take_out-first.result c.take_out-second.result
    c.take_out-first.new.me.me kids c.take_out-first.ensures.piece
    (ap (λ m. m.1) c.take_out-first.ensures.view) c.take_out-second.ensures.piece in
    let all = of_children g.P.Piece.job_of g.P.Piece.slot_of g.P.Piece.node_of
    g.P.Piece.made_of job c.ticket.result.slot c.ticket.result.node c.in-Some.left
    c.in-Some.right c.take_out-first.result c.take_out-second.result c.keeps.ensures.forest
    c.ticket.result.in_nodes (ap (kids_in job.plan.units job.plan.joins) at ∙ kids)
    both.0 both.1 in
    of_same g.P.Piece.job_of g.P.Piece.slot_of g.P.Piece.node_of g.P.Piece.made_of job
    (ap (λ p. p.slot) same) (ap (λ p. p.node) same) first second all
