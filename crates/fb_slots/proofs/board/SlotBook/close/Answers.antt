use Rattle.std.proofs.Common.{◌≡◌, ◌+◌, ◌-◌, ◌*◌, ◌<◌, length, sym, ap, subst, ◌∙◌}
use Rattle.std.specs.Mem.Slots.{slots_items, slots_len}
use lib.ListN.{get_elem?}
use Rattle.fb_plan.specs.Plans.{node_count}
use Rattle.fb_book.specs.Books.{AreRootPieces, IsPieceAt, course_of}
use Rattle.fb_slots.specs.Ends.{AreAtRoots}
use Rattle.fb_slots.specs.Listed.{IsOrdered, IsWhole, listing}
use Rattle.fb_book.specs.Board.{IsRun}
use Rattle.fb_book.specs.Machine.{IsComplete}
use Rattle.fb_slots.proofs.Taking.{all_complete, all_listing}
use Rattle.fb_slots.proofs.Ran.{run_of}
use Rattle.fb_slots.specs.Slots.{layout_of, losses}
use Rattle.fb_slots.proofs.Ending.{knows_all, whole_at, root_at, loss_at, ordered_at}
use Rattle.fb_slots.proofs.Roots.{root_less, root_is, root_pieces}
use Rattle.fb_slots.proofs.board.SlotBook.close.Goals as goal

pub returns-then-word-ne0-clause-starved : goal.returns-then-word-ne0-clause-starved
returns-then-word-ne0-clause-starved g c e =
    let b = layout_of g.N.Board.job g.N.Board.workers in
    let IsPiece = IsPieceAt g.P.Piece.job_of g.P.Piece.slot_of g.P.Piece.node_of
    g.P.Piece.made_of g.N.Board.job in
    let j = c.join_all-me.ensures in
    let all = knows_all b c.join_all-me.result.me.0 j.seats c.requires.all j.ends
    c.requires.ended j.closed in
    let l = loss_at IsPiece b c.keeps.ensures c.join_all-me.result.id
    c.join_all-me.result.me.0 _ _
    c.close_with-closed.ensures.values.2 all c.word.result c.word.ensures c.if-word-ne0.true in
    subst (λ es. 0 < losses es) j.entries l

pub returns-then-word-ne0-clause-ordered : goal.returns-then-word-ne0-clause-ordered
returns-then-word-ne0-clause-ordered g c =
    let b = layout_of g.N.Board.job g.N.Board.workers in
    let IsPiece = IsPieceAt g.P.Piece.job_of g.P.Piece.slot_of g.P.Piece.node_of
    g.P.Piece.made_of g.N.Board.job in
    let j = c.join_all-me.ensures in
    let all = knows_all b c.join_all-me.result.me.0 j.seats c.requires.all j.ends
    c.requires.ended j.closed in
    subst (IsOrdered b) j.entries
    (ordered_at IsPiece b c.keeps.ensures
    c.join_all-me.result.id c.join_all-me.result.me.0 _ _ c.close_with-closed.ensures.values.2 all)

pub take_roots-requires-clause-pieces : goal.take_roots-requires-clause-pieces
take_roots-requires-clause-pieces g c s less =
    let job = g.N.Board.job in
    let b = layout_of job g.N.Board.workers in
    let IsPiece = IsPieceAt g.P.Piece.job_of g.P.Piece.slot_of g.P.Piece.node_of
    g.P.Piece.made_of g.N.Board.job in
    let j = c.join_all-me.ensures in
    let all = knows_all b c.join_all-me.result.me.0 j.seats c.requires.all j.ends
    c.requires.ended j.closed in
    let inside : s < length job.shots = subst (λ n. s < n) c.slots.ensures less in
    let r = root_at IsPiece b c.keeps.ensures c.join_all-me.result.id c.join_all-me.result.me.0 _
    _
    c.close_with-closed.ensures.values.2 all c.word.result c.word.ensures c.if-word-ne0.false
    (s * node_count job.plan + (node_count job.plan - 1))
    (root_less job s c.keeps.ensures.some inside) (root_is job g.N.Board.workers s
    c.keeps.ensures.some) in (
      r.0,
      ap (λ n. get_elem? (slots_items c.close_with-closed.result.slots) (s * n + (n - 1)))
          c.nodes.ensures ∙ r.1,
    )

pub returns-clause-roots : goal.returns-clause-roots
returns-clause-roots g c roots e =
    let job = g.N.Board.job in
    let b = layout_of job g.N.Board.workers in
    let IsPiece = IsPieceAt g.P.Piece.job_of g.P.Piece.slot_of g.P.Piece.node_of
    g.P.Piece.made_of g.N.Board.job in
    let j = c.join_all-me.ensures in
    let all = knows_all b c.join_all-me.result.me.0 j.seats c.requires.all j.ends
    c.requires.ended j.closed in
    let same : c.take_roots.new.roots ≡ roots = cc in
    let items = slots_items c.close_with-closed.result.slots in
    let at : AreAtRoots (node_count job.plan) items (length job.shots)
    c.take_roots.new.roots.items =
    subst (λ n. AreAtRoots n items (length job.shots) c.take_roots.new.roots.items) c.nodes.ensures
    (subst (λ n. AreAtRoots c.nodes.result items n c.take_roots.new.roots.items) c.slots.ensures
    c.take_roots.ensures.roots) in
    subst (λ r. AreRootPieces g.P.Piece.job_of g.P.Piece.slot_of g.P.Piece.node_of g.P.Piece.made_of
    job r.items) same
    (root_pieces g.P.Piece.job_of g.P.Piece.slot_of g.P.Piece.node_of g.P.Piece.made_of job items
    c.take_roots.new.roots.items at
    (λ s inside. root_at IsPiece b c.keeps.ensures c.join_all-me.result.id c.join_all-me.result.me.0
    _
    _
    c.close_with-closed.ensures.values.2 all c.word.result c.word.ensures c.if-word-ne0.false
    (s * node_count job.plan + (node_count job.plan - 1))
    (root_less job s c.keeps.ensures.some inside) (root_is job g.N.Board.workers s
    c.keeps.ensures.some)))

pub returns-clause-whole : goal.returns-clause-whole
returns-clause-whole g c roots e =
    let b = layout_of g.N.Board.job g.N.Board.workers in
    let j = c.join_all-me.ensures in
    let all = knows_all b c.join_all-me.result.me.0 j.seats c.requires.all j.ends
    c.requires.ended j.closed in
    subst (IsWhole b) j.entries
    (whole_at (IsPieceAt g.P.Piece.job_of g.P.Piece.slot_of g.P.Piece.node_of g.P.Piece.made_of
    g.N.Board.job) b c.keeps.ensures
    c.join_all-me.result.id c.join_all-me.result.me.0 _ _ c.close_with-closed.ensures.values.2 all
    c.word.result c.word.ensures c.if-word-ne0.false)

pub returns-clause-ordered : goal.returns-clause-ordered
returns-clause-ordered g c =
    let b = layout_of g.N.Board.job g.N.Board.workers in
    let IsPiece = IsPieceAt g.P.Piece.job_of g.P.Piece.slot_of g.P.Piece.node_of
    g.P.Piece.made_of g.N.Board.job in
    let j = c.join_all-me.ensures in
    let all = knows_all b c.join_all-me.result.me.0 j.seats c.requires.all j.ends
    c.requires.ended j.closed in
    subst (IsOrdered b) j.entries
    (ordered_at IsPiece b c.keeps.ensures
    c.join_all-me.result.id c.join_all-me.result.me.0 _ _ c.close_with-closed.ensures.values.2 all)

pub returns-then-word-ne0-clause-run : goal.returns-then-word-ne0-clause-run
returns-then-word-ne0-clause-run g c =
    let b = layout_of g.N.Board.job g.N.Board.workers in
    let IsPiece = IsPieceAt g.P.Piece.job_of g.P.Piece.slot_of g.P.Piece.node_of
    g.P.Piece.made_of g.N.Board.job in
    let j = c.join_all-me.ensures in
    let all = knows_all b c.join_all-me.result.me.0 j.seats c.requires.all j.ends
    c.requires.ended j.closed in
    subst (λ es. IsRun (course_of g.N.Board.job (listing b.nodes b.count es))) j.entries
    (run_of g.N.Board.job g.N.Board.workers c.keeps.ensures c.join_all-me.result.me.0.entries
    (ordered_at IsPiece b c.keeps.ensures
    c.join_all-me.result.id c.join_all-me.result.me.0 _ _ c.close_with-closed.ensures.values.2 all))

pub returns-clause-run : goal.returns-clause-run
returns-clause-run g c =
    let b = layout_of g.N.Board.job g.N.Board.workers in
    let IsPiece = IsPieceAt g.P.Piece.job_of g.P.Piece.slot_of g.P.Piece.node_of
    g.P.Piece.made_of g.N.Board.job in
    let j = c.join_all-me.ensures in
    let all = knows_all b c.join_all-me.result.me.0 j.seats c.requires.all j.ends
    c.requires.ended j.closed in
    subst (λ es. IsRun (course_of g.N.Board.job (listing b.nodes b.count es))) j.entries
    (run_of g.N.Board.job g.N.Board.workers c.keeps.ensures c.join_all-me.result.me.0.entries
    (ordered_at IsPiece b c.keeps.ensures
    c.join_all-me.result.id c.join_all-me.result.me.0 _ _ c.close_with-closed.ensures.values.2 all))

pub returns-clause-complete : goal.returns-clause-complete
returns-clause-complete g c roots e =
    let b = layout_of g.N.Board.job g.N.Board.workers in
    let IsPiece = IsPieceAt g.P.Piece.job_of g.P.Piece.slot_of g.P.Piece.node_of
    g.P.Piece.made_of g.N.Board.job in
    let me = c.join_all-me.result in
    let j = c.join_all-me.ensures in
    let all = knows_all b me.me.0 j.seats c.requires.all j.ends c.requires.ended j.closed in
    let final = c.close_with-closed.ensures.values.2 in
    let whole = whole_at IsPiece b c.keeps.ensures me.id me.me.0 _ _ final all c.word.result
    c.word.ensures c.if-word-ne0.false in
    let ordered = ordered_at IsPiece b c.keeps.ensures me.id me.me.0 _ _ final all in
    subst (λ es. IsComplete b.kids b.nodes b.count (listing b.nodes b.count es)) j.entries
    (subst (IsComplete b.kids b.nodes b.count) (all_listing b c.keeps.ensures me.me.0.entries whole)
    (all_complete b c.keeps.ensures me.me.0.entries whole ordered))

-- all slots are emptied
pub free-requires-2 : goal.free-requires-2
free-requires-2 g c = λ k less.
    let size : slots_len c.take_roots.new.closed.slots ≡ c.slots.result * c.nodes.result =
    c.take_roots.ensures.len ∙ (c.close_with-closed.ensures.counts.1
    ∙ (c.self.invariant.slots_are ∙ (λ i. sym c.slots.ensures i * sym c.nodes.ensures i))) in
    c.take_roots.ensures.after.1 k (subst (λ n. k < n) size less)
