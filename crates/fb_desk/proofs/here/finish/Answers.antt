use Rattle.std.proofs.Common.{◌≤◌, All, sym, subst}
use Rattle.fb_book.specs.Board.{item_count, kids_of, nodes_of, statuses_of}
use Rattle.fb_book.specs.Books.{course_of}
use Rattle.fb_hands.specs.Jobs.{IsCompleteOf}
use Rattle.fb_desk.proofs.here.finish.Goals as goal

pub returns-clause-history : goal.returns-clause-history
returns-clause-history g c =
    let run = course_of g.N.Board.job c.args.book.0 in
    subst (IsCompleteOf g.N.Board.job) (sym c.take_roots-roots.ensures.history)
    (c.complete_history.ensures.done (kids_of run) (nodes_of run) (item_count run) c.args.book.0 (statuses_of run)
    c.keeps.ensures.forest c.keeps.ensures.run c.requires.finished)

pub returns-clause-workers : goal.returns-clause-workers
returns-clause-workers g c =
    subst (All (λ e. e.worker ≤ g.N.Board.workers)) (sym c.take_roots-roots.ensures.history) c.keeps.ensures.kept.by
