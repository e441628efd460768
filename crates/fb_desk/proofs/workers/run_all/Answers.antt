use Rattle.std.proofs.Common.{◌≤◌, All, sym, subst}
use Rattle.fb_book.specs.declared.entries.Entry.{Entry}
use Rattle.fb_half.proofs.DoneSteps.{made_holds}
use Rattle.fb_desk.proofs.workers.run_all.Goals as goal

pub returns-clause-workers : goal.returns-clause-workers
returns-clause-workers g c =
    subst (λ h. All (λ (e : Entry). e.worker ≤ g.N.Board.workers) h.items) (sym c.with_tools.ensures.1)
    (made_holds (λ w. All (λ (e : Entry). e.worker ≤ g.N.Board.workers) w.history.items) c.complete.result c.in_ok-finished.finished
    c.in_ok-finished.ensures.0 c.complete.ensures.workers)
