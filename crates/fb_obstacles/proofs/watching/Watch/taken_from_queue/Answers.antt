use Rattle.std.proofs.Common.{◌-◌, sym, subst, arith}
use Rattle.fb_obstacles.specs.InternalWatch.{Reorders}
use Rattle.fb_obstacles.proofs.QueuedEdges.{reorders_exchanged}
use Rattle.fb_obstacles.proofs.watching.Watch.taken_from_queue.Goals as goal

pub returns-then-place-self-clause-same : goal.returns-then-place-self-clause-same
returns-then-place-self-clause-same c =
    subst (Reorders c.args.self.now) (sym c.unqueue.ensures)
    (reorders_exchanged c.args.self.now c.args.place (c.args.self.now.queued - 1) c.keeps.ensures.bounds
    c.requires (omega (arith, c.requires, c.keeps.ensures.queued)) (c.args.self.now.queued - 1))
