use Rattle.fb_search.proofs.FreeTurns.{grown_free_anew}
use Rattle.fb_search.proofs.GrownFree.{grown_free_none}
use Rattle.fb_search.proofs.growing.Growing.next_event.Goals as goal

pub returns-in-Some-clause-grown : goal.returns-in-Some-clause-grown
returns-in-Some-clause-grown g c =
    grown_free_anew c.args.self.now c.next.new.self c.step_freely.new.self c.next.ensures.same c.step_freely.ensures.grown

pub returns-in-None-clause-obstacle : goal.returns-in-None-clause-obstacle
returns-in-None-clause-obstacle g c =
    (c.step_freely.ensures.next c.next-in-None.new.self c.next-in-None.result c.next-in-None.ensures.same
    c.next-in-None.ensures.obstacle).0

pub returns-in-None-clause-grown : goal.returns-in-None-clause-grown
returns-in-None-clause-grown g c =
    grown_free_anew c.args.self.now c.next.new.self c.next-in-None.new.self c.next.ensures.same
    (c.step_freely.ensures.next c.next-in-None.new.self c.next-in-None.result c.next-in-None.ensures.same
    c.next-in-None.ensures.obstacle).1

pub returns-in_default-clause-grown : goal.returns-in_default-clause-grown
returns-in_default-clause-grown g c = grown_free_none c.args.self.now c.next.new.self c.next.ensures.same
