use Rattle.std.proofs.Common.{◌≤◌, All, subst}
use Rattle.fb_book.proofs.Heaps.{least_place}
use Rattle.fb_book.proofs.ready.Ready.pop.Goals as goal

pub returns-clause-least : goal.returns-clause-least
returns-clause-least c =
    subst (λ v. All (λ j. c.in-Some.field-0.0 ≤ j) v.0) c.self.view_is
    (least_place c.in-Some.field-0 _ (c.in-Some.ensures.heap_order c.self.invariant.1).1)
