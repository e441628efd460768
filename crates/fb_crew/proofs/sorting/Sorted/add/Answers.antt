use Rattle.std.proofs.Common.{sym, ◌∙◌}
use Rattle.fb_crew.proofs.EvenPlaces.{sorted_more_even, sorted_more_odd}
use Rattle.fb_crew.proofs.sorting.Sorted.add.Goals as goal

pub returns-then-is_some : goal.returns-then-is_some
returns-then-is_some c = λ g shots sorted here is.
    sorted_more_odd g shots _ _ _ sorted c.args.shot.now c.args.vertex _ here (sym c.is_some.ensures ∙ c.if-is_some.true) c.in_ok-push.ensures.items

pub returns : goal.returns
returns c = λ g shots sorted here is.
    sorted_more_even g shots _ _ _ sorted c.args.shot.now c.args.vertex c.args.place _ _ _ here is (sym c.is_some.ensures ∙ c.if-is_some.false)
    c.in_ok-push.ensures.items (rw c.in_ok-copy.ensures at c.in_ok-push-2.ensures.items) c.in_ok-push-3.ensures.items
