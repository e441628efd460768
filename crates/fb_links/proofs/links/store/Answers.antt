use Rattle.fb_links.proofs.Numbers.{numbered_after_pop}
use Rattle.fb_links.proofs.links.store.Goals as goal

pub returns-in-Some-clause-numbers : goal.returns-in-Some-clause-numbers
returns-in-Some-clause-numbers c =
    numbered_after_pop _ _ _ _ _ _ _ c.requires c.in-Some.ensures.items c.in-Some.ensures.capacity
