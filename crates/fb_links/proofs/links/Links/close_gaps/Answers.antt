use Rattle.fb_links.proofs.Spans.{numbered_packed}
use Rattle.fb_links.proofs.links.Links.close_gaps.Goals as goal

pub invariant_of-self-2 : goal.invariant_of-self-2
invariant_of-self-2 c =
    let packed = rw (c.deref.ensures.value, c.deref-2.ensures.value) at c.in_ok-pack.ensures in
    rw (c.swap.ensures.x_after, c.swap-2.ensures.x_after)
    (record { entries = packed.entries; numbers = numbered_packed _ _ _ _ _ _ packed.same c.self.invariant.numbers })
