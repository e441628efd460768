use Rattle.std.proofs.Common.{arith}
use Rattle.std.specs.Prelude.{None}
use Rattle.std.proofs.lemmas.List.{length-set}
use Rattle.fb_links.proofs.Numbers.{below_end, none_left, numbered_after_push}
use Rattle.fb_links.proofs.Spans.{entries_without, has_span, removed, removed_last, walks_of_none}
use Rattle.fb_links.proofs.links.Links.forget.Goals as goal

pub invariant_of-self-else-len : goal.invariant_of-self-else-len
invariant_of-self-else-len c = record {
  entries = entries_without _ _ c.args.link c.self.invariant.entries;
  numbers =
      numbered_after_push _ _ _ _ _ _ c.self.invariant.numbers (has_span _ _ c.args.link (rw (← c.self.view_is) at c.requires))
      c.push_reserved.ensures.items c.push_reserved.ensures.capacity;
}

pub invariant_of-self : goal.invariant_of-self
invariant_of-self c =
    let numbers =
    numbered_after_push _ _ _ _ _ _ c.self.invariant.numbers (has_span _ _ c.args.link (rw (← c.self.view_is) at c.requires))
    c.push_reserved.ensures.items c.push_reserved.ensures.capacity in
    record { entries = (walks_of_none c.self.inside.steps.items _ _ (none_left _ c.push_reserved.new.self.items _ numbers (omega (arith, c.push_reserved.new.self.ok.0, c.self.inside.spans.ok.0, length-set c.self.inside.spans.items c.args.link None)))).0; numbers = numbers }

pub returns-then-len : goal.returns-then-len
returns-then-len c =
    let live = has_span _ _ c.args.link (rw (← c.self.view_is) at c.requires) in
    let numbers =
    numbered_after_push _ _ _ _ _ _ c.self.invariant.numbers live c.push_reserved.ensures.items c.push_reserved.ensures.capacity in
    rw (← c.self.view_is) (removed_last _ _ _ _ (below_end _ _ live) (none_left _ c.push_reserved.new.self.items _ numbers (omega (arith, c.push_reserved.new.self.ok.0, c.self.inside.spans.ok.0, length-set c.self.inside.spans.items c.args.link None))))

pub returns-else-len : goal.returns-else-len
returns-else-len c =
    let live = has_span _ _ c.args.link (rw (← c.self.view_is) at c.requires) in
    rw (← c.self.view_is) (removed _ _ _ (below_end _ _ live))
