use Rattle.std.proofs.Common.{take}
use Rattle.fb_links.specs.InternalKept.{IsPacked}
use Rattle.fb_links.proofs.links.pack.Given as goal

abbrev pub invariant-loop-entry : goal.invariant-loop-entry
invariant-loop-entry l = IsPacked l.steps (take l.entry-index l.spans) l.new_steps.items l.new_spans.items
