use Rattle.std.proofs.Common.{◌≡◌, ◌≤◌}
use Rattle.fb_half.specs.Parts.{IsPart}
use Rattle.fb_half.specs.Values.{HasScope, part_of}
use Rattle.fb_search.specs.InternalMatched.{HasMatched}
use Rattle.fb_search.proofs.matching_all.match_each_near.Given as goal

abbrev pub invariant-loop-root : goal.invariant-loop-root
invariant-loop-root g l =
    HasMatched (part_of l.initial.parts) l.initial.steps l.steps (part_of l.parts)
    × HasScope l.parts × IsPart (part_of l.parts) × (l.scratch ≡ l.initial.scratch) × (l.initial.steps ≤ l.steps)
