use Rattle.std.proofs.Common.{◌≡◌, ◌++◌, take}
use Rattle.fb_search.proofs.ending.add_matches.Given as goal

abbrev pub invariant-loop-m : goal.invariant-loop-m
invariant-loop-m l =
    l.matching
    ≡ record { matches = l.initial.matching.matches ++ take l.m-index l.matches; unmatched = l.initial.matching.unmatched }
