use Rattle.std.proofs.Common.{◌≡◌, get_or, false, filter}
use Rattle.std.specs.Bool.{beq}
use Rattle.std.specs.List.{range_with_len}
use Rattle.fb_graph.proofs.building.numbers_flagged.Given as goal

abbrev pub invariant-loop-number : goal.invariant-loop-number
invariant-loop-number l =
    l.found ≡ filter (λ k. beq (get_or l.flags k false) l.wanted) (range_with_len 0 l.number)
