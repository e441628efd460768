use Rattle.std.proofs.Common.{◌≡◌, ◌≤◌, ◌++◌, length, reverse, take}
use Rattle.fb_search.specs.InternalOpenings.{turned_from, turned_on}
use Rattle.fb_search.proofs.opening.turned_round.Given as goal

abbrev pub invariant-loop-i : goal.invariant-loop-i
invariant-loop-i l =
    (l.i ≤ length l.round) × (turned_on l.round ≡ l.turned.items ++ turned_from l.node (reverse (take l.i l.round)))

abbrev pub decreases-loop-i : goal.decreases-loop-i
decreases-loop-i l = l.i
