use Rattle.fb_resolve.proofs.SortedRuns.{RisesTo}
use Rattle.fb_resolve.proofs.exchange.rising_count.Given as goal

abbrev pub invariant-loop-i : goal.invariant-loop-i
invariant-loop-i l = RisesTo l.numbers l.i
