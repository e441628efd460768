use Rattle.fb_graph.proofs.CancelledPairs.{IsPartCancelled}
use Rattle.fb_graph.proofs.printed.cancel_pairs.Given as goal

abbrev pub invariant-loop-i : goal.invariant-loop-i
invariant-loop-i l = IsPartCancelled l.initial.numbers l.numbers l.i l.kept
