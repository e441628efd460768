use Rattle.fb_graph.proofs.CutEntries.{AreSortedUpTo}
use Rattle.fb_graph.proofs.cuts.sort_each.Given as goal

abbrev pub invariant-loop-entry : goal.invariant-loop-entry
invariant-loop-entry l = AreSortedUpTo l.initial.vertices l.vertices l.entries l.entry-index
