use Rattle.std.proofs.Common.{arith}
use Rattle.std.proofs.lemmas.List.Sorted.{IsNonDecreasingBy-from_sort}
use Rattle.fb_graph.proofs.CutEntries.{AreSortedUpTo-more, resorted-cuts}
use Rattle.fb_graph.proofs.cuts.sort_each.Goals as goal

pub loop-entry-preserved : goal.loop-entry-preserved
loop-entry-preserved c =
    AreSortedUpTo-more _ _ _ _ _ c.requires c.loop-entry.auto.vertices c.loop-entry-test.true c.loop-entry.invariant
    c.sort_unstable.ensures.permutation (IsNonDecreasingBy-from_sort (λ x. x) _ c.sort_unstable.ensures.sorted)

pub returns : goal.returns
returns c = resorted-cuts _ _ _ (λ k e less. c.loop-entry.invariant.done k e (omega arith) less)
