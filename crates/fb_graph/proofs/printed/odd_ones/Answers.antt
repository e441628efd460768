use Rattle.std.proofs.Common.{◌≡◌, take, arith}
use Rattle.std.proofs.lemmas.Grind.{common_steps}
use Rattle.std.proofs.lemmas.List.Sorted.{IsNonDecreasingBy-from_sort}
use Rattle.fb_graph.specs.InternalCancelledPairs.{CancelsTo}
use Rattle.fb_graph.proofs.CancelledPairs.{cancels-IsPermutation, cancelled-inside}
use Rattle.fb_graph.proofs.printed.odd_ones.Goals as goal

pub cancel_pairs-kept-requires : goal.cancel_pairs-kept-requires
cancel_pairs-kept-requires c =
    rw c.deref_mut.ensures.value (IsNonDecreasingBy-from_sort (λ x. x) _ c.sort_unstable.ensures.sorted)

all_cancelled : (c : goal.After-from_vec) → CancelsTo c.args.numbers.items c.from_vec.result
all_cancelled c =
    let kept : c.from_vec.result ≡ take c.cancel_pairs-kept.result c.cancel_pairs-kept.new.numbers =
    grind (arith, common_steps) in
    cancels-IsPermutation _ _ _ c.sort_unstable.ensures.permutation
    (rw (kept, ← c.deref_mut.ensures.value) c.cancel_pairs-kept.ensures.cancelled)

pub returns-clause-parity : goal.returns-clause-parity
returns-clause-parity c = (all_cancelled c).parity

pub returns-clause-weight : goal.returns-clause-weight
returns-clause-weight c = (all_cancelled c).weight

pub returns-clause-inside : goal.returns-clause-inside
returns-clause-inside c = cancelled-inside _ _ (all_cancelled c)
