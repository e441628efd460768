use Rattle.std.proofs.Common.{ℕ, ℤ, ltb, ltb-true, ltb-false, rules}
use Rattle.std.proofs.lemmas.List.Sorted.{IsPartitionPoint-from_clause, IsPartitionedBy-ltb}
use Rattle.fb_graph.proofs.SortedChanges.{never_fall}
use Rattle.fb_graph.proofs.changes.ChangeTable.place_of.Goals as goal

pub returns : goal.returns
returns c =
    let e = c.args.e in
    let rises = never_fall _ (rw (← c.deref.ensures.value) at c.self.invariant) in
    let point = IsPartitionPoint-from_clause (λ (change : ℕ × ℤ). ltb change.0 e) _ _ c.partition_point.ensures.partitioned (IsPartitionedBy-ltb (λ (change : ℕ × ℤ). change.0) _ e rises) (λ a r q k. search rules) in
    rw (← c.self.view_is, ← c.deref.ensures.value) (λ k d low high. ltb-true _ e (point.0 k d low high), λ k d low high. ltb-false _ e (point.1 k d low high))
