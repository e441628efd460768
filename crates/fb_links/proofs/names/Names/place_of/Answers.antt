use Rattle.std.proofs.Common.{ℕ, ltb, ltb-true, ltb-false, subst, sym, rules}
use Rattle.std.specs.List.Sorted.{IsNonDecreasingBy}
use Rattle.std.proofs.lemmas.List.Sorted.{IsPartitionPoint-from_clause, IsPartitionedBy-ltb}
use Rattle.fb_links.proofs.names.Names.place_of.Goals as goal

pub returns : goal.returns
returns c =
    let old = c.args.old in
    let rises = subst (IsNonDecreasingBy (λ (p : ℕ × ℕ). p.0)) (sym c.deref.ensures.value) c.self.invariant in
    let point = IsPartitionPoint-from_clause (λ (p : ℕ × ℕ). ltb p.0 old) _ _ c.partition_point.ensures.partitioned (IsPartitionedBy-ltb (λ (p : ℕ × ℕ). p.0) _ old rises) (λ a r q k. search rules) in
    rw (← c.self.view_is, ← c.deref.ensures.value) (λ k d low high. ltb-true _ old (point.0 k d low high), λ k d low high. ltb-false _ old (point.1 k d low high))
