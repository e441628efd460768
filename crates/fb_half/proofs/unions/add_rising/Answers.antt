use Rattle.std.proofs.Common.{◌≡◌, ◌∙◌, ◌++◌, slice_index_or, take, nat_lt, true, rules, sym, subst}
use Rattle.std.specs.List.Sorted.{IsStrictlyIncreasing}
use Rattle.std.proofs.lemmas.Bool.{eqb-false, ltb-true}
use Rattle.std.proofs.lemmas.List.Sorted.{IsPartitionPoint-from_clause, IsPartitionedBy-ltb}
use Rattle.fb_half.proofs.Reached.{front, never_falls}
use Rattle.fb_half.proofs.RisingUnions.{rising_replaced}
use Rattle.fb_half.proofs.unions.add_rising.Goals as goal

pub push_merged-requires-clause-second : goal.push_merged-requires-clause-second
push_merged-requires-clause-second c =
    let xs = c.deref.result.now in
    let i = c.partition_point-below.result in
    let least = slice_index_or c.args.others.now 0 0 in
    let some = eqb-false _ _ (sym c.is_empty.ensures ∙ c.if-is_empty.false) in
    let rising : IsStrictlyIncreasing xs = subst IsStrictlyIncreasing (sym c.deref.ensures.value) c.requires.rising in
    let parted =
    IsPartitionPoint-from_clause (λ v. nat_lt v least) xs i c.partition_point-below.ensures.partitioned
    (IsPartitionedBy-ltb (λ x. x) xs least (never_falls xs rising)) (λ a r q k. search rules) in
    subst (λ l. IsStrictlyIncreasing (l ++ c.args.others.now)) (sym c.truncate.ensures.items)
    (subst (λ l. IsStrictlyIncreasing (take i l ++ c.args.others.now)) c.deref.ensures.value
    (rising_replaced xs i c.args.others.now rising some (λ k d less. ltb-true _ _ (front (λ v. nat_lt v least ≡ true) xs i parted.0 k d less)) c.requires.others))
