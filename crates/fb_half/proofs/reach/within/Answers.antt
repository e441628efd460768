use Rattle.std.proofs.Common.{ℕ, ◌-◌, List, length, take, drop, nat_lt, rules}
use Rattle.std.proofs.lemmas.List.{take_rest}
use Rattle.std.proofs.lemmas.List.Sorted.{IsNonDecreasingBy-drop, IsNonDecreasingBy-take, IsPartitionPoint-from_clause, IsPartitionedBy-ltb}
use Rattle.fb_half.proofs.Reached.{cut_out, never_falls}
use Rattle.fb_half.proofs.reach.within.Goals as goal

pub returns : goal.returns
returns c =
    let xs : List ℕ = c.args.vertices.now in
    let i : ℕ = c.partition_point.result in
    let rest : List ℕ = take (length xs - i) (drop i xs) in
    let up = never_falls xs c.requires in
    let rest_up = IsNonDecreasingBy-take (λ x. x) (length xs - i) (drop i xs) (IsNonDecreasingBy-drop (λ x. x) i xs up) in
    cut_out c.args.reach xs rest i c.partition_point-2.result (take_rest xs i)
    (IsPartitionPoint-from_clause (λ v. nat_lt v c.args.reach.first) xs i c.partition_point.ensures.partitioned
    (IsPartitionedBy-ltb (λ x. x) xs c.args.reach.first up) (λ a r q k. search rules))
    (IsPartitionPoint-from_clause (λ v. nat_lt v c.args.reach.end) rest c.partition_point-2.result c.partition_point-2.ensures.partitioned
    (IsPartitionedBy-ltb (λ x. x) rest c.args.reach.end rest_up) (λ a r q k. search rules))
