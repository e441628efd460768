use Rattle.std.proofs.Common.{◌≡◌, length, ap, ◌∙◌, arith}
use Rattle.std.proofs.lemmas.List.{length-replicate}
use Rattle.fb_regions.proofs.Stored.{stored_none}
use Rattle.fb_regions.proofs.sparse.SparseTable.new.Goals as goal

pub invariant_of-result : goal.invariant_of-result
invariant_of-result g c =
    let count : length c.in_ok-places.places ≡ c.args.bound = ap length c.in_ok-places.ensures ∙ length-replicate c.args.bound 0 in
    stored_none _ _ _ _ _ c.in_ok-keys.ensures.items (ap length c.in_ok-values.ensures.items)
    (omega (arith, count, c.in_ok-keys.ensures.capacity)) (omega (arith, count, c.in_ok-values.ensures.capacity)) (omega (arith, count))
