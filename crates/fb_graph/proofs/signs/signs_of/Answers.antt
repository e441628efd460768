use Rattle.std.proofs.Common.{◌≡◌, true, false, get_or, ap, length, sym, ◌∙◌, arith}
use Rattle.std.specs.Bool.{beq}
use Rattle.std.proofs.lemmas.List.{length-map}
use Rattle.fb_graph.proofs.Ranges.{filter-range_below, length-filter-range}
use Rattle.fb_graph.proofs.signs.signs_of.Goals as goal

pub odd_ends-requires-clause-within : goal.odd_ends-requires-clause-within
odd_ends-requires-clause-within c =
    let n = length c.deref.result.now in
    let few : n ≡ length c.args.edges.now =
    ap length c.deref.ensures.value ∙ (ap length c.in_ok-flags.ensures ∙ (length-map c.args.given.now _ ∙ sym c.requires.count)) in
    rw (c.as_slice.ensures, c.in_ok-negatives.ensures, ← few) (filter-range_below _ n)

pub weight_together-total-requires-clause-within : goal.weight_together-total-requires-clause-within
weight_together-total-requires-clause-within c =
    let n = length c.deref.result.now in
    let few : n ≡ length c.args.edges.now =
    ap length c.deref.ensures.value ∙ (ap length c.in_ok-flags.ensures ∙ (length-map c.args.given.now _ ∙ sym c.requires.count)) in
    rw (c.as_slice-2.ensures, c.in_ok-negatives.ensures, ← few) (filter-range_below _ n)

pub weight_together-total-requires-clause-few : goal.weight_together-total-requires-clause-few
weight_together-total-requires-clause-few c =
    let n = length c.deref.result.now in
    let few : n ≡ length c.args.given.now =
    ap length c.deref.ensures.value ∙ (ap length c.in_ok-flags.ensures ∙ length-map c.args.given.now _) in
    rw (c.as_slice-2.ensures, c.in_ok-negatives.ensures) (omega (arith, length-filter-range (λ k. beq (get_or c.deref.result.now k false) true) n, few, c.requires.few))
