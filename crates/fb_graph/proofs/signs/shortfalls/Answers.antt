use Rattle.std.proofs.Common.{◌≡◌, ◌≤◌, ℕ, ℤ, pos, get_or, ap, ◌∙◌, rules, arith}
use Rattle.std.proofs.lemmas.Int.{to_z-of_z}
use Rattle.std.proofs.lemmas.List.Sums.{sum_by_more}
use mir.Syntax.{w64}
use mir.Val.{SFits}
use Rattle.fb_graph.specs.Limits.{most_weight, signed_weight}
use Rattle.fb_graph.specs.Signs.{shortfall}
use Rattle.fb_graph.proofs.SignedSums.{shortfall-le}
use Rattle.fb_graph.proofs.signs.shortfalls.Goals as goal

pub loop-change-preserved : goal.loop-change-preserved
loop-change-preserved c =
    let i = c.loop-change.change-index in
    let changes = c.args.changes.now in
    let change : ℕ × ℤ = get_or changes i (0, pos 0) in
    let fine = c.requires.each i (0, pos 0) c.loop-change-test.true in
    let fits : SFits w64 change.1 = search rules in
    let fits_too : SFits w64 c.weight.result = search rules in
    let before : c.shortfall-before.result ≡ shortfall (signed_weight c.args.graph.now change.0) =
    c.shortfall-before.ensures ∙ ap shortfall (to_z-of_z w64 _ fits_too ∙ c.weight.ensures.value) in
    let after : c.shortfall-after.result ≡ shortfall change.1 = c.shortfall-after.ensures ∙ ap shortfall (to_z-of_z w64 _ fits) in
    let light_before : c.shortfall-before.result ≤ most_weight =
    omega (arith, c.weight.ensures.light, shortfall-le c.weight.result, c.shortfall-before.ensures ∙ ap shortfall (to_z-of_z w64 _ fits_too)) in
    let light_after : c.shortfall-after.result ≤ most_weight = omega (arith, after, fine.light, shortfall-le change.1) in (
      omega (arith, before, c.loop-change.invariant.0, sum_by_more (λ (q : ℕ × ℤ). shortfall (signed_weight c.args.graph.now q.0)) changes i (0, pos 0) c.loop-change-test.true),
      omega (arith, after, c.loop-change.invariant.1, sum_by_more (λ (q : ℕ × ℤ). shortfall q.1) changes i (0, pos 0) c.loop-change-test.true),
      omega (arith, light_before, c.loop-change.invariant.2),
      omega (arith, light_after, c.loop-change.invariant.3),
    )
