use Rattle.std.proofs.Common.{ℕ, ℤ, ◌≡◌, ◌≤◌, List, length, ap, sym, subst, sum_by, ◌∙◌, arith}
use Rattle.std.proofs.lemmas.Int.{ints}
use Rattle.fb_graph.specs.Limits.{ShotValue, most_edges, signed_weight}
use Rattle.fb_graph.specs.Signs.{shortfall}
use Rattle.fb_graph.proofs.ShotBases.{few_changes, shot_base}
use Rattle.fb_graph.proofs.shot.Shot.base.Goals as goal

pub shortfalls-before-requires-clause-few : goal.shortfalls-before-requires-clause-few
shortfalls-before-requires-clause-few c =
    let are : c.as_slice.result.now ≡ c.args.self.now.changes =
    c.as_slice.ensures.changes ∙ ap (λ (s : ShotValue). s.changes) c.self.view_is in
    subst (λ (changes : List (ℕ × ℤ)). length changes ≤ most_edges) (sym are)
    (few_changes c.args.graph.now c.args.self.now c.limits.ensures c.requires)

pub returns : goal.returns
returns c =
    let sums = c.shortfalls-before.ensures in
    let g = c.args.graph.now in
    let are : c.as_slice.result.now ≡ c.args.self.now.changes =
    c.as_slice.ensures.changes ∙ ap (λ (s : ShotValue). s.changes) c.self.view_is in
    omega (
      arith,
      ints,
      c.base.ensures.value,
      c.base.ensures.low,
      c.base.ensures.high,
      sums.before ∙ ap (sum_by (λ (q : ℕ × ℤ). shortfall (signed_weight g q.0))) are,
      sums.after ∙ ap (sum_by (λ (q : ℕ × ℤ). shortfall q.1)) are,
      sums.low.0,
      sums.low.1,
      shot_base g c.args.self.now c.limits.ensures c.requires,
    )
