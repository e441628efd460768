use Rattle.std.proofs.Common.{ℕ, ◌≡◌, ◌+◌, ◌<◌, ◌∙◌, None, ap, get_or, length, subst, sym, arith}
use Rattle.fb_plan.specs.InternalLoads.{load_at}
use Rattle.fb_plan.specs.declared.loads.Measure.TheVariants.{Nodes}
use Rattle.std.proofs.lemmas.List.FromFn.{length-map-range_with_len}
use Rattle.std.proofs.lemmas.Result.{IfOk-weaker}
use Rattle.fb_plan.specs.InternalLayout.{given_owner}
use Rattle.fb_plan.proofs.Fusions.{length-joins_of}
use Rattle.fb_plan.proofs.Growth.{IsGrown, children_small, given_below, given_owner_below, owners_counted, same_tree}
use Rattle.fb_plan.proofs.plan.Plan.grown.Goals as goal

pub owned_by-requires-clause-small : goal.owned_by-requires-clause-small
owned_by-requires-clause-small c v less real =
    let told : (u : ℕ) → u < c.args.graph.now.vertices → get_or c.deref.result.now u 0 ≡ load_at Nodes c.args.claims.now u =
    λ u below. ap (λ s. get_or s u 0) c.deref.ensures.value ∙ c.in_ok-nodes.ensures.each u (subst (λ k. u < k) (sym c.vertices.ensures) below) in
    omega (
      arith,
      given_below c.args.graph.now c.args.claims.now c.deref.result.now (c.args.units + length c.args.fusions.now) told
          c.requires.nodes c.requires.once v less real,
      c.requires.tree.limit,
      c.requires.tree.count,
      length-joins_of c.args.fusions.now,
    )

pub pairs_of-requires : goal.pairs_of-requires
pairs_of-requires c = children_small c.args.units c.args.fusions.now c.requires.tree

pub planted-requires-clause-owners : goal.planted-requires-clause-owners
planted-requires-clause-owners c v n is =
    let told : (u : ℕ) → u < c.args.graph.now.vertices → get_or c.deref.result.now u 0 ≡ load_at Nodes c.args.claims.now u =
    λ u below. ap (λ s. get_or s u 0) c.deref.ensures.value ∙ c.in_ok-nodes.ensures.each u (subst (λ k. u < k) (sym c.vertices.ensures) below) in
    let below : n < c.args.units + length c.args.fusions.now =
    given_owner_below c.args.graph.now c.deref.result.now (c.args.units + length c.args.fusions.now)
    (given_below c.args.graph.now c.args.claims.now c.deref.result.now (c.args.units + length c.args.fusions.now) told c.requires.nodes c.requires.once)
    v n (ap (λ os. get_or os v None) (sym c.in_ok-owners.ensures) ∙ is) in
    omega (arith, below, ap length c.in_ok-joins.ensures, length-joins_of c.args.fusions.now)

pub planted-requires-clause-count : goal.planted-requires-clause-count
planted-requires-clause-count c =
    omega (
      arith,
      ap length c.in_ok-owners.ensures,
      length-map-range_with_len (given_owner c.args.graph.now c.deref.result.now) 0 c.args.graph.now.vertices,
      c.limits.ensures.vertices,
    )

pub returns : goal.returns
returns c =
    let told : (u : ℕ) → u < c.args.graph.now.vertices → get_or c.deref.result.now u 0 ≡ load_at Nodes c.args.claims.now u =
    λ u below. ap (λ s. get_or s u 0) c.deref.ensures.value ∙ c.in_ok-nodes.ensures.each u (subst (λ k. u < k) (sym c.vertices.ensures) below) in
    IfOk-weaker _ _ (IsGrown c.args.graph.now c.args.claims.now c.args.units c.args.fusions.now)
    (λ p is. is ∙ same_tree c.args.units _ _ _ _ c.in_ok-joins.ensures
    (c.in_ok-owners.ensures ∙ owners_counted c.args.graph.now c.args.claims.now c.deref.result.now told c.requires.once))
    c.planted.ensures
