use Rattle.std.proofs.Common.{◌<◌, ◌∙◌, None, ap, get_or, length, subst, sym, arith}
use Rattle.std.proofs.lemmas.Result.{IfOk-weaker}
use Rattle.fb_plan.specs.Plans.{IsPlan}
use Rattle.fb_plan.proofs.Ownership.{single_count, single_from, single_is_plan, single_owner_below}
use Rattle.fb_plan.proofs.plan.Plan.single.Goals as goal

pub planted-requires-clause-owners : goal.planted-requires-clause-owners
planted-requires-clause-owners c v n is =
    let below : n < 1 = single_owner_below c.args.graph.now v n (ap (λ os. get_or os v None) (sym c.in_ok-owners.ensures) ∙ is) in
    omega (arith, below)

pub planted-requires-clause-count : goal.planted-requires-clause-count
planted-requires-clause-count c =
    omega (arith, ap length c.in_ok-owners.ensures, single_count c.args.graph.now, c.limits.ensures.vertices)

pub returns-clause-valid : goal.returns-clause-valid
returns-clause-valid c =
    IfOk-weaker _ _ (IsPlan c.args.graph.now)
    (λ p is. subst (IsPlan c.args.graph.now) (sym (is ∙ single_from c.args.graph.now _ _ c.new.ensures.items c.in_ok-owners.ensures)) (single_is_plan c.args.graph.now))
    c.planted.ensures
