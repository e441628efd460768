use Rattle.std.proofs.Common.{ℕ, ◌≡◌, ◌+◌, ◌<◌, All, length, subst, sym}
use Rattle.fb_plan.specs.InternalLayout.{IsPlaced, IsSorted, IsSpan, tree_of}
use Rattle.fb_plan.specs.Reaches.{IsReach, reach_at}
use Rattle.fb_plan.proofs.Extents.{spans_are}
use Rattle.fb_plan.proofs.Tables.{laid_out}
use Rattle.fb_plan.proofs.plan.Plan.planted.Goals as goal

pub invariant_of-result : goal.invariant_of-result
invariant_of-result c =
    laid_out c.args.units c.args.joins.items c.as_slice-fusions.result.now c.args.owners.items c.in_ok-parents.parents.items c.in_ok-spans.spans.items c.in_ok-reaches.reaches.items
    c.in_ok-order.order
    c.as_slice-fusions.ensures.value c.requires.tree c.requires.owners c.requires.count
    c.in_ok-parents.ensures.count c.in_ok-parents.ensures.each c.in_ok-spans.ensures.count c.in_ok-spans.ensures.placed c.in_ok-reaches.ensures.count
    (subst (λ os. (n : ℕ) → n < c.args.units + length c.as_slice-fusions.result.now → IsReach os n (reach_at c.in_ok-reaches.reaches.items n))
    c.as_slice.ensures.value c.in_ok-reaches.ensures.each)
    (subst (λ ss. IsSorted c.args.owners.items ss c.in_ok-order.order) c.as_slice-3.ensures.value
    (subst (λ os. IsSorted os c.as_slice-3.result.now c.in_ok-order.order) c.as_slice-2.ensures.value c.in_ok-order.ensures))

pub order_of-requires-clause-spans : goal.order_of-requires-clause-spans
order_of-requires-clause-spans c =
    subst (λ ss. All (IsSpan (length ss)) ss) (sym c.as_slice-3.ensures.value)
    (spans_are (tree_of c.args.units c.args.joins.items) c.in_ok-spans.spans.items c.requires.tree
    (subst (λ js. IsPlaced (tree_of c.args.units js) c.in_ok-spans.spans.items) c.as_slice-fusions.ensures.value c.in_ok-spans.ensures.placed)
    (subst (λ js. length c.in_ok-spans.spans.items ≡ c.args.units + length js) c.as_slice-fusions.ensures.value c.in_ok-spans.ensures.count))
