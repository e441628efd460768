use Rattle.std.proofs.Common.{◌∙◌, ◌++◌, ◌∷◌, [], ap, map, sym}
use Rattle.std.specs.List.{range_with_len}
use Rattle.fb_plan.specs.InternalLayout.{given_owner}
use Rattle.fb_plan.proofs.Ownership.{given_more}
use Rattle.fb_plan.proofs.owners.owned_by.Goals as goal

pub loop-v-preserved : goal.loop-v-preserved
loop-v-preserved c =
    c.in_ok-push.ensures.items
    ∙ ap (λ xs. xs ++ c.given_owner.result ∷ []) c.loop-v.invariant
    ∙ ap (λ x. map (given_owner c.args.graph.now c.args.nodes.now) (range_with_len 0 c.loop-v.v) ++ x ∷ []) c.given_owner.ensures
    ∙ sym (given_more c.args.graph.now c.args.nodes.now c.loop-v.v)
