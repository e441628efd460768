use Rattle.std.proofs.Common.{◌∙◌, ◌++◌, ◌∷◌, [], ap, map, sym}
use Rattle.std.specs.List.{range_with_len}
use Rattle.fb_plan.specs.Plans.{real_owner}
use Rattle.fb_plan.proofs.Ownership.{one_more}
use Rattle.fb_plan.proofs.owners.owned_by_one.Goals as goal

pub loop-v-preserved : goal.loop-v-preserved
loop-v-preserved c =
    c.in_ok-push.ensures.items
    ∙ ap (λ xs. xs ++ c.owner.result ∷ []) c.loop-v.invariant
    ∙ ap (λ x. map (real_owner c.args.graph.now 0) (range_with_len 0 c.loop-v.v) ++ x ∷ []) c.owner.ensures
    ∙ sym (one_more c.args.graph.now 0 c.loop-v.v)
