use Rattle.std.proofs.Common.{◌<◌, ◌∙◌, length, None, refl, subst, sym, IfSome}
use Rattle.std.proofs.lemmas.List.{get_or_read_under}
use Rattle.fb_plan.specs.Plans.{node_count}
use Rattle.fb_plan.proofs.Roots.{each_if_some}
use Rattle.fb_plan.proofs.plan.Plan.owner.Goals as goal

pub returns-clause-node : goal.returns-clause-node
returns-clause-node c =
    let within : c.args.v < length c.self.inside.owners.items = subst (λ t. c.args.v < length t.owners) (sym c.self.view_is) c.requires in
    subst (λ t. IfSome c.index.result.now (λ n. n < node_count t)) c.self.view_is
    (each_if_some _ _ (λ n is. c.self.invariant.owners c.args.v n
    (sym (get_or_read_under c.self.inside.owners.items c.args.v (length c.self.inside.owners.items) c.index.result.now None c.index.ensures within refl) ∙ is)))
