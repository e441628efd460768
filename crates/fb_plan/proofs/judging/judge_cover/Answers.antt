use Rattle.std.proofs.Common.{◌∙◌, Some, ap, get_or, subst, sym, ◌<◌}
use Rattle.std.specs.Prelude.{option_map}
use Rattle.fb_plan.specs.Rules.{twice_fault, unowned_fault}
use Rattle.fb_plan.specs.declared.faults.PlanFault.TheVariants.{VertexTwice, VertexUnowned}
use Rattle.fb_plan.proofs.Stages.{AreCounts, no_fault, second_fault, twice_counted, unowned_counted}
use Rattle.fb_plan.proofs.judging.judge_cover.Goals as goal

pub returns-in-Some-first_twice : goal.returns-in-Some-first_twice
returns-in-Some-first_twice c =
    let told : AreCounts c.args.graph.now c.args.claims.now c.deref.result.now =
    λ v less. ap (λ s. get_or s v 0) c.deref.ensures.value ∙ c.in_ok-counts.ensures.each v (subst (λ n. v < n) (sym c.vertices.ensures) less) in
    let told_again : AreCounts c.args.graph.now c.args.claims.now c.deref-2.result.now =
    λ v less. ap (λ s. get_or s v 0) c.deref-2.ensures.value ∙ c.in_ok-counts.ensures.each v (subst (λ n. v < n) (sym c.vertices.ensures) less) in
    second_fault (unowned_fault c.args.graph.now c.args.claims.now) (twice_fault c.args.graph.now c.args.claims.now) _
    (ap (option_map VertexUnowned) (sym (unowned_counted c.args.graph.now c.args.claims.now c.deref.result.now told)
    ∙ sym c.first_unowned.ensures ∙ c.in-None.is))
    (ap (option_map VertexTwice) (sym (twice_counted c.args.graph.now c.args.claims.now c.deref-2.result.now told_again)
    ∙ sym c.first_twice.ensures ∙ c.in-Some-first_twice.is)
    ∙ ap (λ k. Some (VertexTwice k)) (sym c.from-in-Some-first_twice.ensures))

pub returns : goal.returns
returns c =
    let told : AreCounts c.args.graph.now c.args.claims.now c.deref.result.now =
    λ v less. ap (λ s. get_or s v 0) c.deref.ensures.value ∙ c.in_ok-counts.ensures.each v (subst (λ n. v < n) (sym c.vertices.ensures) less) in
    let told_again : AreCounts c.args.graph.now c.args.claims.now c.deref-2.result.now =
    λ v less. ap (λ s. get_or s v 0) c.deref-2.ensures.value ∙ c.in_ok-counts.ensures.each v (subst (λ n. v < n) (sym c.vertices.ensures) less) in
    no_fault (unowned_fault c.args.graph.now c.args.claims.now) (twice_fault c.args.graph.now c.args.claims.now)
    (ap (option_map VertexUnowned) (sym (unowned_counted c.args.graph.now c.args.claims.now c.deref.result.now told)
    ∙ sym c.first_unowned.ensures ∙ c.in-None.is))
    (ap (option_map VertexTwice) (sym (twice_counted c.args.graph.now c.args.claims.now c.deref-2.result.now told_again)
    ∙ sym c.first_twice.ensures ∙ c.in-None-first_twice.is))
