use Rattle.std.proofs.Common.{◌∙◌, ◌++◌, ◌∷◌, [], get_or, map, take, sym, ap, append_assoc}
use Rattle.std.proofs.lemmas.List.{map_more}
use Rattle.fb_links.specs.declared.walk.Step.{Step}
use Rattle.fb_resolve.proofs.rows.push_walk.Goals as goal

pub loop-step-preserved : goal.loop-step-preserved
loop-step-preserved c =
    let none : Step = record { from = 0; to = 0; edge = 0; weight = 0 } in
    let walk = c.steps-step-items.result.now in
    c.in_ok-push.ensures.items
    ∙ (ap (λ l. l ++ (get_or walk c.loop-step.step-index none).edge ∷ []) c.loop-step.invariant
    ∙ (append_assoc c.args.edges.now.items (map (λ (s : Step). s.edge) (take c.loop-step.step-index walk)) _
    ∙ ap (λ l. c.args.edges.now.items ++ l) (sym (map_more (λ (s : Step). s.edge) walk c.loop-step.step-index none c.loop-step-test.true))))
