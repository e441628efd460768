use Rattle.std.proofs.Common.{◌≡◌, ◌∙◌, refl, sym}
use Rattle.fb_regions.specs.declared.roles.Role.TheVariants.{Plus, Minus, Out}
use Rattle.fb_trees.specs.TreeSteps.{step}
use Rattle.fb_search.proofs.EnteredWays.{all_entered, none_entered, one_entered, other_passed}
use Rattle.fb_search.proofs.opening.enter_way.Goals as goal

plus_not_minus : Plus ≡ Minus → ⊥
plus_not_minus e = cc

out_not_minus : Out ≡ Minus → ⊥
out_not_minus e = cc

pub loop-step-init : goal.loop-step-init
loop-step-init g c = none_entered c.args.regions.now.nodes (g.R.Roles.role_of c.args.roles.now) c.args.watch.now

pub enter_minus-requires : goal.enter_minus-requires
enter_minus-requires g c =
    c.requires c.loop-step.step-index (step 0 0) c.loop-step-test.true (sym c.role.ensures ∙ c.in-Minus.is)

pub loop-step-preserved-in-Plus : goal.loop-step-preserved-in-Plus
loop-step-preserved-in-Plus g c =
    other_passed c.args.regions.now.nodes (g.R.Roles.role_of c.args.roles.now) c.args.steps.now c.loop-step.step-index _ _ c.args.watch.now c.loop-step.watch
    c.loop-step-test.true refl (λ minus. plus_not_minus (sym c.in-Plus.is ∙ (c.role.ensures ∙ minus))) c.loop-step.invariant

pub loop-step-preserved-in-Out : goal.loop-step-preserved-in-Out
loop-step-preserved-in-Out g c =
    other_passed c.args.regions.now.nodes (g.R.Roles.role_of c.args.roles.now) c.args.steps.now c.loop-step.step-index _ _ c.args.watch.now c.loop-step.watch
    c.loop-step-test.true refl (λ minus. out_not_minus (sym c.in-Out.is ∙ (c.role.ensures ∙ minus))) c.loop-step.invariant

pub loop-step-preserved : goal.loop-step-preserved
loop-step-preserved g c =
    one_entered c.args.regions.now.nodes (g.R.Roles.role_of c.args.roles.now) c.args.steps.now c.loop-step.step-index _ _ c.args.watch.now c.loop-step.watch
    c.enter_minus.new.watch c.loop-step-test.true refl c.in_ok-enter_minus-in-Minus.ensures.ok c.loop-step.invariant

pub returns : goal.returns
returns g c =
    all_entered c.args.regions.now.nodes (g.R.Roles.role_of c.args.roles.now) c.args.steps.now c.loop-step.step-index c.args.watch.now c.loop-step.watch
    c.loop-step-test.false c.loop-step.invariant
