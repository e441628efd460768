use Rattle.std.proofs.Common.{◌∙◌, filter, sym, subst}
use Rattle.fb_graph.specs.Limits.{no_shot}
use Rattle.fb_graph.specs.Signs.{shifted_defects}
use Rattle.fb_plan.specs.Plans.{problem_at}
use Rattle.fb_plan.specs.Reaches.{IsReach}
use Rattle.fb_half.specs.InternalBeginnings.{LiesWithin}
use Rattle.fb_half.proofs.BegunParts.{scope_real}
use Rattle.fb_half.proofs.Reached.{unit_within}
use Rattle.fb_half.proofs.start.defects_at.Goals as goal

pub own_defects-requires : goal.own_defects-requires
own_defects-requires c =
    subst (λ g. LiesWithin (problem_at g c.scope-scope.result.plan.now c.scope-scope.result.node no_shot) c.reach-reach.result) (sym c.scope-scope.ensures.graph)
    (subst (λ t. LiesWithin (problem_at c.args.job.now.graph t c.scope-scope.result.node no_shot) c.reach-reach.result) (sym c.scope-scope.ensures.plan)
    (subst (λ n. LiesWithin (problem_at c.args.job.now.graph c.args.job.now.plan n no_shot) c.reach-reach.result) (sym c.scope-scope.ensures.node)
    (unit_within c.args.job.now.graph c.args.job.now.plan c.args.node c.reach-reach.result c.requires.unit
    (subst (λ t. IsReach t.owners c.args.node c.reach-reach.result) c.plan.ensures c.reach-reach.ensures))))

pub returns-clause-given : goal.returns-clause-given
returns-clause-given c =
    c.in_ok-own.ensures.given
    ∙ (λ i. filter (scope_real c.scope-scope.result c.args.job.now.graph c.args.job.now.plan c.args.node c.scope-scope.ensures.graph c.scope-scope.ensures.plan c.scope-scope.ensures.node i)
    (c.scope-scope.ensures.shot i).defects)

pub returns-clause-shifted : goal.returns-clause-shifted
returns-clause-shifted c =
    c.in_ok-own.ensures.shifted
    ∙ (λ i. filter (scope_real c.scope-scope.result c.args.job.now.graph c.args.job.now.plan c.args.node c.scope-scope.ensures.graph c.scope-scope.ensures.plan c.scope-scope.ensures.node i)
    (shifted_defects (c.scope-scope.ensures.graph i) (c.scope-scope.ensures.shot i)))
