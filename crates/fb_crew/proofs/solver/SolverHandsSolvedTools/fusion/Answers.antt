use Rattle.std.proofs.Common.{ℕ, ap, subst, ◌∙◌}
use Rattle.fb_half.specs.Parts.{IsPartOf}
use Rattle.fb_plan.specs.Plans.{JobValue, root_of}
use Rattle.fb_crew.proofs.Rooted.{children_below, fusion_below, item_of_part, returns_piece}
use Rattle.fb_crew.proofs.solver.SolverHandsSolvedTools.fusion.Goals as goal

pub into_half-right-requires : goal.into_half-right-requires
into_half-right-requires c top =
    (children_below c.args.self.now.job.now c.keeps.ensures.plan.tree _ _ _ c.requires.children.nodes).1
    (top ∙ ap (λ (job : JobValue). root_of job.plan) c.requires.children.right_job)

pub returns : goal.returns
returns c = record {
  piece = returns_piece c.args.self.now.job.now c.args._slot c.args.node c.of.result
      (fusion_below c.args.self.now.job.now c.args.node _ _ c.requires.children.nodes)
      (item_of_part c.args.self.now.job.now c.args._slot c.args.node c.in_ok-half.half c.of.result
      (subst (λ (s : ℕ). IsPartOf c.args.self.now.job.now s c.args.node c.in_ok-half.half)
      (c.into_half-left.ensures.slot ∙ c.requires.children.left_slot) c.in_ok-half.ensures) c.of.ensures);
}
