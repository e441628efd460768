use Rattle.std.proofs.Common.{◌<◌, length, sym, subst, ◌∙◌}
use Rattle.std.proofs.lemmas.List.{get_or_default}
use Rattle.fb_graph.specs.Limits.{IsShot, no_shot}
use Rattle.fb_plan.proofs.job.Job.scope.Goals as goal

pub invariant_of-result : goal.invariant_of-result
invariant_of-result c =
    let less : c.args.slot < length c.self.inside.shots.items =
    subst (λ j. c.args.slot < length j.shots) (sym c.self.view_is) c.requires.slot in
    record {
      fits = subst (IsShot c.self.inside.graph.now) (sym c.index.ensures)
          (c.self.invariant.shots c.args.slot c.index.result.now less);
    }
