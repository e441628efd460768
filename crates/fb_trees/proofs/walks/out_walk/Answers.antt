use Rattle.std.proofs.Common.{◌≡◌, ◌++◌, ◌∷◌, [], ◌∙◌}
use Rattle.fb_trees.proofs.TightWalks.{out_chained, out_held, out_walk, walk_over_source}
use Rattle.fb_trees.proofs.walks.out_walk.Goals as goal

pub push_source_walk-requires : goal.push_source_walk-requires
push_source_walk-requires g c =
    out_held (g.S.Scope.problem c.args.regions.now.scope) c.args.regions.now.nodes c.args.edge c.requires.out.0
    c.requires.out.1 _ c.keeps.ensures.nest.dual c.requires.out.2 c.step_over-step.ensures

pub from_vec-requires : goal.from_vec-requires
from_vec-requires g c =
    let up = c.in_ok-push_source_walk.ensures in
    let joined : c.push.new.self.items ≡ up.walk ++ c.step_over-step.result ∷ [] =
    walk_over_source _ _ _ up.walk c.step_over-step.result c.requires.empty up.added c.in_ok-push.ensures.items in
    rw joined
    (out_chained (g.S.Scope.problem c.args.regions.now.scope) c.args.regions.now.nodes c.args.edge c.requires.out.0
    c.requires.out.1 _ c.keeps.ensures.nest.dual c.requires.out.2 c.step_over-step.ensures _ up.leads)

pub returns-clause-source : goal.returns-clause-source
returns-clause-source g c =
    let up = c.in_ok-push_source_walk.ensures in
    let joined : c.push.new.self.items ≡ up.walk ++ c.step_over-step.result ∷ [] =
    walk_over_source _ _ _ up.walk c.step_over-step.result c.requires.empty up.added c.in_ok-push.ensures.items in
    record {
      up = up.walk;
      step = c.step_over-step.result;
      joined = c.from_vec.ensures ∙ joined;
      over = c.step_over-step.ensures;
      inner = up.leads;
    }

pub returns-clause-out : goal.returns-clause-out
returns-clause-out g c = λ a v is.
    let up = c.in_ok-push_source_walk.ensures in
    let joined : c.push.new.self.items ≡ up.walk ++ c.step_over-step.result ∷ [] =
    walk_over_source _ _ _ up.walk c.step_over-step.result c.requires.empty up.added c.in_ok-push.ensures.items in
    rw (c.from_vec.ensures, joined)
    (out_walk (g.S.Scope.problem c.args.regions.now.scope) c.args.regions.now.nodes c.args.edge a v _
    c.keeps.ensures.nest.dual is c.step_over-step.ensures _ up.leads)
