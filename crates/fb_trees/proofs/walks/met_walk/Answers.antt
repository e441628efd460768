use Rattle.std.proofs.Common.{◌≡◌, ◌++◌, ◌∷◌, [], ◌∙◌, arith}
use Rattle.fb_links.specs.Walks.{turned_walk}
use Rattle.fb_trees.proofs.TightWalks.{between_chained, between_held, between_walk, walk_over_sources}
use Rattle.fb_trees.proofs.walks.met_walk.Goals as goal

pub push_source_walk-requires : goal.push_source_walk-requires
push_source_walk-requires g c =
    (between_held (g.S.Scope.problem c.args.regions.now.scope) c.args.regions.now.nodes c.args.edge c.requires.between.0
    c.requires.between.1 _ c.requires.between.2 c.step_along-step.ensures).0

pub push_source_walk-requires-2 : goal.push_source_walk-requires-2
push_source_walk-requires-2 g c =
    (between_held (g.S.Scope.problem c.args.regions.now.scope) c.args.regions.now.nodes c.args.edge c.requires.between.0
    c.requires.between.1 _ c.requires.between.2 c.step_along-step.ensures).1

pub from_vec-requires : goal.from_vec-requires
from_vec-requires g c =
    let up = c.in_ok-push_source_walk.ensures in
    let down = c.in_ok-push_source_walk-2.ensures in
    let joined : c.turn_from.new.steps.items ≡ (up.walk ++ c.step_along-step.result ∷ []) ++ turned_walk down.walk =
    walk_over_sources _ _ _ _ _ up.walk down.walk c.step_along-step.result c.len-back.result c.requires.empty up.added
    c.in_ok-push.ensures.items (omega (arith, c.push.new.self.ok.0)) down.added c.turn_from.ensures in
    rw joined
    (between_chained (g.S.Scope.problem c.args.regions.now.scope) c.args.regions.now.nodes c.args.edge c.requires.between.0
    c.requires.between.1 _ _ _ c.keeps.ensures.nest.dual c.requires.between.2 c.step_along-step.ensures up.leads down.leads)

pub returns-clause-sources : goal.returns-clause-sources
returns-clause-sources g c =
    let up = c.in_ok-push_source_walk.ensures in
    let down = c.in_ok-push_source_walk-2.ensures in
    let joined : c.turn_from.new.steps.items ≡ (up.walk ++ c.step_along-step.result ∷ []) ++ turned_walk down.walk =
    walk_over_sources _ _ _ _ _ up.walk down.walk c.step_along-step.result c.len-back.result c.requires.empty up.added
    c.in_ok-push.ensures.items (omega (arith, c.push.new.self.ok.0)) down.added c.turn_from.ensures in
    record {
      up = up.walk;
      step = c.step_along-step.result;
      down = down.walk;
      joined = c.from_vec.ensures ∙ joined;
      over = c.step_along-step.ensures;
      first = up.leads;
      second = down.leads;
    }

pub returns-clause-between : goal.returns-clause-between
returns-clause-between g c = λ a b is.
    let up = c.in_ok-push_source_walk.ensures in
    let down = c.in_ok-push_source_walk-2.ensures in
    let joined : c.turn_from.new.steps.items ≡ (up.walk ++ c.step_along-step.result ∷ []) ++ turned_walk down.walk =
    walk_over_sources _ _ _ _ _ up.walk down.walk c.step_along-step.result c.len-back.result c.requires.empty up.added
    c.in_ok-push.ensures.items (omega (arith, c.push.new.self.ok.0)) down.added c.turn_from.ensures in
    rw (c.from_vec.ensures, joined)
    (between_walk (g.S.Scope.problem c.args.regions.now.scope) c.args.regions.now.nodes c.args.edge a b _ _ _
    c.keeps.ensures.nest.dual is c.step_along-step.ensures up.leads down.leads)
