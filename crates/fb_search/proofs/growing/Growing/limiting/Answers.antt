use Rattle.std.proofs.Common.{◌∙◌, ◌<◌, length, ap, sym}
use Rattle.fb_plan.specs.Scopes.{scope_graph}
use Rattle.fb_graph.proofs.Sets.{is_in-All}
use Rattle.fb_half.specs.Values.{part_of}
use Rattle.fb_regions.specs.Paces.{pace_in}
use Rattle.fb_search.specs.InternalGrowing.{GrowingValue}
use Rattle.fb_search.proofs.NextForests.{trees_limiting, trees_parity, trees_roles, trees_watched}
use Rattle.fb_search.proofs.PacedTrees.{paced_roles}
use Rattle.fb_search.proofs.growing.Growing.limiting.Goals as goal

pub obstacle_at-requires : goal.obstacle_at-requires
obstacle_at-requires g c =
    let w : GrowingValue = record { part = part_of c.self.inside.parts; forest = c.self.inside.forest; watched = c.self.inside.watch } in
    let pace = pace_in c.self.inside.parts.regions in
    let same = paced_roles c.self.inside.parts.regions w.forest c.self.invariant.0.paces in
    let scope = c.self.invariant.0.scope in
    record {
      same = sym c.scope.ensures;
      roles = trees_roles w c.self.invariant.1 pace same;
      parity = trees_parity w c.self.invariant.1 pace same;
      below = is_in-All (λ k. k < length (scope_graph c.scope.result.now).edges) w.watched.edges
          (trees_watched w c.self.invariant.1 pace same _ _ _ (ap scope_graph c.scope.ensures ∙ scope.graph)
          (ap (λ s. s.plan.now) c.scope.ensures ∙ scope.plan) (ap (λ s. s.node) c.scope.ensures ∙ scope.node)).within
          c.in_ok-edge.edge c.in_ok-edge.ensures;
    }

pub returns : goal.returns
returns g c =
    let w : GrowingValue = record { part = part_of c.self.inside.parts; forest = c.self.inside.forest; watched = c.self.inside.watch } in
    let scope = c.self.invariant.0.scope in
    rw (← c.self.view_is)
    (trees_limiting w c.self.invariant.1 (pace_in c.self.inside.parts.regions)
    (paced_roles c.self.inside.parts.regions w.forest c.self.invariant.0.paces) (scope_graph c.scope.result.now)
    c.scope.result.now.plan.now c.scope.result.now.node (ap scope_graph c.scope.ensures ∙ scope.graph)
    (ap (λ s. s.plan.now) c.scope.ensures ∙ scope.plan) (ap (λ s. s.node) c.scope.ensures ∙ scope.node) _ c.obstacle_at.result
    c.obstacle_at.ensures.obstacle)
