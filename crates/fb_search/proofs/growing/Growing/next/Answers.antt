use Rattle.std.proofs.Common.{◌∙◌, ap, sym}
use Rattle.fb_plan.specs.Scopes.{scope_graph}
use Rattle.fb_half.specs.Values.{part_of}
use Rattle.fb_regions.specs.Paces.{pace_in}
use Rattle.fb_search.specs.InternalGrowing.{GrowingValue}
use Rattle.fb_search.proofs.NextForests.{growing_rewatched, trees_bounded, trees_even, trees_live, trees_minus, trees_obstacle, trees_parity, trees_plus, trees_roles, trees_watched}
use Rattle.fb_search.proofs.PacedTrees.{paced_roles}
use Rattle.fb_search.proofs.growing.Growing.next.Goals as goal

pub next_obstacle-requires : goal.next_obstacle-requires
next_obstacle-requires g c =
    let w : GrowingValue = record { part = part_of c.self.inside.parts; forest = c.self.inside.forest; watched = c.self.inside.watch } in
    let pace = pace_in c.self.inside.parts.regions in
    let same = paced_roles c.self.inside.parts.regions w.forest c.self.invariant.0.paces in
    let are = c.self.invariant.1 in
    let scope = c.self.invariant.0.scope in
    let graph = ap scope_graph c.scope.ensures ∙ scope.graph in
    let plan = ap (λ s. s.plan.now) c.scope.ensures ∙ scope.plan in
    let node = ap (λ s. s.node) c.scope.ensures ∙ scope.node in
    record {
      same = sym c.scope.ensures;
      plus = trees_plus w are pace same (rw (← c.self.view_is) at c.requires.some);
      roles = trees_roles w are pace same;
      live = trees_live w are pace same;
      minus = trees_minus w are pace same;
      parity = trees_parity w are pace same;
      even = trees_even w are pace same _ _ _ graph plan node;
      watched = trees_watched w are pace same _ _ _ graph plan node;
      bounded = trees_bounded w are pace same _ _ _ graph plan node;
    }

pub returns-clause-obstacle : goal.returns-clause-obstacle
returns-clause-obstacle g c =
    let w : GrowingValue = record { part = part_of c.self.inside.parts; forest = c.self.inside.forest; watched = c.self.inside.watch } in
    let scope = c.self.invariant.0.scope in
    trees_obstacle w c.self.invariant.1 (pace_in c.self.inside.parts.regions)
    (paced_roles c.self.inside.parts.regions w.forest c.self.invariant.0.paces) (scope_graph c.scope.result.now)
    c.scope.result.now.plan.now c.scope.result.now.node (ap scope_graph c.scope.ensures ∙ scope.graph)
    (ap (λ s. s.plan.now) c.scope.ensures ∙ scope.plan) (ap (λ s. s.node) c.scope.ensures ∙ scope.node) c.next_obstacle.result
    c.next_obstacle.ensures.obstacle

pub invariant_of-self : goal.invariant_of-self
invariant_of-self g c =
    let w : GrowingValue = record { part = part_of c.self.inside.parts; forest = c.self.inside.forest; watched = c.self.inside.watch } in
    let scope = c.self.invariant.0.scope in (
      c.self.invariant.0,
      growing_rewatched w c.self.invariant.1 (pace_in c.self.inside.parts.regions)
          (paced_roles c.self.inside.parts.regions w.forest c.self.invariant.0.paces) (scope_graph c.scope.result.now)
          c.scope.result.now.plan.now c.scope.result.now.node (ap scope_graph c.scope.ensures ∙ scope.graph)
          (ap (λ s. s.plan.now) c.scope.ensures ∙ scope.plan) (ap (λ s. s.node) c.scope.ensures ∙ scope.node)
          c.next_obstacle.new.watch c.next_obstacle.ensures.left.room c.next_obstacle.ensures.watched c.next_obstacle.ensures.bounded
          c.next_obstacle.ensures.minus,
    )
