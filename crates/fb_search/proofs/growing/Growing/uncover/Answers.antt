use Rattle.std.proofs.Common.{◌∙◌, ap, refl, sym}
use Rattle.fb_plan.specs.Scopes.{scope_graph}
use Rattle.fb_graph.specs.Limits.{IsWithinLimits}
use Rattle.fb_graph.specs.Moves.{uncovered_nodes}
use Rattle.fb_half.specs.Parts.{problem_in}
use Rattle.fb_half.specs.Values.{part_of}
use Rattle.fb_regions.specs.Paces.{pace_in}
use Rattle.fb_trees.specs.Forests.{role_among}
use Rattle.fb_laws.proofs.ForestMeasures.{forest_uncovered_less}
use Rattle.fb_laws.proofs.ForestMoves.{forest_state_uncovered}
use Rattle.fb_search.specs.InternalGrowing.{GrowingValue}
use Rattle.fb_search.proofs.BegunSearches.{kept_limits}
use Rattle.fb_search.proofs.GrowingLayers.{growing_lower, grows_on_lower, last_is_below}
use Rattle.fb_search.proofs.TakenVertices.{kept_taken}
use Rattle.fb_search.proofs.PacedTrees.{paced_moved, paced_roles}
use Rattle.fb_search.proofs.growing.Growing.uncover.Goals as goal

pub last_vertex-freed-requires : goal.last_vertex-freed-requires
last_vertex-freed-requires g c = let may = rw (← c.self.view_is) at c.requires in may.1.live

pub uncover-requires : goal.uncover-requires
uncover-requires g c = let may = rw (← c.self.view_is) at c.requires in may.1

pub watch_taken-requires-clause-same : goal.watch_taken-requires-clause-same
watch_taken-requires-clause-same g c = ap (λ r. r.scope) c.uncover.ensures ∙ sym c.scope.ensures

pub watch_taken-requires-clause-below : goal.watch_taken-requires-clause-below
watch_taken-requires-clause-below g c =
    let w : GrowingValue = record { part = part_of c.self.inside.parts; forest = c.self.inside.forest; watched = c.self.inside.watch } in
    let may = rw (← c.self.view_is) at c.requires in
    let scope = c.self.invariant.0.scope in
    let graph = ap scope_graph c.scope.ensures ∙ scope.graph in
    let limits : IsWithinLimits (problem_in w.part) =
    kept_limits w.part (scope_graph c.scope.result.now) c.scope.result.now.plan.now c.scope.result.now.node graph
    (ap (λ s. s.plan.now) c.scope.ensures ∙ scope.plan) (ap (λ s. s.node) c.scope.ensures ∙ scope.node) c.limits.ensures in
    last_is_below w c.args.node c.last_vertex-freed.result c.scope.result.now.graph.now.vertices c.self.invariant.1 may.1
    c.last_vertex-freed.ensures.last limits (ap (λ g. g.vertices) graph)

pub invariant_of-self : goal.invariant_of-self
invariant_of-self g c =
    let w : GrowingValue = record { part = part_of c.self.inside.parts; forest = c.self.inside.forest; watched = c.self.inside.watch } in
    let may = rw (← c.self.view_is) at c.requires in
    let scope = c.self.invariant.0.scope in
    let graph = ap scope_graph c.scope.ensures ∙ scope.graph in
    rw c.uncover.ensures (
      paced_moved c.self.inside.parts w.forest (uncovered_nodes c.args.node w.part.nodes) c.self.invariant.0,
      growing_lower forest_state_uncovered w c.args.node c.last_vertex-freed.result c.watch_taken.new.watch c.self.invariant.1 may.0 may.1
          c.last_vertex-freed.ensures.last c.keeps.ensures.within
          (kept_taken w.part (scope_graph c.scope.result.now) c.scope.result.now.plan.now c.scope.result.now.node c.last_vertex-freed.result
          c.last_vertex-freed.result (pace_in c.uncover.new.self) (role_among w.forest) _ _ (uncovered_nodes c.args.node w.part.nodes) w.watched
          c.watch_taken.new.watch graph refl
          (ap pace_in c.uncover.ensures ∙ paced_roles c.self.inside.parts.regions w.forest c.self.invariant.0.paces)
          (ap (λ r. r.nodes) c.uncover.ensures) refl c.watch_taken.ensures.watched),
    )

pub returns : goal.returns
returns g c =
    let may = rw (← c.self.view_is) at c.requires in
    rw (← c.self.view_is, c.uncover.ensures)
    (grows_on_lower forest_uncovered_less _ c.args.node c.watch_taken.new.watch c.self.invariant.1 may.0 may.1)
