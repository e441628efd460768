use Rattle.std.proofs.Common.{◌∙◌, ap, sym}
use Rattle.fb_graph.specs.Limits.{IsWithinLimits}
use Rattle.fb_graph.specs.Moves.{absorbed_nodes}
use Rattle.fb_graph.specs.Problem.{Problem}
use Rattle.fb_graph.specs.Steps.{Roles}
use Rattle.fb_plan.specs.Scopes.{scope_graph}
use Rattle.fb_half.specs.Parts.{problem_in}
use Rattle.fb_half.specs.Values.{part_of}
use Rattle.fb_regions.specs.Paces.{pace_in}
use Rattle.fb_trees.specs.Forests.{role_among}
use Rattle.fb_laws.proofs.ForestMeasures.{forest_absorbed_less}
use Rattle.fb_laws.proofs.ForestMoves.{forest_state_absorbed}
use Rattle.fb_search.specs.InternalGrowing.{GrowingValue, roles_among}
use Rattle.fb_search.proofs.BegunSearches.{kept_limits}
use Rattle.fb_search.proofs.GrowingLayers.{AbsorbsAt, absorbed_are, absorbs_at, growing_taller, grows_on_taller, inner_is_held, outer_is_free, taken_is, taken_real}
use Rattle.fb_search.proofs.TakenVertices.{kept_taken}
use Rattle.fb_search.proofs.PacedTrees.{paced_moved, paced_roles}
use Rattle.fb_search.proofs.growing.Growing.absorb.Goals as goal

pub absorb-requires-clause-inner : goal.absorb-requires-clause-inner
absorb-requires-clause-inner g c =
    let w : GrowingValue = record { part = part_of c.self.inside.parts; forest = c.self.inside.forest; watched = c.self.inside.watch } in
    let a : AbsorbsAt (problem_in w.part) (roles_among w.forest) w.part.nodes c.args.edge = absorbs_at _ _ _ c.args.edge (rw (← c.self.view_is) at c.requires) in
    inner_is_held _ _ _ c.args.edge a _ (ap (λ g. g.edges) c.self.invariant.0.scope.graph)

pub absorb-requires-clause-outer : goal.absorb-requires-clause-outer
absorb-requires-clause-outer g c =
    let w : GrowingValue = record { part = part_of c.self.inside.parts; forest = c.self.inside.forest; watched = c.self.inside.watch } in
    let a : AbsorbsAt (problem_in w.part) (roles_among w.forest) w.part.nodes c.args.edge = absorbs_at _ _ _ c.args.edge (rw (← c.self.view_is) at c.requires) in
    outer_is_free _ _ _ c.args.edge a _ (ap (λ g. g.edges) c.self.invariant.0.scope.graph)

pub watch_taken-requires-clause-same : goal.watch_taken-requires-clause-same
watch_taken-requires-clause-same g c = ap (λ r. r.scope) c.absorb.ensures ∙ sym c.scope.ensures

pub watch_taken-requires-clause-below : goal.watch_taken-requires-clause-below
watch_taken-requires-clause-below g c =
    let w : GrowingValue = record { part = part_of c.self.inside.parts; forest = c.self.inside.forest; watched = c.self.inside.watch } in
    let a : AbsorbsAt (problem_in w.part) (roles_among w.forest) w.part.nodes c.args.edge = absorbs_at _ _ _ c.args.edge (rw (← c.self.view_is) at c.requires) in
    let scope = c.self.invariant.0.scope in
    let graph = ap scope_graph c.scope.ensures ∙ scope.graph in
    let plan = ap (λ s. s.plan.now) c.scope.ensures ∙ scope.plan in
    let node = ap (λ s. s.node) c.scope.ensures ∙ scope.node in
    let limits : IsWithinLimits (problem_in w.part) =
    kept_limits w.part (scope_graph c.scope.result.now) c.scope.result.now.plan.now c.scope.result.now.node graph plan node c.limits.ensures in
    taken_real _ _ _ c.args.edge a _ (ap (λ g. g.edges) graph) c.free_end-taken.result c.scope.result.now.graph.now.vertices limits
    (taken_is _ _ _ c.args.edge a _ (ap (λ g. g.edges) graph) c.free_end-taken.result c.free_end-taken.ensures)
    (ap (λ g. g.vertices) graph)

pub invariant_of-self : goal.invariant_of-self
invariant_of-self g c =
    let w : GrowingValue = record { part = part_of c.self.inside.parts; forest = c.self.inside.forest; watched = c.self.inside.watch } in
    let p : Problem = problem_in w.part in
    let roles : Roles = roles_among w.forest in
    let a : AbsorbsAt p roles w.part.nodes c.args.edge = absorbs_at p roles w.part.nodes c.args.edge (rw (← c.self.view_is) at c.requires) in
    let scope = c.self.invariant.0.scope in
    let graph = ap scope_graph c.scope.ensures ∙ scope.graph in
    let plan = ap (λ s. s.plan.now) c.scope.ensures ∙ scope.plan in
    let node = ap (λ s. s.node) c.scope.ensures ∙ scope.node in
    let limits : IsWithinLimits p =
    kept_limits w.part (scope_graph c.scope.result.now) c.scope.result.now.plan.now c.scope.result.now.node graph plan node c.limits.ensures in
    let at = taken_is p roles w.part.nodes c.args.edge a _ (ap (λ g. g.edges) graph) c.free_end-taken.result c.free_end-taken.ensures in
    rw (c.absorb.ensures, absorbed_are p roles w.part.nodes c.args.edge a _ (ap (λ g. g.edges) scope.graph)) (
      paced_moved c.self.inside.parts w.forest (absorbed_nodes a.name a.to w.part.nodes) c.self.invariant.0,
      growing_taller forest_state_absorbed w c.args.edge a.from a.to a.name c.watch_taken.new.watch c.self.invariant.1 limits a.may a.plus
          c.keeps.ensures.within
          (kept_taken w.part (scope_graph c.scope.result.now) c.scope.result.now.plan.now c.scope.result.now.node c.free_end-taken.result a.to
          (pace_in c.absorb.new.self) (role_among w.forest) _ _
          (absorbed_nodes a.name a.to w.part.nodes) w.watched c.watch_taken.new.watch graph at
          (ap pace_in c.absorb.ensures ∙ paced_roles c.self.inside.parts.regions w.forest c.self.invariant.0.paces)
          (ap (λ r. r.nodes) c.absorb.ensures)
          (absorbed_are p roles w.part.nodes c.args.edge a _ (ap (λ g. g.edges) scope.graph)) c.watch_taken.ensures.watched),
    )

pub returns : goal.returns
returns g c =
    let w : GrowingValue = record { part = part_of c.self.inside.parts; forest = c.self.inside.forest; watched = c.self.inside.watch } in
    let p : Problem = problem_in w.part in
    let roles : Roles = roles_among w.forest in
    let a : AbsorbsAt p roles w.part.nodes c.args.edge = absorbs_at p roles w.part.nodes c.args.edge (rw (← c.self.view_is) at c.requires) in
    let scope = c.self.invariant.0.scope in
    let graph = ap scope_graph c.scope.ensures ∙ scope.graph in
    let plan = ap (λ s. s.plan.now) c.scope.ensures ∙ scope.plan in
    let node = ap (λ s. s.node) c.scope.ensures ∙ scope.node in
    let limits : IsWithinLimits p =
    kept_limits w.part (scope_graph c.scope.result.now) c.scope.result.now.plan.now c.scope.result.now.node graph plan node c.limits.ensures in
    rw (← c.self.view_is, c.absorb.ensures, absorbed_are p roles w.part.nodes c.args.edge a _ (ap (λ g. g.edges) scope.graph))
    (grows_on_taller forest_absorbed_less w c.args.edge a.from a.to a.name c.watch_taken.new.watch c.self.invariant.1 limits a.may a.plus)
