use Rattle.std.proofs.Common.{◌≡◌, ◌∙◌, ◌≤◌, ◌^◌, ap, arith, length, refl}
use Rattle.fb_plan.specs.Scopes.{scope_graph}
use Rattle.fb_graph.specs.Limits.{IsWithinLimits}
use Rattle.fb_graph.specs.Steps.{MayStep, stepped_nodes}
use Rattle.fb_half.specs.Parts.{problem_in}
use Rattle.fb_half.specs.Values.{part_of}
use Rattle.fb_laws.proofs.ForestMoves.{forest_state_stepped}
use Rattle.fb_trees.specs.Forests.{all_roles, trees_in}
use Rattle.fb_search.specs.InternalGrowing.{GrowingValue, roles_among}
use Rattle.fb_search.specs.InternalGrowth.{lowered_by}
use Rattle.fb_search.proofs.BegunSearches.{kept_limits}
use Rattle.fb_search.proofs.GrowingRoles.{part_even, trees_over}
use Rattle.fb_search.proofs.GrownSteps.{growing_stepped, grown_fits, grown_in_scope, may_grow, trees_in_scope}
use Rattle.fb_search.proofs.PacedTrees.{paced_moved}
use Rattle.fb_search.proofs.growing.Growing.step.Goals as goal

pub grow_all-requires : goal.grow_all-requires
grow_all-requires c =
    let w : GrowingValue = record { part = part_of c.self.inside.parts; forest = c.self.inside.forest; watched = c.self.inside.watch } in
    let may : MayStep (problem_in w.part) (roles_among w.forest) w.part.nodes c.args.by = rw (← c.self.view_is) at c.requires.may in
    let are = c.self.invariant.1 in
    let scope = c.self.inside.parts.regions.scope in
    let graph = c.self.invariant.0.scope.graph in
    record {
      forest = trees_in_scope w (scope_graph scope) scope.plan.now scope.node graph
          (trees_over w are.state.0 are.state.1 (part_even w.part are.job are.slot));
      paces = c.self.invariant.0.paces;
      may = grown_in_scope w (scope_graph scope) scope.plan.now scope.node c.args.by _ graph (may_grow w c.args.by are may);
    }

pub overflow_mul-by : goal.overflow_mul-by
overflow_mul-by c =
    let w : GrowingValue = record { part = part_of c.self.inside.parts; forest = c.self.inside.forest; watched = c.self.inside.watch } in
    let may : MayStep (problem_in w.part) (all_roles (trees_in w.forest)) w.part.nodes c.args.by =
    may_grow w c.args.by c.self.invariant.1 (rw (← c.self.view_is) at c.requires.may) in
    let some : 1 ≤ length (trees_in w.forest) = rw (← c.self.view_is) at c.requires.some in
    let scope = c.self.invariant.0.scope in
    let limits : IsWithinLimits (problem_in w.part) =
    kept_limits w.part (scope_graph c.scope.result.now) c.scope.result.now.plan.now c.scope.result.now.node
    (ap scope_graph c.scope.ensures ∙ scope.graph) (ap (λ s. s.plan.now) c.scope.ensures ∙ scope.plan)
    (ap (λ s. s.node) c.scope.ensures ∙ scope.node) c.limits.ensures in
    let fits : c.args.by ≤ 2 ^ 52 =
    grown_fits w c.args.by some c.self.invariant.1 (growing_stepped forest_state_stepped w c.args.by c.self.invariant.1 limits may) may in
    omega (arith, fits)

pub invariant_of-self : goal.invariant_of-self
invariant_of-self c =
    let w : GrowingValue = record { part = part_of c.self.inside.parts; forest = c.self.inside.forest; watched = c.self.inside.watch } in
    let may : MayStep (problem_in w.part) (all_roles (trees_in w.forest)) w.part.nodes c.args.by =
    may_grow w c.args.by c.self.invariant.1 (rw (← c.self.view_is) at c.requires.may) in
    let scope = c.self.invariant.0.scope in
    let limits : IsWithinLimits (problem_in w.part) =
    kept_limits w.part (scope_graph c.scope.result.now) c.scope.result.now.plan.now c.scope.result.now.node
    (ap scope_graph c.scope.ensures ∙ scope.graph) (ap (λ s. s.plan.now) c.scope.ensures ∙ scope.plan)
    (ap (λ s. s.node) c.scope.ensures ∙ scope.node) c.limits.ensures in
    let lowered : c.lower.new.self ≡ lowered_by c.args.by w.watched = c.lower.ensures in
    rw (c.grow_all.ensures, lowered) (
      paced_moved c.self.inside.parts w.forest (stepped_nodes (all_roles (trees_in w.forest)) c.args.by w.part.nodes) c.self.invariant.0,
      growing_stepped forest_state_stepped w c.args.by c.self.invariant.1 limits may,
    )

pub returns : goal.returns
returns c = rw (← c.self.view_is, c.grow_all.ensures, c.lower.ensures) refl
