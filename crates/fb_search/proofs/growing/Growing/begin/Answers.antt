use Rattle.std.proofs.Common.{ℕ, ◌≡◌, ◌∙◌, ◌&&◌, if◌then◌else◌, true, All, ap, get_or, length, subst, sym}
use Rattle.fb_graph.specs.Parity.{is_in}
use Rattle.fb_graph.specs.Dual.{is_live}
use Rattle.fb_plan.specs.Scopes.{scope_graph}
use Rattle.fb_half.specs.Parts.{IsPart, problem_in}
use Rattle.fb_half.specs.Values.{part_of}
use Rattle.fb_regions.specs.Paces.{pace_in}
use Rattle.fb_trees.specs.Forests.{AreInPace, role_among}
use Rattle.fb_search.specs.InternalGrowing.{IsGrowing}
use Rattle.fb_search.proofs.BegunForests.{growing_begun}
use Rattle.fb_search.proofs.DissolvedWatches.{kept_each}
use Rattle.fb_search.proofs.BegunSearches.{kept_limits}
use Rattle.fb_search.proofs.PacedTrees.{paces_begun, scope_at_rest, scope_repaced}
use Rattle.fb_search.proofs.growing.Growing.begin.Goals as goal

pub watch_nodes-requires-clause-live : goal.watch_nodes-requires-clause-live
watch_nodes-requires-clause-live c =
    let part = part_of c.pieces_of-parts.result in
    let are = subst IsPart (sym c.pieces_of-parts.ensures.value) c.keeps.ensures in
    let unmatched : All (λ n. is_in part.matching.unmatched n ≡ true) c.args.roots.now =
    subst (λ w. All (λ n. is_in w.matching.unmatched n ≡ true) c.args.roots.now) (sym c.pieces_of-parts.ensures.value) c.requires.unmatched in
    λ k d less. are.state.names.live (get_or c.args.roots.now k d) (unmatched k d less)

pub watch_nodes-requires-clause-room : goal.watch_nodes-requires-clause-room
watch_nodes-requires-clause-room c =
    ap (λ w. w.edge_count) c.clear.ensures ∙ c.requires.room
    ∙ sym (ap (λ w. length (problem_in w).edges) c.pieces_of-parts.ensures.value)
    ∙ sym (ap (λ g. length g.edges) c.pieces_of-parts.ensures.scope.graph)

pub invariant_of-result : goal.invariant_of-result
invariant_of-result c =
    let parts = c.pieces_of-parts.result in
    let part = part_of parts in
    let old = parts.regions in
    let new = c.set_paces.new.regions in
    let scope = c.pieces_of-parts.ensures.scope in
    let graph = ap scope_graph c.scope.ensures ∙ scope.graph in
    let plan = ap (λ s. s.plan.now) c.scope.ensures ∙ scope.plan in
    let node = ap (λ s. s.node) c.scope.ensures ∙ scope.node in
    let are = subst IsPart (sym c.pieces_of-parts.ensures.value) c.keeps.ensures in
    let unmatched : All (λ n. is_in part.matching.unmatched n ≡ true) c.args.roots.now =
    subst (λ w. All (λ n. is_in w.matching.unmatched n ≡ true) c.args.roots.now) (sym c.pieces_of-parts.ensures.value) c.requires.unmatched in
    let live : All (λ n. is_live old.nodes n ≡ true) c.args.roots.now =
    λ k d less. are.state.names.live (get_or c.args.roots.now k d) (unmatched k d less) in
    let paces =
    subst
    (λ f. (n : ℕ) → pace_in new n ≡ (if is_in c.args.roots.now n && is_live old.nodes n then role_among f n else pace_in old n))
    c.requires.forest c.set_paces.ensures.paces in (
      record {
        scope = scope_repaced parts new c.set_paces.ensures.same (scope_at_rest parts scope);
        paces = subst (AreInPace new) (sym c.requires.forest) (paces_begun c.args.roots.now old new scope.rest live paces);
      },
      subst (λ ns. IsGrowing (record { part = record part { nodes = ns }; forest = c.args.forest; watched = c.watch_nodes.new.watch }))
          (sym (ap (λ r. r.nodes) c.set_paces.ensures.same))
          (subst (λ f. IsGrowing (record { part = part; forest = f; watched = c.watch_nodes.new.watch })) (sym c.requires.forest)
          (growing_begun c.args.roots.now part c.clear.new.self c.watch_nodes.new.watch c.requires.distinct unmatched are
          (kept_limits part (scope_graph c.scope.result.now) c.scope.result.now.plan.now c.scope.result.now.node graph plan node c.limits.ensures)
          c.keeps-2.ensures.within
          (ap (λ w. w.edge_count) c.clear.ensures ∙ c.requires.room ∙ sym (ap (λ w. length (problem_in w).edges) c.pieces_of-parts.ensures.value))
          (ap (λ w. w.edges) c.clear.ensures)
          (kept_each part (scope_graph old.scope) old.scope.plan.now old.scope.node
          part.nodes c.args.roots.now c.clear.new.self c.watch_nodes.new.watch scope.graph c.watch_nodes.ensures))),
    )

pub returns : goal.returns
returns c = record {
  part =
      ap (λ r. record (part_of c.pieces_of-parts.result) { nodes = r.nodes }) c.set_paces.ensures.same ∙ c.pieces_of-parts.ensures.value;
  forest = c.requires.forest;
}
