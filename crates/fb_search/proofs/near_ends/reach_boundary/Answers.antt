use Rattle.std.proofs.Common.{◌∙◌, ap, subst, sym}
use Rattle.fb_graph.specs.Limits.{IsWithinLimits}
use Rattle.fb_half.specs.Parts.{PartValue, problem_in}
use Rattle.fb_half.specs.Translations.{link_by}
use Rattle.fb_half.specs.Values.{IsScopeOf, part_of}
use Rattle.fb_search.proofs.ListedSteps.{far_asked, near_out_listed, owner_scoped, scope_is}
use Rattle.fb_search.proofs.NearMatches.{boundary_listed, boundary_matched, boundary_out, boundary_step, boundary_tree, boundary_walk, limits_scoped}
use Rattle.fb_search.proofs.near_ends.reach_boundary.Goals as goal

pub grow_node-requires-clause-tree : goal.grow_node-requires-clause-tree
grow_node-requires-clause-tree c =
    let part : PartValue = part_of c.args.parts.now in
    let scope = c.args.parts.now.regions.scope in
    let limits : IsWithinLimits (problem_in part) =
    limits_scoped part scope c.scope.result.now c.scope.ensures (scope_is _ c.requires.scope) c.limits.ensures in
    boundary_tree part c.args.root c.args.edge c.args.length c.requires.part limits c.requires.unmatched c.requires.near scope (scope_is _ c.requires.scope)

pub grow_node-requires-clause-may : goal.grow_node-requires-clause-may
grow_node-requires-clause-may c =
    let part : PartValue = part_of c.args.parts.now in
    let scope = c.args.parts.now.regions.scope in
    let limits : IsWithinLimits (problem_in part) =
    limits_scoped part scope c.scope.result.now c.scope.ensures (scope_is _ c.requires.scope) c.limits.ensures in
    boundary_step part c.args.root c.args.edge c.args.length c.requires.part limits c.requires.unmatched c.requires.near scope (scope_is _ c.requires.scope)

pub link_out-requires : goal.link_out-requires
link_out-requires c =
    let part : PartValue = part_of c.args.parts.now in
    let scope = c.args.parts.now.regions.scope in
    let limits : IsWithinLimits (problem_in part) =
    limits_scoped part scope c.scope.result.now c.scope.ensures (scope_is _ c.requires.scope) c.limits.ensures in
    rw c.grow_node.ensures (boundary_out part c.args.root c.args.edge c.args.length c.requires.part limits c.requires.unmatched c.requires.near scope (scope_is _ c.requires.scope))

pub far_owner-owner-requires-clause-ends : goal.far_owner-owner-requires-clause-ends
far_owner-owner-requires-clause-ends c =
    let part : PartValue = part_of c.args.parts.now in
    let scope = c.args.parts.now.regions.scope in
    let own = scope_is _ c.requires.scope in
    let limits : IsWithinLimits (problem_in part) =
    limits_scoped part scope c.scope.result.now c.scope.ensures own c.limits.ensures in
    let made = rw c.grow_node.ensures at c.in_ok-link.ensures in
    let outs =
    (boundary_walk part c.args.root c.args.edge c.args.length c.requires.part limits c.requires.unmatched c.requires.near scope
    own made.walk made.out).walk_is in
    (far_asked part c.scope-2.result.now part.links c.link_out.new.links c.in_ok-link.link made.walk
    (subst (λ s. IsScopeOf s part) (sym (c.scope-2.ensures ∙ ap (λ r. r.scope) c.grow_node.ensures)) own) c.requires.part.job limits made.adds
    outs.some outs.steps).0

pub add_matches-requires : goal.add_matches-requires
add_matches-requires c =
    let part : PartValue = part_of c.args.parts.now in
    let scope = c.args.parts.now.regions.scope in
    let limits : IsWithinLimits (problem_in part) =
    limits_scoped part scope c.scope.result.now c.scope.ensures (scope_is _ c.requires.scope) c.limits.ensures in
    rw c.take_unmatched.ensures.matches
    (boundary_listed part c.args.root c.args.edge c.args.length c.requires.part limits c.requires.unmatched c.requires.near c.in_ok-link.link c.take_unmatched.new.self.unmatched
    c.take_unmatched.ensures.unmatched)

pub returns : goal.returns
returns c =
    let part : PartValue = part_of c.args.parts.now in
    let scope = c.args.parts.now.regions.scope in
    let own = scope_is _ c.requires.scope in
    let limits : IsWithinLimits (problem_in part) =
    limits_scoped part scope c.scope.result.now c.scope.ensures own c.limits.ensures in
    let made = rw c.grow_node.ensures at c.in_ok-link.ensures in
    let matched =
    boundary_matched part c.args.root c.args.edge c.args.length c.requires.part limits c.requires.unmatched c.requires.near
    c.in_ok-link.link c.take_unmatched.new.self.unmatched c.take_unmatched.ensures.unmatched made.walk c.link_out.new.links
    (boundary_walk part c.args.root c.args.edge c.args.length c.requires.part limits c.requires.unmatched c.requires.near scope
    own made.walk made.out) made.adds in
    rw (c.grow_node.ensures, c.in_ok-add_matches.ensures, c.take_unmatched.ensures.matches)
    (record {
      scope = record {
        graph = own.graph;
        plan = own.plan;
        node = own.node;
        defects = c.requires.scope.defects;
        rest = record { plus = c.requires.scope.rest.plus; minus = c.requires.scope.rest.minus };
        listed =
            near_out_listed part c.in_ok-link.link made.walk c.link_out.new.links c.requires.part made.adds c.args.root c.args.parts.now.seams c.list.new.self
            c.far_owner-owner.result c.requires.scope.listed c.in_ok-list.ensures
            (c.far_owner-owner.ensures
            ∙ owner_scoped c.scope-2.result.now part (link_by c.link_out.new.links c.in_ok-link.link)
            (subst (λ s. IsScopeOf s part) (sym (c.scope-2.ensures ∙ ap (λ r. r.scope) c.grow_node.ensures)) own));
      };
      part = matched.0;
      searched = matched.1;
    })
