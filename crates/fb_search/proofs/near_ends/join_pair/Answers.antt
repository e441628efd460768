use Rattle.fb_graph.specs.Limits.{IsWithinLimits}
use Rattle.fb_half.specs.Parts.{PartValue, problem_in}
use Rattle.fb_half.specs.Values.{part_of}
use Rattle.fb_search.proofs.ListedSteps.{near_met_listed, scope_is}
use Rattle.fb_search.proofs.NearMatches.{limits_scoped}
use Rattle.fb_search.proofs.NearPairs.{other_step, other_tree, pair_between, pair_listed, pair_matched, pair_root_left, pair_walk, root_step, root_tree}
use Rattle.fb_search.proofs.near_ends.join_pair.Goals as goal

pub grow_node-requires-clause-tree : goal.grow_node-requires-clause-tree
grow_node-requires-clause-tree c =
    let part : PartValue = part_of c.args.parts.now in
    let scope = c.args.parts.now.regions.scope in
    let limits : IsWithinLimits (problem_in part) =
    limits_scoped part scope c.scope.result.now c.scope.ensures (scope_is _ c.requires.scope) c.limits.ensures in
    other_tree part c.args.root c.args.pair c.requires.part limits c.requires.unmatched c.requires.near scope (scope_is _ c.requires.scope)

pub grow_node-requires-clause-may : goal.grow_node-requires-clause-may
grow_node-requires-clause-may c =
    let part : PartValue = part_of c.args.parts.now in
    let scope = c.args.parts.now.regions.scope in
    let limits : IsWithinLimits (problem_in part) =
    limits_scoped part scope c.scope.result.now c.scope.ensures (scope_is _ c.requires.scope) c.limits.ensures in
    other_step part c.args.root c.args.pair c.requires.part limits c.requires.unmatched c.requires.near scope (scope_is _ c.requires.scope)

pub grow_node-requires-2-clause-tree : goal.grow_node-requires-2-clause-tree
grow_node-requires-2-clause-tree c =
    let part : PartValue = part_of c.args.parts.now in
    let scope = c.args.parts.now.regions.scope in
    let limits : IsWithinLimits (problem_in part) =
    limits_scoped part scope c.scope.result.now c.scope.ensures (scope_is _ c.requires.scope) c.limits.ensures in
    rw c.grow_node.ensures (root_tree part c.args.root c.args.pair c.requires.part limits c.requires.unmatched c.requires.near scope (scope_is _ c.requires.scope))

pub grow_node-requires-2-clause-may : goal.grow_node-requires-2-clause-may
grow_node-requires-2-clause-may c =
    let part : PartValue = part_of c.args.parts.now in
    let scope = c.args.parts.now.regions.scope in
    let limits : IsWithinLimits (problem_in part) =
    limits_scoped part scope c.scope.result.now c.scope.ensures (scope_is _ c.requires.scope) c.limits.ensures in
    rw c.grow_node.ensures (root_step part c.args.root c.args.pair c.requires.part limits c.requires.unmatched c.requires.near scope (scope_is _ c.requires.scope))

pub link_between-requires : goal.link_between-requires
link_between-requires c =
    let part : PartValue = part_of c.args.parts.now in
    let scope = c.args.parts.now.regions.scope in
    let limits : IsWithinLimits (problem_in part) =
    limits_scoped part scope c.scope.result.now c.scope.ensures (scope_is _ c.requires.scope) c.limits.ensures in
    rw (c.grow_node-2.ensures, c.grow_node.ensures) (pair_between part c.args.root c.args.pair c.requires.part limits c.requires.unmatched c.requires.near scope (scope_is _ c.requires.scope))

pub take_unmatched-requires-2 : goal.take_unmatched-requires-2
take_unmatched-requires-2 c =
    let part : PartValue = part_of c.args.parts.now in
    let scope = c.args.parts.now.regions.scope in
    let limits : IsWithinLimits (problem_in part) =
    limits_scoped part scope c.scope.result.now c.scope.ensures (scope_is _ c.requires.scope) c.limits.ensures in
    pair_root_left part c.args.root c.args.pair c.requires.part limits c.requires.unmatched c.requires.near c.take_unmatched.new.self.unmatched c.take_unmatched.ensures.unmatched

pub add_matches-requires : goal.add_matches-requires
add_matches-requires c =
    let part : PartValue = part_of c.args.parts.now in
    let scope = c.args.parts.now.regions.scope in
    let limits : IsWithinLimits (problem_in part) =
    limits_scoped part scope c.scope.result.now c.scope.ensures (scope_is _ c.requires.scope) c.limits.ensures in
    rw (c.take_unmatched-2.ensures.matches, c.take_unmatched.ensures.matches)
    (pair_listed part c.args.root c.args.pair c.requires.part limits c.requires.unmatched c.requires.near c.in_ok-link.link c.take_unmatched.new.self.unmatched
    c.take_unmatched-2.new.self.unmatched c.take_unmatched.ensures.unmatched c.take_unmatched-2.ensures.unmatched)

pub returns : goal.returns
returns c =
    let part : PartValue = part_of c.args.parts.now in
    let scope = c.args.parts.now.regions.scope in
    let own = scope_is _ c.requires.scope in
    let limits : IsWithinLimits (problem_in part) =
    limits_scoped part scope c.scope.result.now c.scope.ensures own c.limits.ensures in
    let made = rw (c.grow_node-2.ensures, c.grow_node.ensures) at c.in_ok-link.ensures in
    let matched =
    pair_matched part c.args.root c.args.pair c.requires.part limits c.requires.unmatched c.requires.near c.in_ok-link.link
    c.take_unmatched.new.self.unmatched c.take_unmatched-2.new.self.unmatched c.take_unmatched.ensures.unmatched
    c.take_unmatched-2.ensures.unmatched made.walk c.link_between.new.links
    (pair_walk part c.args.root c.args.pair c.requires.part limits c.requires.unmatched c.requires.near scope own made.walk
    made.between) made.adds in
    rw (c.grow_node-2.ensures, c.grow_node.ensures, c.in_ok-add_matches.ensures, c.take_unmatched-2.ensures.matches, c.take_unmatched.ensures.matches)
    (record {
      scope = record {
        graph = own.graph;
        plan = own.plan;
        node = own.node;
        defects = c.requires.scope.defects;
        rest = record { plus = c.requires.scope.rest.plus; minus = c.requires.scope.rest.minus };
        listed =
            near_met_listed part c.in_ok-link.link made.walk c.link_between.new.links c.requires.part made.adds c.args.root c.args.pair.other
            c.args.parts.now.seams c.requires.scope.listed;
      };
      part = matched.0;
      searched = matched.1;
    })
