use Rattle.std.proofs.Common.{refl, subst, sym}
use Rattle.fb_laws.specs.Trees.{minus_names}
use Rattle.fb_trees.specs.Forests.{AreInPace, IsTreeOf}
use Rattle.fb_trees.proofs.ForestReads.{plus_inside, plus_is}
use Rattle.fb_search.specs.InternalGrowing.{GrowingValue, growing_of}
use Rattle.fb_search.proofs.DissolvedWatches.{kept_each}
use Rattle.fb_search.proofs.EndedWays.{boundary_match}
use Rattle.fb_search.proofs.GrownEnds.{may_match, minus_live_in}
use Rattle.fb_search.proofs.ListedSteps.{scope_is}
use Rattle.fb_search.proofs.NearMatches.{limits_scoped}
use Rattle.fb_search.proofs.PacedMoves.{paced_dissolved}
use Rattle.fb_search.proofs.ScopeWalks.{between_scoped, met_scoped}
use Rattle.fb_search.proofs.TreeMeets.{outside_between}
use Rattle.fb_search.proofs.WaitingEnds.{meeting_node, met_waits, still_waits, woken_fresh, woken_left, woken_listed}
use Rattle.fb_search.proofs.growing_ends.match_waiting.Goals as goal

pub link_between-requires : goal.link_between-requires
link_between-requires c =
    let w : GrowingValue = growing_of c.args.pieces.now in
    between_scoped w.part _ (scope_is _ c.requires.paced.scope) c.args.edge c.args.plus c.args.other
    (outside_between w c.args.edge c.args.plus c.args.other c.requires.meets)

pub watch_tree-requires-clause-plus : goal.watch_tree-requires-clause-plus
watch_tree-requires-clause-plus c =
    meeting_node (growing_of c.args.pieces.now) c.args.edge c.args.plus c.args.other c.requires.growing c.requires.meets

pub watch_tree-requires-clause-live : goal.watch_tree-requires-clause-live
watch_tree-requires-clause-live c t g is =
    let w : GrowingValue = growing_of c.args.pieces.now in
    let node = meeting_node w c.args.edge c.args.plus c.args.other c.requires.growing c.requires.meets in
    minus_live_in w t g c.args.plus c.requires.growing is.at (plus_is w.forest c.keeps.ensures c.args.plus node t g is)

pub rest_tree-requires : goal.rest_tree-requires
rest_tree-requires c =
    let w : GrowingValue = growing_of c.args.pieces.now in
    record {
      inside =
          plus_inside w.forest c.args.plus (meeting_node w c.args.edge c.args.plus c.args.other c.requires.growing c.requires.meets);
    }

pub match_tree-requires : goal.match_tree-requires
match_tree-requires c =
    let w : GrowingValue = growing_of c.args.pieces.now in
    let node = meeting_node w c.args.edge c.args.plus c.args.other c.requires.growing c.requires.meets in (
      node.tree,
      node.grown,
      may_match w node.tree node.grown c.args.plus c.requires.growing node.at node.plus c.in_ok-link.link c.in_ok-link.ensures.walk
          c.link_between.new.links c.in_ok-link.ensures.adds (boundary_match c.in_ok-link.link c.args.plus) refl,
    )

pub take_unmatched-requires : goal.take_unmatched-requires
take_unmatched-requires c =
    let w : GrowingValue = growing_of c.args.pieces.now in
    let node = meeting_node w c.args.edge c.args.plus c.args.other c.requires.growing c.requires.meets in
    let is : IsTreeOf w.forest c.args.plus node.tree node.grown = (plus_inside w.forest c.args.plus node).is in
    still_waits w node.tree node.grown c.args.plus c.args.other c.requires.growing node.at node.plus
    (met_waits w c.args.edge c.args.plus c.args.other c.requires.growing c.requires.meets c.requires.waits) c.in_ok-link.link
    c.in_ok-link.ensures.walk c.link_between.new.links c.in_ok-link.ensures.adds c.match_tree.new.matching c.match_tree.new.links
    c.match_tree.new.forest (c.in_ok-match_tree.ensures node.tree node.grown is)

pub add_match-requires : goal.add_match-requires
add_match-requires c =
    let w : GrowingValue = growing_of c.args.pieces.now in
    let node = meeting_node w c.args.edge c.args.plus c.args.other c.requires.growing c.requires.meets in
    let is : IsTreeOf w.forest c.args.plus node.tree node.grown = (plus_inside w.forest c.args.plus node).is in
    woken_fresh w node.tree node.grown c.args.plus c.args.other c.requires.growing node.at node.plus
    (met_waits w c.args.edge c.args.plus c.args.other c.requires.growing c.requires.meets c.requires.waits) c.in_ok-link.link
    c.in_ok-link.ensures.walk c.link_between.new.links c.in_ok-link.ensures.adds c.match_tree.new.matching c.match_tree.new.links
    c.match_tree.new.forest (c.in_ok-match_tree.ensures node.tree node.grown is) c.take_unmatched.new.self
    c.take_unmatched.ensures.matches c.take_unmatched.ensures.unmatched

pub returns : goal.returns
returns c =
    let w : GrowingValue = growing_of c.args.pieces.now in
    let scope = c.requires.paced.scope in
    let made = c.in_ok-link.ensures in
    let node = meeting_node w c.args.edge c.args.plus c.args.other c.requires.growing c.requires.meets in
    let is : IsTreeOf w.forest c.args.plus node.tree node.grown = (plus_inside w.forest c.args.plus node).is in
    let done = c.in_ok-match_tree.ensures node.tree node.grown is in
    let waits = met_waits w c.args.edge c.args.plus c.args.other c.requires.growing c.requires.meets c.requires.waits in
    let met =
    met_scoped w.part _ (scope_is _ scope) c.args.edge c.args.plus c.args.other made.walk
    (outside_between w c.args.edge c.args.plus c.args.other c.requires.meets) made.between in
    let left =
    woken_left w node.tree node.grown c.args.plus c.args.other c.requires.growing node.at node.plus waits c.in_ok-link.link
    made.walk c.link_between.new.links made.adds c.match_tree.new.matching c.match_tree.new.links c.match_tree.new.forest done
    c.take_unmatched.new.self c.take_unmatched.ensures.matches c.take_unmatched.ensures.unmatched met
    (limits_scoped w.part _ c.scope.result.now c.scope.ensures (scope_is _ scope) c.limits.ensures) c.add_match.new.self
    c.in_ok-add_match.ensures.ok c.watch_tree.new.watch
    (kept_each w.part _ c.args.pieces.now.parts.regions.scope.plan.now c.args.pieces.now.parts.regions.scope.node w.part.nodes
    (minus_names node.grown.branches) w.watched c.watch_tree.new.watch scope.graph (c.watch_tree.ensures node.tree node.grown is))
    c.keeps-2.ensures.within in
    rw c.rest_tree.ensures.same (record {
      paced = record {
        scope = record {
          graph = scope.graph;
          plan = scope.plan;
          node = scope.node;
          defects = scope.defects;
          listed =
              woken_listed w node.tree node.grown c.args.plus c.args.other c.requires.growing node.at node.plus waits
              c.in_ok-link.link made.walk c.link_between.new.links made.adds c.match_tree.new.matching c.match_tree.new.links
              c.match_tree.new.forest done c.take_unmatched.new.self c.take_unmatched.ensures.matches
              c.take_unmatched.ensures.unmatched met c.add_match.new.self c.in_ok-add_match.ensures.ok c.args.pieces.now.parts.seams
              scope.listed;
          rest = scope.rest;
        };
        paces = subst (AreInPace c.rest_tree.new.regions) (sym done.dissolved)
            (paced_dissolved w node.tree node.grown node.at c.requires.growing w.forest node.at c.keeps.ensures
            c.args.pieces.now.parts.regions c.rest_tree.new.regions refl c.requires.paced.paces
            (c.rest_tree.ensures.paces node.tree node.grown is));
      };
      keeps = left.0;
      grows_on = left.1;
    })
