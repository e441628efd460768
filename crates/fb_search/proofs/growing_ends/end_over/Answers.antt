use Rattle.std.proofs.Common.{◌∙◌, refl, subst, sym}
use Rattle.fb_half.specs.Translations.{link_by}
use Rattle.fb_half.specs.Values.{IsScopeOf}
use Rattle.fb_trees.specs.Forests.{AreInPace, IsTreeOf}
use Rattle.fb_trees.proofs.ForestReads.{plus_inside, plus_is}
use Rattle.fb_search.specs.InternalGrowing.{GrowingValue, growing_of}
use Rattle.fb_search.proofs.GrownEnds.{boundary_left, boundary_listed, last_fresh, may_match, minus_live_in, out_leads, out_plus}
use Rattle.fb_laws.specs.Trees.{minus_names}
use Rattle.fb_search.proofs.DissolvedWatches.{kept_each}
use Rattle.fb_search.proofs.EndedWays.{boundary_match}
use Rattle.fb_search.proofs.ListedSteps.{far_asked, owner_scoped, scope_is}
use Rattle.fb_search.proofs.NearMatches.{limits_scoped}
use Rattle.fb_search.proofs.PacedMoves.{paced_dissolved}
use Rattle.fb_search.proofs.ScopeWalks.{out_bare, out_scoped}
use Rattle.fb_search.proofs.growing_ends.end_over.Goals as goal

pub link_out-requires : goal.link_out-requires
link_out-requires c =
    let w : GrowingValue = growing_of c.args.pieces.now in
    let leads = c.requires.leads in (
      c.args.plus,
      leads.outer,
      out_bare w.part _ (scope_is _ c.requires.paced.scope) c.args.edge c.args.plus leads.outer (out_leads w c.args.edge c.args.plus leads),
    )

pub far_owner-owner-requires-clause-ends : goal.far_owner-owner-requires-clause-ends
far_owner-owner-requires-clause-ends c =
    let w : GrowingValue = growing_of c.args.pieces.now in
    let leads = c.requires.leads in
    let made = c.in_ok-link.ensures in
    let is = scope_is _ c.requires.paced.scope in
    let outs =
    (out_scoped w.part _ is c.args.edge c.args.plus leads.outer made.walk (out_leads w c.args.edge c.args.plus leads) made.out).walk_is in
    (far_asked w.part c.scope-2.result.now w.part.links c.link_out.new.links c.in_ok-link.link made.walk
    (subst (λ s. IsScopeOf s w.part) (sym c.scope-2.ensures) is) c.requires.growing.job
    (limits_scoped w.part _ c.scope.result.now c.scope.ensures is c.limits.ensures) made.adds outs.some outs.steps).0

pub watch_tree-requires-clause-plus : goal.watch_tree-requires-clause-plus
watch_tree-requires-clause-plus c =
    out_plus (growing_of c.args.pieces.now) c.args.edge c.args.plus c.requires.growing c.requires.leads

pub watch_tree-requires-clause-live : goal.watch_tree-requires-clause-live
watch_tree-requires-clause-live c t g is =
    let w : GrowingValue = growing_of c.args.pieces.now in
    minus_live_in w t g c.args.plus c.requires.growing is.at
    (plus_is w.forest c.keeps.ensures c.args.plus (out_plus w c.args.edge c.args.plus c.requires.growing c.requires.leads) t g is)

pub rest_tree-requires : goal.rest_tree-requires
rest_tree-requires c =
    let w : GrowingValue = growing_of c.args.pieces.now in
    record { inside = plus_inside w.forest c.args.plus (out_plus w c.args.edge c.args.plus c.requires.growing c.requires.leads) }

pub match_tree-requires : goal.match_tree-requires
match_tree-requires c =
    let w : GrowingValue = growing_of c.args.pieces.now in
    let node = out_plus w c.args.edge c.args.plus c.requires.growing c.requires.leads in (
      node.tree,
      node.grown,
      may_match w node.tree node.grown c.args.plus c.requires.growing node.at node.plus c.in_ok-link.link c.in_ok-link.ensures.walk
          c.link_out.new.links c.in_ok-link.ensures.adds (boundary_match c.in_ok-link.link c.args.plus) refl,
    )

pub add_match-requires : goal.add_match-requires
add_match-requires c =
    let w : GrowingValue = growing_of c.args.pieces.now in
    let node = out_plus w c.args.edge c.args.plus c.requires.growing c.requires.leads in
    let is : IsTreeOf w.forest c.args.plus node.tree node.grown = (plus_inside w.forest c.args.plus node).is in
    last_fresh w node.tree node.grown c.args.plus c.requires.growing node.at node.plus c.in_ok-link.link c.in_ok-link.ensures.walk
    c.link_out.new.links c.in_ok-link.ensures.adds c.match_tree.new.matching c.match_tree.new.links c.match_tree.new.forest
    (c.in_ok-match_tree.ensures node.tree node.grown is) (boundary_match c.in_ok-link.link c.args.plus) refl

pub returns : goal.returns
returns c =
    let w : GrowingValue = growing_of c.args.pieces.now in
    let scope = c.requires.paced.scope in
    let leads = c.requires.leads in
    let made = c.in_ok-link.ensures in
    let node = out_plus w c.args.edge c.args.plus c.requires.growing leads in
    let is : IsTreeOf w.forest c.args.plus node.tree node.grown = (plus_inside w.forest c.args.plus node).is in
    let done = c.in_ok-match_tree.ensures node.tree node.grown is in
    let out =
    out_scoped w.part _ (scope_is _ scope) c.args.edge c.args.plus leads.outer made.walk (out_leads w c.args.edge c.args.plus leads)
    made.out in
    let left =
    boundary_left w node.tree node.grown c.args.plus c.requires.growing node.at node.plus c.in_ok-link.link made.walk
    c.link_out.new.links made.adds c.match_tree.new.matching c.match_tree.new.links c.match_tree.new.forest done leads.outer out
    leads.obstacle.real c.add_match.new.self c.in_ok-add_match.ensures.ok c.watch_tree.new.watch
    (kept_each w.part _ c.args.pieces.now.parts.regions.scope.plan.now c.args.pieces.now.parts.regions.scope.node w.part.nodes
    (minus_names node.grown.branches) w.watched c.watch_tree.new.watch scope.graph (c.watch_tree.ensures node.tree node.grown is))
    c.keeps-2.ensures.within in
    rw c.rest_tree.ensures.same (record {
      paced = record {
        scope = record {
          graph = scope.graph;
          plan = scope.plan;
          node = scope.node;
          defects = scope.defects;
          listed =
              boundary_listed w node.tree node.grown c.args.plus c.requires.growing node.at node.plus c.in_ok-link.link made.walk
              c.link_out.new.links made.adds c.match_tree.new.matching c.match_tree.new.links c.match_tree.new.forest done leads.outer
              out leads.obstacle.real c.add_match.new.self c.in_ok-add_match.ensures.ok c.args.pieces.now.parts.seams c.list.new.self
              c.far_owner-owner.result scope.listed c.in_ok-list.ensures
              (c.far_owner-owner.ensures
              ∙ owner_scoped c.scope-2.result.now w.part (link_by c.link_out.new.links c.in_ok-link.link)
              (subst (λ s. IsScopeOf s w.part) (sym c.scope-2.ensures) (scope_is _ scope)));
          rest = scope.rest;
        };
        paces = subst (AreInPace c.rest_tree.new.regions) (sym done.dissolved)
            (paced_dissolved w node.tree node.grown node.at c.requires.growing w.forest node.at c.keeps.ensures
            c.args.pieces.now.parts.regions c.rest_tree.new.regions refl c.requires.paced.paces
            (c.rest_tree.ensures.paces node.tree node.grown is));
      };
      keeps = left.0;
      grows_on = left.1;
    })
