use Rattle.std.proofs.Common.{◌∙◌, ap, length, refl, subst, sym}
use Rattle.fb_laws.specs.Trees.{minus_names}
use Rattle.fb_trees.specs.Forests.{AreInPace, AreRootedApart, IsTreeOf}
use Rattle.fb_trees.proofs.ForestReads.{plus_inside, plus_is}
use Rattle.fb_search.specs.InternalGrowing.{GrowingValue, growing_of}
use Rattle.fb_search.proofs.DissolvedWatches.{kept_each}
use Rattle.fb_search.proofs.GrownEnds.{minus_live_in}
use Rattle.fb_search.proofs.ListedSteps.{scope_is}
use Rattle.fb_search.proofs.MetForests.{may_first, may_second, met_fresh, met_left, met_listed}
use Rattle.fb_search.proofs.MetWatches.{each_both}
use Rattle.fb_search.proofs.PacedMoves.{apart_without, paced_dissolved}
use Rattle.fb_search.proofs.PairedTrees.{first_plus, in_two, second_plus}
use Rattle.fb_search.proofs.RingPairs.{ring_between}
use Rattle.fb_search.proofs.ScopeWalks.{between_scoped, met_scoped}
use Rattle.fb_search.proofs.TwoTrees.{AreInTwo}
use Rattle.fb_search.proofs.growing_pairs.match_trees.Goals as goal

pub link_between-requires : goal.link_between-requires
link_between-requires c =
    let w : GrowingValue = growing_of c.args.pieces.now in
    between_scoped w.part _ (scope_is _ c.requires.paced.scope) c.args.edge c.args.first c.args.second
    (ring_between w c.args.edge c.args.first c.args.second c.requires.pair)

pub watch_tree-requires-clause-plus : goal.watch_tree-requires-clause-plus
watch_tree-requires-clause-plus c =
    first_plus (growing_of c.args.pieces.now) c.args.edge c.args.first c.args.second c.requires.growing c.requires.pair

pub watch_tree-requires-clause-live : goal.watch_tree-requires-clause-live
watch_tree-requires-clause-live c t g is =
    let w : GrowingValue = growing_of c.args.pieces.now in
    minus_live_in w t g c.args.first c.requires.growing is.at
    (plus_is w.forest c.keeps.ensures c.args.first
    (first_plus w c.args.edge c.args.first c.args.second c.requires.growing c.requires.pair) t g is)

pub watch_tree-requires-2-clause-plus : goal.watch_tree-requires-2-clause-plus
watch_tree-requires-2-clause-plus c =
    second_plus (growing_of c.args.pieces.now) c.args.edge c.args.first c.args.second c.requires.growing c.requires.pair

pub watch_tree-requires-2-clause-live : goal.watch_tree-requires-2-clause-live
watch_tree-requires-2-clause-live c t g is =
    let w : GrowingValue = growing_of c.args.pieces.now in
    minus_live_in w t g c.args.second c.requires.growing is.at
    (plus_is w.forest c.keeps.ensures c.args.second
    (second_plus w c.args.edge c.args.first c.args.second c.requires.growing c.requires.pair) t g is)

pub watch_tree-requires-2-clause-room : goal.watch_tree-requires-2-clause-room
watch_tree-requires-2-clause-room c =
    let w : GrowingValue = growing_of c.args.pieces.now in
    let one = first_plus w c.args.edge c.args.first c.args.second c.requires.growing c.requires.pair in
    (c.watch_tree.ensures one.tree one.grown (plus_inside w.forest c.args.first one).is).room
    ∙ (c.requires.growing.room ∙ sym (ap (λ g. length g.edges) c.requires.paced.scope.graph))

pub rest_tree-requires : goal.rest_tree-requires
rest_tree-requires c =
    let w : GrowingValue = growing_of c.args.pieces.now in
    record {
      inside =
          plus_inside w.forest c.args.first (first_plus w c.args.edge c.args.first c.args.second c.requires.growing c.requires.pair);
    }

pub rest_tree-requires-2 : goal.rest_tree-requires-2
rest_tree-requires-2 c =
    let w : GrowingValue = growing_of c.args.pieces.now in
    record {
      inside =
          plus_inside w.forest c.args.second (second_plus w c.args.edge c.args.first c.args.second c.requires.growing c.requires.pair);
    }

pub match_tree-requires : goal.match_tree-requires
match_tree-requires c =
    let w : GrowingValue = growing_of c.args.pieces.now in
    let are = c.requires.growing in
    let made = c.in_ok-link.ensures in
    let two : AreInTwo w.forest c.args.first c.args.second =
    in_two w c.args.edge c.args.first c.args.second are c.requires.pair c.keeps.ensures c.requires.apart in (
      two.one.tree,
      two.one.grown,
      may_first w c.args.first c.args.second are two c.in_ok-link.link made.walk c.link_between.new.links made.adds,
    )

pub match_tree-requires-2 : goal.match_tree-requires-2
match_tree-requires-2 c =
    let w : GrowingValue = growing_of c.args.pieces.now in
    let are = c.requires.growing in
    let made = c.in_ok-link.ensures in
    let two : AreInTwo w.forest c.args.first c.args.second =
    in_two w c.args.edge c.args.first c.args.second are c.requires.pair c.keeps.ensures c.requires.apart in
    let is : IsTreeOf w.forest c.args.first two.one.tree two.one.grown = (plus_inside w.forest c.args.first two.one).is in (
      two.other.tree,
      two.other.grown,
      may_second w c.args.first c.args.second are two c.in_ok-link.link made.walk c.link_between.new.links made.adds
          c.match_tree.new.matching c.match_tree.new.links c.match_tree.new.forest
          (c.in_ok-match_tree.ensures two.one.tree two.one.grown is),
    )

pub add_match-requires : goal.add_match-requires
add_match-requires c =
    let w : GrowingValue = growing_of c.args.pieces.now in
    let are = c.requires.growing in
    let made = c.in_ok-link.ensures in
    let two : AreInTwo w.forest c.args.first c.args.second =
    in_two w c.args.edge c.args.first c.args.second are c.requires.pair c.keeps.ensures c.requires.apart in
    let is : IsTreeOf w.forest c.args.first two.one.tree two.one.grown = (plus_inside w.forest c.args.first two.one).is in
    let done = c.in_ok-match_tree.ensures two.one.tree two.one.grown is in
    let may =
    may_second w c.args.first c.args.second are two c.in_ok-link.link made.walk c.link_between.new.links made.adds
    c.match_tree.new.matching c.match_tree.new.links c.match_tree.new.forest done in
    let there : IsTreeOf c.match_tree.new.forest c.args.second two.other.tree two.other.grown =
    record { at = may.at; has = (plus_inside w.forest c.args.second two.other).is.has } in
    met_fresh w c.args.first c.args.second are two c.in_ok-link.link made.walk c.link_between.new.links made.adds
    c.match_tree.new.matching c.match_tree.new.links c.match_tree.new.forest done c.match_tree-2.new.matching
    c.match_tree-2.new.links c.match_tree-2.new.forest (c.in_ok-match_tree-2.ensures two.other.tree two.other.grown there)

pub returns : goal.returns
returns c =
    let w : GrowingValue = growing_of c.args.pieces.now in
    let scope = c.requires.paced.scope in
    let are = c.requires.growing in
    let made = c.in_ok-link.ensures in
    let two : AreInTwo w.forest c.args.first c.args.second =
    in_two w c.args.edge c.args.first c.args.second are c.requires.pair c.keeps.ensures c.requires.apart in
    let is : IsTreeOf w.forest c.args.first two.one.tree two.one.grown = (plus_inside w.forest c.args.first two.one).is in
    let is_other : IsTreeOf w.forest c.args.second two.other.tree two.other.grown =
    (plus_inside w.forest c.args.second two.other).is in
    let done = c.in_ok-match_tree.ensures two.one.tree two.one.grown is in
    let may =
    may_second w c.args.first c.args.second are two c.in_ok-link.link made.walk c.link_between.new.links made.adds
    c.match_tree.new.matching c.match_tree.new.links c.match_tree.new.forest done in
    let there : IsTreeOf c.match_tree.new.forest c.args.second two.other.tree two.other.grown =
    record { at = may.at; has = is_other.has } in
    let ended = c.in_ok-match_tree-2.ensures two.other.tree two.other.grown there in
    let met =
    met_scoped w.part _ (scope_is _ scope) c.args.edge c.args.first c.args.second made.walk
    (ring_between w c.args.edge c.args.first c.args.second c.requires.pair) made.between in
    let watches =
    each_both _ w.part.nodes (minus_names two.one.grown.branches) (minus_names two.other.grown.branches) w.watched
    c.watch_tree.new.watch c.watch_tree-2.new.watch
    (kept_each w.part _ c.args.pieces.now.parts.regions.scope.plan.now c.args.pieces.now.parts.regions.scope.node w.part.nodes
    (minus_names two.one.grown.branches) w.watched c.watch_tree.new.watch scope.graph
    (c.watch_tree.ensures two.one.tree two.one.grown is))
    (kept_each w.part _ c.args.pieces.now.parts.regions.scope.plan.now c.args.pieces.now.parts.regions.scope.node w.part.nodes
    (minus_names two.other.grown.branches) c.watch_tree.new.watch c.watch_tree-2.new.watch scope.graph
    (c.watch_tree-2.ensures two.other.tree two.other.grown is_other)) in
    let left =
    met_left w c.args.first c.args.second are two c.in_ok-link.link made.walk c.link_between.new.links made.adds
    c.match_tree.new.matching c.match_tree.new.links c.match_tree.new.forest done c.match_tree-2.new.matching
    c.match_tree-2.new.links c.match_tree-2.new.forest ended met c.add_match.new.self c.in_ok-add_match.ensures.ok
    c.watch_tree-2.new.watch watches c.keeps-2.ensures.within in
    rw (c.rest_tree-2.ensures.same, c.rest_tree.ensures.same) (record {
      paced = record {
        scope = record {
          graph = scope.graph;
          plan = scope.plan;
          node = scope.node;
          defects = scope.defects;
          listed =
              met_listed w c.args.first c.args.second are two c.in_ok-link.link made.walk c.link_between.new.links made.adds
              c.match_tree.new.matching c.match_tree.new.links c.match_tree.new.forest done c.match_tree-2.new.matching
              c.match_tree-2.new.links c.match_tree-2.new.forest ended met c.add_match.new.self c.in_ok-add_match.ensures.ok
              c.args.pieces.now.parts.seams scope.listed;
          rest = scope.rest;
        };
        paces = subst (AreInPace c.rest_tree-2.new.regions) (sym ended.dissolved)
            (paced_dissolved w two.other.tree two.other.grown two.other.at are c.match_tree.new.forest may.at
            (subst AreRootedApart (sym done.dissolved) (apart_without w.forest two.one.tree c.keeps.ensures))
            c.rest_tree.new.regions c.rest_tree-2.new.regions (ap (λ r. r.nodes) c.rest_tree.ensures.same)
            (subst (AreInPace c.rest_tree.new.regions) (sym done.dissolved)
            (paced_dissolved w two.one.tree two.one.grown two.one.at are w.forest two.one.at c.keeps.ensures
            c.args.pieces.now.parts.regions c.rest_tree.new.regions refl c.requires.paced.paces
            (c.rest_tree.ensures.paces two.one.tree two.one.grown is)))
            (c.rest_tree-2.ensures.paces two.other.tree two.other.grown is_other));
      };
      keeps = left.0;
      grows_on = left.1;
    })
