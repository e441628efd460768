use Rattle.std.proofs.Common.{◌≡◌, true, All, Some, ap, subst, sym}
use Rattle.fb_half.specs.Parts.{problem_in}
use Rattle.fb_half.specs.Seams.{AreListed}
use Rattle.fb_laws.specs.Trees.{minus_names}
use Rattle.fb_graph.specs.Dual.{is_live}
use Rattle.fb_trees.specs.Forests.{AreInPace, IsPlusNode, IsTreeOf, tree_at}
use Rattle.fb_trees.proofs.ForestReads.{plus_inside, plus_is}
use Rattle.fb_search.specs.InternalGrowing.{GrowingValue, IsGrowing, growing_of}
use Rattle.fb_search.specs.InternalGrowth.{GrowsOn}
use Rattle.fb_search.specs.InternalGrowingEnds.{IsTreeMatched, MayMatchTree, WatchesEach}
use Rattle.fb_search.proofs.DissolvedGrowth.{left_growth}
use Rattle.fb_search.proofs.DissolvedWatches.{kept_each}
use Rattle.fb_search.proofs.GrownEnds.{minus_live_in}
use Rattle.fb_search.proofs.PacedMoves.{paced_dissolved}
use Rattle.fb_search.proofs.ReleasedForests.{may_release, release_fresh, release_left, release_listed, released_now, taken_live}
use Rattle.fb_search.proofs.growing_ends.release.Goals as goal

pub forget-requires : goal.forget-requires
forget-requires c =
    let w = c.requires.met.0 in
    let now : GrowingValue = growing_of c.args.pieces.now in
    taken_live w c.args.met now.part.links now.part.matching.matches (released_now w c.args.met now c.requires.met.1)
    c.requires.boundary

pub watch_tree-requires-clause-plus : goal.watch_tree-requires-clause-plus
watch_tree-requires-clause-plus c =
    subst (λ (s : GrowingValue). IsPlusNode s.forest c.args.met.plus) (sym c.requires.met.1.is) c.requires.met.1.plus

pub watch_tree-requires-clause-live : goal.watch_tree-requires-clause-live
watch_tree-requires-clause-live c t g is =
    let w = c.requires.met.0 in
    let h = c.requires.met.1 in
    let now : GrowingValue = growing_of c.args.pieces.now in
    subst (λ (s : GrowingValue). All (λ n. is_live s.part.nodes n ≡ true) (minus_names g.branches)) (sym h.is)
    (minus_live_in w t g c.args.met.plus h.was (subst (λ (s : GrowingValue). tree_at s.forest t ≡ Some g) h.is is.at)
    (plus_is now.forest c.keeps.ensures c.args.met.plus
    (subst (λ (s : GrowingValue). IsPlusNode s.forest c.args.met.plus) (sym h.is) h.plus) t g is))

pub rest_tree-requires : goal.rest_tree-requires
rest_tree-requires c =
    let h = c.requires.met.1 in
    let now : GrowingValue = growing_of c.args.pieces.now in
    record {
      inside =
          plus_inside now.forest c.args.met.plus
          (subst (λ (s : GrowingValue). IsPlusNode s.forest c.args.met.plus) (sym h.is) h.plus);
    }

pub match_tree-requires : goal.match_tree-requires
match_tree-requires c =
    let w = c.requires.met.0 in
    let h = c.requires.met.1 in
    let now : GrowingValue = growing_of c.args.pieces.now in (
      h.plus.tree,
      h.plus.grown,
      subst (λ (s : GrowingValue). MayMatchTree h.plus.tree h.plus.grown c.args.met.plus s.part.matching c.forget.new.self s.forest)
          (sym h.is)
          (may_release w c.args.met now.part.links now.part.matching.matches (released_now w c.args.met now h) c.requires.boundary
          c.forget.new.self c.forget.ensures),
    )

pub add_match-requires : goal.add_match-requires
add_match-requires c =
    let w = c.requires.met.0 in
    let h = c.requires.met.1 in
    let now : GrowingValue = growing_of c.args.pieces.now in
    let is : IsTreeOf now.forest c.args.met.plus h.plus.tree h.plus.grown =
    subst (λ (s : GrowingValue). IsTreeOf s.forest c.args.met.plus h.plus.tree h.plus.grown) (sym h.is)
    (plus_inside w.forest c.args.met.plus h.plus).is in
    release_fresh w c.args.met now.part.links now.part.matching.matches (released_now w c.args.met now h) c.requires.boundary
    c.forget.new.self c.forget.ensures c.match_tree.new.matching c.match_tree.new.links c.match_tree.new.forest
    (subst
    (λ (s : GrowingValue).
    IsTreeMatched h.plus.tree h.plus.grown c.args.met.plus s.part.matching c.forget.new.self s.forest c.match_tree.new.matching
    c.match_tree.new.links c.match_tree.new.forest) h.is (c.in_ok-match_tree.ensures h.plus.tree h.plus.grown is))

pub returns : goal.returns
returns c w h =
    let scope = c.requires.paced.scope in
    let now : GrowingValue = growing_of c.args.pieces.now in
    let same = released_now w c.args.met now h in
    let is : IsTreeOf now.forest c.args.met.plus h.plus.tree h.plus.grown =
    subst (λ (s : GrowingValue). IsTreeOf s.forest c.args.met.plus h.plus.tree h.plus.grown) (sym h.is)
    (plus_inside w.forest c.args.met.plus h.plus).is in
    let done =
    subst
    (λ (s : GrowingValue).
    IsTreeMatched h.plus.tree h.plus.grown c.args.met.plus s.part.matching c.forget.new.self s.forest c.match_tree.new.matching
    c.match_tree.new.links c.match_tree.new.forest) h.is (c.in_ok-match_tree.ensures h.plus.tree h.plus.grown is) in
    let watches =
    subst
    (λ (s : GrowingValue).
    WatchesEach (problem_in s.part) s.part.nodes (minus_names h.plus.grown.branches) s.watched c.watch_tree.new.watch) h.is
    (kept_each now.part _ c.args.pieces.now.parts.regions.scope.plan.now c.args.pieces.now.parts.regions.scope.node now.part.nodes
    (minus_names h.plus.grown.branches) now.watched c.watch_tree.new.watch scope.graph
    (c.watch_tree.ensures h.plus.tree h.plus.grown is)) in
    let left =
    subst
    (λ (s : GrowingValue).
    IsGrowing (left_growth s c.match_tree.new.links c.add_match.new.self c.match_tree.new.forest c.watch_tree.new.watch)
    × GrowsOn w (left_growth s c.match_tree.new.links c.add_match.new.self c.match_tree.new.forest c.watch_tree.new.watch))
    (sym h.is)
    (release_left w c.args.met now.part.links now.part.matching.matches same c.requires.boundary c.forget.new.self c.forget.ensures
    c.match_tree.new.matching c.match_tree.new.links c.match_tree.new.forest done c.add_match.new.self
    c.in_ok-add_match.ensures.ok c.watch_tree.new.watch watches c.keeps-2.ensures.within) in
    rw c.rest_tree.ensures.same (record {
      paced = record {
        scope = record {
          graph = scope.graph;
          plan = scope.plan;
          node = scope.node;
          defects = scope.defects;
          listed =
              subst
              (λ (s : GrowingValue).
              AreListed (problem_in s.part).is_real s.part.job.plan c.args.pieces.now.parts.seams c.match_tree.new.links
              c.add_match.new.self.matches)
              (sym h.is)
              (release_listed w c.args.met now.part.links now.part.matching.matches same c.requires.boundary c.forget.new.self
              c.forget.ensures c.match_tree.new.matching c.match_tree.new.links c.match_tree.new.forest done c.add_match.new.self
              c.in_ok-add_match.ensures.ok c.args.pieces.now.parts.seams
              (subst
              (λ (s : GrowingValue).
              AreListed (problem_in s.part).is_real s.part.job.plan c.args.pieces.now.parts.seams now.part.links
              now.part.matching.matches) h.is scope.listed));
          rest = scope.rest;
        };
        paces = subst (AreInPace c.rest_tree.new.regions) (sym (c.in_ok-match_tree.ensures h.plus.tree h.plus.grown is).dissolved)
            (paced_dissolved w h.plus.tree h.plus.grown h.plus.at h.was now.forest is.at c.keeps.ensures
            c.args.pieces.now.parts.regions c.rest_tree.new.regions (ap (λ s. s.part.nodes) h.is) c.requires.paced.paces
            (c.rest_tree.ensures.paces h.plus.tree h.plus.grown is));
      };
      keeps = left.0;
      grows_on = left.1;
    })
