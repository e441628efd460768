use Rattle.std.proofs.lemmas.Result.{IfOk-weaker}
use Rattle.fb_search.specs.InternalGrowing.{GrowingValue, growing_of}
use Rattle.fb_search.specs.InternalGrowth.{AreGrowing}
use Rattle.fb_search.proofs.ListedSteps.{scope_is}
use Rattle.fb_search.proofs.RelinkedForests.{relinked_growing}
use Rattle.fb_search.proofs.RingPairs.{grows_on_relinked, ring_between, ring_link, ring_listed}
use Rattle.fb_search.proofs.ScopeWalks.{between_scoped, met_scoped}
use Rattle.fb_search.proofs.growing_rings.close.Goals as goal

pub link_between-requires : goal.link_between-requires
link_between-requires c =
    let w : GrowingValue = growing_of c.args.pieces.now in
    between_scoped w.part _ (scope_is _ c.requires.paced.scope) c.args.edge c.args.first c.args.second
    (ring_between w c.args.edge c.args.first c.args.second c.requires.pair)

pub join_cycle-requires : goal.join_cycle-requires
join_cycle-requires c =
    let w : GrowingValue = growing_of c.args.pieces.now in
    let scope = c.requires.paced.scope in
    let made = c.in_ok-closing.ensures in
    record {
      paced = record {
        scope = record {
          graph = scope.graph;
          plan = scope.plan;
          node = scope.node;
          defects = scope.defects;
          listed =
              ring_listed w c.args.pieces.now.parts.seams c.link_between.new.links c.in_ok-closing.closing made.walk
              c.requires.growing made.adds scope.listed;
          rest = scope.rest;
        };
        paces = c.requires.paced.paces;
      };
      closes = ring_link w c.args.edge c.args.first c.args.second c.requires.pair made.walk c.in_ok-closing.closing
          c.link_between.new.links c.requires.growing made.adds
          (met_scoped w.part _ (scope_is _ scope) c.args.edge c.args.first c.args.second made.walk
          (ring_between w c.args.edge c.args.first c.args.second c.requires.pair) made.between)
          c.requires.together;
    }

pub returns : goal.returns
returns c =
    let w : GrowingValue = growing_of c.args.pieces.now in
    IfOk-weaker _ _ (λ _. AreGrowing w c.join_cycle.new.pieces)
    (λ _ (are : AreGrowing (relinked_growing c.link_between.new.links w) c.join_cycle.new.pieces). record {
      paced = are.paced;
      keeps = are.keeps;
      grows_on = grows_on_relinked w _ c.link_between.new.links are.grows_on;
    }) c.join_cycle.ensures
