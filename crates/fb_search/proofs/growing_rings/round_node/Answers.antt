use Rattle.std.proofs.lemmas.Result.{IfOk-weaker}
use Rattle.fb_trees.specs.Branches.{entry_of}
use Rattle.fb_search.specs.InternalGrowing.{GrowingValue, growing_of}
use Rattle.fb_search.specs.InternalGrowth.{AreGrowing}
use Rattle.fb_search.proofs.RelinkedForests.{relinked_growing}
use Rattle.fb_search.proofs.RingPairs.{grows_on_relinked, ring_listed}
use Rattle.fb_search.proofs.RingRounds.{in_its_tree, minus_node, ring_rounded, ring_rounding}
use Rattle.fb_search.proofs.growing_rings.round_node.Goals as goal

pub branch-branch-requires : goal.branch-branch-requires
branch-branch-requires c = minus_node c.args.pieces.now.forest c.args.node c.requires.zero.0

pub join_ends-requires : goal.join_ends-requires
join_ends-requires c =
    let w : GrowingValue = growing_of c.args.pieces.now in
    let node = minus_node w.forest c.args.node c.requires.zero.0 in
    let is =
    ring_rounding w node.tree node.grown node.at c.requires.growing c.args.node (entry_of c.branch-branch.result) c.requires.zero.1
    (c.branch-branch.ensures node.tree node.grown (in_its_tree w.forest c.args.node node)) in
    record { first = is.first; second = is.second; meet = is.links.meet; light = is.links.light }

pub join_cycle-requires : goal.join_cycle-requires
join_cycle-requires c =
    let w : GrowingValue = growing_of c.args.pieces.now in
    let node = minus_node w.forest c.args.node c.requires.zero.0 in
    let scope = c.requires.paced.scope in
    record {
      paced = record {
        scope = record {
          graph = scope.graph;
          plan = scope.plan;
          node = scope.node;
          defects = scope.defects;
          listed =
              ring_listed w c.args.pieces.now.parts.seams c.join_ends.new.self c.in_ok-closing.closing _
              c.requires.growing c.in_ok-closing.ensures.ok scope.listed;
          rest = scope.rest;
        };
        paces = c.requires.paced.paces;
      };
      closes = ring_rounded w node.tree node.grown node.at c.requires.growing c.args.node (entry_of c.branch-branch.result)
          c.requires.zero.1 (c.branch-branch.ensures node.tree node.grown (in_its_tree w.forest c.args.node node))
          c.in_ok-closing.closing c.join_ends.new.self c.in_ok-closing.ensures.ok;
    }

pub returns : goal.returns
returns c =
    let w : GrowingValue = growing_of c.args.pieces.now in
    IfOk-weaker _ _ (λ _. AreGrowing w c.join_cycle.new.pieces)
    (λ _ (are : AreGrowing (relinked_growing c.join_ends.new.self w) c.join_cycle.new.pieces). record {
      paced = are.paced;
      keeps = are.keeps;
      grows_on = grows_on_relinked w _ c.join_ends.new.self are.grows_on;
    }) c.join_cycle.ensures
