use Rattle.std.proofs.Common.{◌∙◌}
use Rattle.fb_graph.proofs.Sets.{is_in-head}
use Rattle.fb_trees.proofs.Names.{plus_in_tree}
use Rattle.fb_search.specs.InternalGrowing.{forest_links, growing_of}
use Rattle.fb_search.proofs.growing_rings.join_cycle.Goals as goal

pub cycle_of-requires-clause-closing : goal.cycle_of-requires-clause-closing
cycle_of-requires-clause-closing c =
    c.requires.closes.growing.links.live c.args.closing ∙ is_in-head c.args.closing (forest_links (growing_of c.args.pieces.now))

pub cycle_of-requires-clause-together : goal.cycle_of-requires-clause-together
cycle_of-requires-clause-together c = record {
  tree = c.requires.closes.tree;
  grown = c.requires.closes.grown;
  at = c.requires.closes.at;
  first = c.requires.closes.first;
  second = c.requires.closes.second;
}

pub join_steps-requires-clause-cycle : goal.join_steps-requires-clause-cycle
join_steps-requires-clause-cycle c =
    let closes = c.requires.closes in (
      c.args.first,
      c.args.second,
      closes,
      c.in_ok-cycle.ensures.cycle closes.tree closes.grown
          (record { at = closes.at; has = plus_in_tree closes.grown.root closes.grown.branches c.args.first closes.first }),
    )
