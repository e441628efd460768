use Rattle.std.proofs.Common.{ap, map, ◌∙◌, sym}
use Rattle.fb_trees.specs.Branches.{entry_of}
use Rattle.fb_trees.proofs.ForestReads.{plus_inside, plus_is}
use Rattle.fb_search.proofs.SwappedPaths.{links_swapped, matches_swapped}
use Rattle.fb_search.proofs.growing_ends.tree_end_in.Goals as goal

pub path_to_root-requires : goal.path_to_root-requires
path_to_root-requires c = plus_inside c.args.forest.now c.args.plus c.requires.plus

pub branches_beside-requires : goal.branches_beside-requires
branches_beside-requires c = plus_inside c.args.forest.now c.args.plus c.requires.plus

pub returns-clause-matches : goal.returns-clause-matches
returns-clause-matches c t g is =
    rw (c.in_ok-push_beside.ensures.matches, c.in_ok-end.ensures.matches, sym (c.requires.root t g is), c.deref.ensures.value, c.reverse.ensures.items, c.in_ok-path.ensures t g is)
    (matches_swapped g (c.keeps.ensures.rooted t g is.at) c.args.plus
    (plus_is c.args.forest.now c.keeps.ensures c.args.plus c.requires.plus t g is) c.deref-2.result.now
    (ap (map entry_of) c.deref-2.ensures.value ∙ c.in_ok-others.ensures t g is))

pub returns-clause-gone : goal.returns-clause-gone
returns-clause-gone c t g is =
    rw (c.in_ok-push_beside.ensures.gone, c.in_ok-end.ensures.gone, c.deref.ensures.value, c.reverse.ensures.items, c.in_ok-path.ensures t g is)
    (links_swapped g (c.keeps.ensures.rooted t g is.at) c.args.plus
    (plus_is c.args.forest.now c.keeps.ensures c.args.plus c.requires.plus t g is) c.deref-2.result.now
    (ap (map entry_of) c.deref-2.ensures.value ∙ c.in_ok-others.ensures t g is))
