use Rattle.std.proofs.Common.{map, ap, ◌∙◌}
use Rattle.fb_trees.specs.Forests.{tree_at}
use Rattle.fb_trees.proofs.ForestReads.{plus_outside}
use Rattle.fb_laws.specs.Trees.{minus_names}
use Rattle.fb_search.proofs.DissolvedWatches.{branches_live, each_same, minus_same}
use Rattle.fb_search.proofs.growing_ends.watch_tree.Goals as goal

pub unreachable-requires : goal.unreachable-requires
unreachable-requires g c = plus_outside c.args.forest.now c.args.plus c.requires.plus c.in_default.ensures.tree

pub watch_branches-requires-clause-live : goal.watch_branches-requires-clause-live
watch_branches-requires-clause-live g c =
    let (h, there) = c.in-Some.ensures.tree in
    branches_live c.args.regions.now.nodes c.branches.result.now h.branches (c.branches.ensures h there.at)
    (c.requires.live c.in-Some.tree h there)

pub returns : goal.returns
returns g c t h is =
    let (x, there) = c.in-Some.ensures.tree in
    each_same (g.S.Scope.problem c.args.regions.now.scope) c.args.regions.now.nodes
    (map (λ b. b.minus) c.branches.result.now) (minus_names h.branches) c.args.watch.now c.watch_branches.new.watch
    (λ n among.
    minus_same c.branches.result.now h.branches
    (c.branches.ensures h
    (ap (tree_at c.args.forest.now) (c.keeps.ensures.apart c.in-Some.tree t c.args.plus x h there is) ∙ is.at)) n
    ∙ among)
    c.watch_branches.ensures
