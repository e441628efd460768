use Rattle.std.proofs.Common.{take}
use Rattle.fb_trees.specs.Forests.{role_among}
use Rattle.fb_search.specs.InternalClosings.{WatchesMinusBy}
use Rattle.fb_search.proofs.growing_rings.watch_minus.Given as goal

abbrev pub invariant-loop-node : goal.invariant-loop-node
invariant-loop-node g l = WatchesMinusBy (g.S.Scope.problem l.regions.scope) l.regions.nodes (role_among l.forest)
    (take l.node-index l.nodes) l.initial.watch l.watch
