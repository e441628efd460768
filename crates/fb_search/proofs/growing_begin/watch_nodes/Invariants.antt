use Rattle.std.proofs.Common.{take}
use Rattle.fb_search.specs.InternalGrowingEnds.{WatchesEach}
use Rattle.fb_search.proofs.growing_begin.watch_nodes.Given as goal

abbrev pub invariant-loop-node : goal.invariant-loop-node
invariant-loop-node g l = WatchesEach (g.S.Scope.problem l.regions.scope) l.regions.nodes (take l.node-index l.nodes) l.initial.watch l.watch
