use Rattle.std.proofs.Common.{map, take}
use Rattle.fb_search.specs.InternalGrowingEnds.{WatchesEach}
use Rattle.fb_search.proofs.growing_ends.watch_branches.Given as goal

abbrev pub invariant-loop-branch : goal.invariant-loop-branch
invariant-loop-branch g l =
    WatchesEach (g.S.Scope.problem l.regions.scope) l.regions.nodes (take l.branch-index (map (λ b. b.minus) l.branches))
    l.initial.watch l.watch
