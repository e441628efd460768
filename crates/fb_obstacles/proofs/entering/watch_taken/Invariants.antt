use Rattle.std.proofs.Common.{◌≡◌, ◌+◌, take}
use Rattle.fb_obstacles.specs.InternalWatching.{WatchesOuter}
use Rattle.fb_obstacles.specs.Obstacles.{roles_by}
use Rattle.fb_obstacles.proofs.entering.watch_taken.Given as goal

abbrev pub invariant-loop-edge : goal.invariant-loop-edge
invariant-loop-edge g l = record {
  watched : WatchesOuter (g.S.Scope.problem l.scope) (roles_by (g.R.Roles.role_of l.roles)) l.regions.nodes (take l.edge-index l.edge-items)
      l.initial.watch l.watch;
  counted : l.looks ≡ l.initial.looks + l.edge-index;
}
