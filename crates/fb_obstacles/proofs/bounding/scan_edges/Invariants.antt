use Rattle.std.proofs.Common.{ℕ, ◌≡◌, ◌+◌, ◌≤◌, List, length}
use Rattle.fb_obstacles.specs.InternalLooks.{IsMinusLook, LimitsMinus}
use Rattle.fb_obstacles.proofs.BoundedScans.{IsScanned}
use Rattle.fb_obstacles.proofs.bounding.scan_edges.Given as goal

abbrev pub invariant-loop-at : goal.invariant-loop-at
invariant-loop-at g l = record {
  scanned : (names : List ℕ) → LimitsMinus (g.S.Scope.problem l.scope) (g.R.Roles.role_of l.roles) l.regions.nodes names l.fn.minus
      → IsScanned (g.S.Scope.problem l.scope) (g.R.Roles.role_of l.roles) l.regions.nodes names l.fn.watch l.watch l.place l.least;
  edges : IsMinusLook l.least → IsMinusLook l.fn.minus;
  nodes : l.watch.nodes ≡ l.fn.watch.nodes;
  never_falls : l.initial.looks ≤ l.looks;
  counted : l.looks + l.place ≤ l.initial.looks + length l.fn.watch.edges;
}

abbrev pub decreases-loop-at : goal.decreases-loop-at
decreases-loop-at g l = l.place
