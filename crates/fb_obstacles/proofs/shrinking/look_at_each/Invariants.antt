use Rattle.std.proofs.Common.{take, All}
use Rattle.fb_graph.specs.Problem.{Problem}
use Rattle.fb_obstacles.specs.Obstacles.{Obstructs, roles_by}
use Rattle.fb_obstacles.specs.InternalLooks.{Limits}
use Rattle.fb_obstacles.proofs.NodeLooks.{MayShrink, names_of}
use Rattle.fb_obstacles.proofs.shrinking.look_at_each.Given as goal

abbrev pub invariant-loop-place : goal.invariant-loop-place
invariant-loop-place g l =
    (p : Problem) → Limits (λ j. All (MayShrink (roles_by (g.R.Roles.role_of l.roles)) l.regions.nodes j)
    (take l.place (names_of (roles_by (g.R.Roles.role_of l.roles)) l.watch.nodes)))
    (Obstructs p (roles_by (g.R.Roles.role_of l.roles)) l.regions.nodes) l.least
