use Rattle.std.proofs.Common.{◌≡◌}
use Rattle.fb_obstacles.specs.Obstacles.{AreMinusBounded, roles_by}
use Rattle.fb_obstacles.proofs.shrinking.look_at_minus.Given as goal

abbrev pub invariant-loop : goal.invariant-loop
invariant-loop g l = record {
  bounded : AreMinusBounded (roles_by (g.R.Roles.role_of l.roles)) l.regions.nodes l.watch;
  same : l.watch ≡ record l.initial.watch { nodes = l.watch.nodes };
}
