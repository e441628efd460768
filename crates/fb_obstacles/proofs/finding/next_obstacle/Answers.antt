use Rattle.std.proofs.Common.{subst}
use Rattle.fb_graph.specs.Dual.{IsDual}
use Rattle.fb_obstacles.specs.Obstacles.{roles_by}
use Rattle.fb_obstacles.specs.InternalLooks.{LimitsBoth, minus_tops}
use Rattle.fb_obstacles.specs.declared.looking.Look.TheVariants.{Clear, Within}
use Rattle.fb_obstacles.proofs.Conclusions.{bound_is_free, found_obstacle, look_limits, some_bound, watched_without_inner}
use Rattle.fb_obstacles.proofs.finding.next_obstacle.Goals as goal

pub unreachable-requires : goal.unreachable-requires
unreachable-requires g c =
    some_bound (g.S.Scope.problem c.args.scope.now) (roles_by (g.R.Roles.role_of c.args.roles.now)) c.args.regions.now.nodes (subst (λ s. IsDual (g.S.Scope.problem s) c.args.regions.now.nodes) c.requires.same c.keeps_dual.ensures) c.requires.roles c.requires.plus c.requires.even
    (look_limits (g.S.Scope.problem c.args.scope.now) (roles_by (g.R.Roles.role_of c.args.roles.now)) c.args.regions.now.nodes c.args.watch.now.edges Clear (subst (λ s. IsDual (g.S.Scope.problem s) c.args.regions.now.nodes) c.requires.same c.keeps_dual.ensures)
    c.requires.roles c.requires.watched
    (subst (LimitsBoth (g.S.Scope.problem c.args.scope.now) (roles_by (g.R.Roles.role_of c.args.roles.now)) c.args.regions.now.nodes (minus_tops (roles_by (g.R.Roles.role_of c.args.roles.now)) c.args.regions.now.nodes) c.args.watch.now.edges) c.in-Clear.is c.look_by_bounds.ensures.scanned.limits))

pub returns-in-Within-clause-obstacle : goal.returns-in-Within-clause-obstacle
returns-in-Within-clause-obstacle g c =
    bound_is_free (g.S.Scope.problem c.args.scope.now) (roles_by (g.R.Roles.role_of c.args.roles.now)) c.args.regions.now.nodes c.in-Within.most (subst (λ s. IsDual (g.S.Scope.problem s) c.args.regions.now.nodes) c.requires.same c.keeps_dual.ensures) c.requires.roles
    (look_limits (g.S.Scope.problem c.args.scope.now) (roles_by (g.R.Roles.role_of c.args.roles.now)) c.args.regions.now.nodes c.args.watch.now.edges (Within c.in-Within.most) (subst (λ s. IsDual (g.S.Scope.problem s) c.args.regions.now.nodes) c.requires.same c.keeps_dual.ensures)
    c.requires.roles c.requires.watched
    (subst (LimitsBoth (g.S.Scope.problem c.args.scope.now) (roles_by (g.R.Roles.role_of c.args.roles.now)) c.args.regions.now.nodes (minus_tops (roles_by (g.R.Roles.role_of c.args.roles.now)) c.args.regions.now.nodes) c.args.watch.now.edges) c.in-Within.is c.look_by_bounds.ensures.scanned.limits))

pub returns-in-Blocked-clause-obstacle : goal.returns-in-Blocked-clause-obstacle
returns-in-Blocked-clause-obstacle g c =
    found_obstacle (g.S.Scope.problem c.args.scope.now) (roles_by (g.R.Roles.role_of c.args.roles.now)) c.args.regions.now.nodes c.in-Blocked.obstacle
    (subst (LimitsBoth (g.S.Scope.problem c.args.scope.now) (roles_by (g.R.Roles.role_of c.args.roles.now)) c.args.regions.now.nodes (minus_tops (roles_by (g.R.Roles.role_of c.args.roles.now)) c.args.regions.now.nodes) c.args.watch.now.edges) c.in-Blocked.is c.look_by_bounds.ensures.scanned.limits)

pub returns-in-Within-clause-watched : goal.returns-in-Within-clause-watched
returns-in-Within-clause-watched g c =
    watched_without_inner (g.S.Scope.problem c.args.scope.now) (roles_by (g.R.Roles.role_of c.args.roles.now)) c.args.regions.now.nodes
    c.args.watch.now c.look_by_bounds.new.watch c.look_by_bounds.ensures.scanned.watched c.requires.watched

pub returns-in-Blocked-clause-watched : goal.returns-in-Blocked-clause-watched
returns-in-Blocked-clause-watched g c =
    watched_without_inner (g.S.Scope.problem c.args.scope.now) (roles_by (g.R.Roles.role_of c.args.roles.now)) c.args.regions.now.nodes
    c.args.watch.now c.look_by_bounds.new.watch c.look_by_bounds.ensures.scanned.watched c.requires.watched
