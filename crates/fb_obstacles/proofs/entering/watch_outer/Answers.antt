use Rattle.std.proofs.Common.{◌≤◌, arith, subst, sym}
use Rattle.fb_obstacles.specs.InternalLooks.{bound_by}
use Rattle.fb_obstacles.specs.Obstacles.{roles_by, slack_at}
use Rattle.fb_obstacles.proofs.EdgeLooks.{look_bound}
use Rattle.fb_obstacles.proofs.LeftEdges.{watched_entered, watched_left}
use Rattle.fb_obstacles.proofs.entering.watch_outer.Goals as goal

pub returns-in-Some-clause-watched : goal.returns-in-Some-clause-watched
returns-in-Some-clause-watched g c =
    let p = g.S.Scope.problem c.args.scope.now in
    let role_of = g.R.Roles.role_of c.args.roles.now in
    watched_entered p (roles_by role_of) c.args.regions.now.nodes c.args.edge c.bound.result c.args.watch.now c.enter_with.new.self
    c.in-Some.ensures.look.1 c.enter_with.ensures.count c.enter_with.ensures.edges
    (omega (arith, c.bound.ensures, subst (λ l. bound_by l ≤ slack_at p (roles_by role_of) c.args.regions.now.nodes c.args.edge) (sym c.in-Some.ensures.look.0) (look_bound p role_of c.args.regions.now.nodes c.args.edge)))
    c.enter_with.ensures.bounds c.enter_with.ensures.nodes

pub returns-in-None-clause-watched : goal.returns-in-None-clause-watched
returns-in-None-clause-watched g c =
    watched_left (g.S.Scope.problem c.args.scope.now) (roles_by (g.R.Roles.role_of c.args.roles.now)) c.args.regions.now.nodes c.args.edge
    c.args.watch.now c.leave.new.self c.in-None.ensures.look c.leave.ensures.count c.leave.ensures.edges
    c.leave.ensures.bounds c.leave.ensures.nodes
