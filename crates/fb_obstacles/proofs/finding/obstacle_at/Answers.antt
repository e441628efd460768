use Rattle.std.proofs.Common.{◌∙◌, sym, subst}
use Rattle.fb_graph.specs.Problem.{edge_at, no_edge}
use Rattle.fb_graph.specs.Dual.{IsDual}
use Rattle.fb_obstacles.specs.InternalLooks.{cover_at, far_end}
use Rattle.fb_obstacles.specs.Obstacles.{BearsStep, Obstructs, residue_at, roles_by}
use Rattle.fb_obstacles.specs.declared.looking.Look.TheVariants.{Clear, Within, Blocked}
use Rattle.fb_laws.proofs.StepBounds.{edge_within_allows}
use Rattle.fb_obstacles.proofs.LookLimits.{limits_one}
use Rattle.fb_obstacles.proofs.EdgeScans.{edge_looked}
use Rattle.fb_obstacles.proofs.LookPlaces.{blocked_there}
use Rattle.fb_obstacles.proofs.finding.obstacle_at.Goals as goal

pub returns-in-Blocked-clause-obstacle : goal.returns-in-Blocked-clause-obstacle
returns-in-Blocked-clause-obstacle g c =
    edge_looked (g.S.Scope.problem c.args.scope.now) (g.R.Roles.role_of c.args.roles.now) c.args.regions.now.nodes
    c.args.edge (Blocked c.in-Blocked.obstacle)
    (subst (λ s. IsDual (g.S.Scope.problem s) c.args.regions.now.nodes) c.requires.same c.keeps_dual.ensures)
    c.requires.roles c.requires.parity c.limits.ensures c.requires.below (sym c.in-Blocked.is ∙ c.in-Some.ensures.look.0)

pub returns-in-Clear-clause-obstacle : goal.returns-in-Clear-clause-obstacle
returns-in-Clear-clause-obstacle g c =
    edge_looked (g.S.Scope.problem c.args.scope.now) (g.R.Roles.role_of c.args.roles.now) c.args.regions.now.nodes
    c.args.edge (Clear)
    (subst (λ s. IsDual (g.S.Scope.problem s) c.args.regions.now.nodes) c.requires.same c.keeps_dual.ensures)
    c.requires.roles c.requires.parity c.limits.ensures c.requires.below (sym c.in-Clear.is ∙ c.in-Some.ensures.look.0) 1

pub returns-in-Within-clause-obstacle : goal.returns-in-Within-clause-obstacle
returns-in-Within-clause-obstacle g c =
    limits_one
    (λ j. BearsStep (roles_by (g.R.Roles.role_of c.args.roles.now)) c.args.regions.now.nodes j (edge_at (g.S.Scope.problem c.args.scope.now).edges c.args.edge))
    (Obstructs (g.S.Scope.problem c.args.scope.now) (roles_by (g.R.Roles.role_of c.args.roles.now)) c.args.regions.now.nodes) c.in-Within.field-0
    (edge_looked (g.S.Scope.problem c.args.scope.now) (g.R.Roles.role_of c.args.roles.now) c.args.regions.now.nodes
    c.args.edge (Within c.in-Within.field-0)
    (subst (λ s. IsDual (g.S.Scope.problem s) c.args.regions.now.nodes) c.requires.same c.keeps_dual.ensures)
    c.requires.roles c.requires.parity c.limits.ensures c.requires.below (sym c.in-Within.is ∙ c.in-Some.ensures.look.0))

pub returns-in_default-clause-obstacle : goal.returns-in_default-clause-obstacle
returns-in_default-clause-obstacle g c =
    let dual : IsDual (g.S.Scope.problem c.args.scope.now) c.args.regions.now.nodes =
    subst (λ s. IsDual (g.S.Scope.problem s) c.args.regions.now.nodes) c.requires.same c.keeps_dual.ensures in
    edge_within_allows (g.S.Scope.problem c.args.scope.now) (roles_by (g.R.Roles.role_of c.args.roles.now)) c.args.regions.now.nodes 1
    (edge_at (g.S.Scope.problem c.args.scope.now).edges c.args.edge) dual c.requires.roles
    (dual.packing.fits c.args.edge no_edge c.requires.below) c.in_default.ensures.look

pub returns-in-Blocked-clause-place : goal.returns-in-Blocked-clause-place
returns-in-Blocked-clause-place g c =
    blocked_there
    (far_end (cover_at (g.S.Scope.problem c.args.scope.now) (g.R.Roles.role_of c.args.roles.now) c.args.regions.now.nodes
    (edge_at (g.S.Scope.problem c.args.scope.now).edges c.args.edge).first)
    (cover_at (g.S.Scope.problem c.args.scope.now) (g.R.Roles.role_of c.args.roles.now) c.args.regions.now.nodes
    (edge_at (g.S.Scope.problem c.args.scope.now).edges c.args.edge).second))
    (residue_at (g.S.Scope.problem c.args.scope.now) c.args.regions.now.nodes c.args.edge) c.args.edge c.in-Blocked.obstacle
    (sym c.in-Some.ensures.look.0 ∙ c.in-Blocked.is)
