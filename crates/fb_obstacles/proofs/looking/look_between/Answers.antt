use Rattle.std.proofs.Common.{subst}
use Rattle.fb_graph.specs.Problem.{edge_at}
use Rattle.fb_obstacles.specs.InternalLooks.{AreEnds}
use Rattle.fb_obstacles.proofs.HeldEnds.{look_or_one}
use Rattle.fb_obstacles.proofs.looking.look_between.Goals as goal

pub returns-clause-look : goal.returns-clause-look
returns-clause-look g c =
    look_or_one (g.S.Scope.problem c.args.scope.now) (g.R.Roles.role_of c.args.roles.now) c.args.regions.now.nodes c.args.edge c.look_over.result
    (c.look_over.ensures.look c.args.regions.now.nodes
    (subst (λ s. AreEnds c.args.regions.now.nodes (edge_at (g.S.Scope.problem s).edges c.args.edge) c.of.result) c.requires.same c.of.ensures))
