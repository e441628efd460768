use Rattle.fb_obstacles.proofs.HeldEnds.{by_known_ends, inner_by_ends, apart_by_ends}
use Rattle.fb_obstacles.proofs.looking.look_over.Goals as goal

pub returns-then-are_under_one-clause-look : goal.returns-then-are_under_one-clause-look
returns-then-are_under_one-clause-look g c = λ nodes known.
    inner_by_ends nodes _ c.args.ends c.are_under_one.result known c.are_under_one.ensures c.if-are_under_one.true

pub returns-clause-look : goal.returns-clause-look
returns-clause-look g c = λ nodes known. (
  by_known_ends (g.S.Scope.problem c.args.scope.now) (g.R.Roles.role_of c.args.roles.now) nodes c.args.edge c.weight.result c.residue-residue.result c.args.ends _ known c.weight.ensures c.residue-residue.ensures c.look_with.ensures,
  apart_by_ends nodes _ c.args.ends c.are_under_one.result known c.are_under_one.ensures c.if-are_under_one.false,
)
