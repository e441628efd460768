use Rattle.std.proofs.Common.{subst}
use Rattle.fb_graph.specs.Limits.{IsGraph}
use Rattle.fb_verify.proofs.Certified.{ok_good, ok_least}
use Rattle.fb_verify.proofs.checking.Judge.check_row.Goals as goal

pub returns-clause-good : goal.returns-clause-good
returns-clause-good c =
    ok_good c.args.self.now c.args.shot.now c.args.row.now c.find_verdict.result (subst IsGraph c.self.view_is c.limits.ensures)
    c.requires.shot c.requires.values c.find_verdict.ensures.verdict

pub returns-clause-least : goal.returns-clause-least
returns-clause-least c =
    ok_least c.args.self.now c.args.shot.now c.args.row.now c.find_verdict.result (subst IsGraph c.self.view_is c.limits.ensures)
    c.requires.shot c.requires.values c.find_verdict.ensures.verdict
