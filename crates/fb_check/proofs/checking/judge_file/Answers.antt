use Rattle.fb_check.proofs.Checked.{none_judged}
use Rattle.fb_check.proofs.checking.judge_file.Goals as goal

pub returns-in_default-clause-first : goal.returns-in_default-clause-first
returns-in_default-clause-first g c = none_judged (g.F.Files.left c.args.files.now) c.args.format c.args.graph.now c.args.rows.now (g.O.Sink.taken c.args.out.now)

pub returns-clause-all : goal.returns-clause-all
returns-clause-all g c = rw c.in-Ok.ensures.fresh at c.judge.ensures.all

pub returns-clause-first : goal.returns-clause-first
returns-clause-first g c = rw c.in-Ok.ensures.fresh at c.judge.ensures.first
