use Rattle.fb_files.specs.InternalGathers.{FirstFrom}
use Rattle.fb_files.specs.InternalGathers.{GathersFrom}
use Rattle.fb_files.proofs.Gathered.{gathered_first}
use Rattle.fb_check.proofs.Checked.{all_flushed, first_flushed}
use Rattle.fb_check.proofs.checking.judge.Goals as goal

pub returns-in_default-clause-first : goal.returns-in_default-clause-first
returns-in_default-clause-first g c =
    first_flushed
    (λ shots. GathersFrom (g.F.Files.left c.args.files.now) c.args.stream.now.format c.args.stream.now.graph (g.F.Files.left c.judge_into.new.files) shots c.in_ok-judged.judged.end)
    c.args.graph.now c.args.rows.now (g.O.Sink.taken c.args.out.now) (g.O.Sink.taken c.judge_into.new.out) (g.O.Sink.taken c.flush.new.out)
    c.judge_into.new.outbox.text c.in_ok-judged.judged (FirstFrom (g.F.Files.left c.args.files.now) c.args.stream.now.format c.args.stream.now.graph)
    (λ shots held. gathered_first (g.F.Files.left c.args.files.now) c.args.stream.now.format c.args.stream.now.graph (g.F.Files.left c.judge_into.new.files) shots
    c.in_ok-judged.judged.end held)
    (rw c.new-judge.ensures at c.in_ok-judged.ensures.all) c.in_default.ensures.prefix

pub returns-clause-all : goal.returns-clause-all
returns-clause-all g c =
    all_flushed
    (λ shots. GathersFrom (g.F.Files.left c.args.files.now) c.args.stream.now.format c.args.stream.now.graph (g.F.Files.left c.judge_into.new.files) shots c.in_ok-judged.judged.end)
    c.args.graph.now c.args.rows.now (g.O.Sink.taken c.args.out.now) (g.O.Sink.taken c.judge_into.new.out) (g.O.Sink.taken c.flush.new.out)
    c.judge_into.new.outbox.text c.in_ok-judged.judged (rw c.new-judge.ensures at c.in_ok-judged.ensures.all) c.in-Ok.ensures.ok
