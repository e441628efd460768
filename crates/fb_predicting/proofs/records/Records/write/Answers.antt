use Rattle.std.proofs.Common.{◌<◌, ℕ, subst, arith}
use Rattle.fb_ports.specs.Causes.{Appends}
use Rattle.fb_predicting.proofs.RecordsSoFar.{done_of_rows, odd_of_rows}
use Rattle.fb_predicting.proofs.records.Records.write.Goals as goal

pub returns-then-odd-gt0-clause-ends : goal.returns-then-odd-gt0-clause-ends
returns-then-odd-gt0-clause-ends g c = λ to observables report are. (
  odd_of_rows report.rows (subst (λ (n : ℕ). 0 < n) are.odd c.if-odd-gt0.true),
  subst (Appends (g.O.Sink.taken c.args.out.now) (g.O.Sink.taken c.flush.new.out)) are.text c.in-Ok.ensures.ok,
)

pub returns-clause-ends : goal.returns-clause-ends
returns-clause-ends g c = λ to observables report are. (
  done_of_rows report.rows (let odd = are.odd in let none = c.if-odd-gt0.false in omega arith),
  subst (Appends (g.O.Sink.taken c.args.out.now) (g.O.Sink.taken c.flush.new.out)) are.text c.in-Ok.ensures.ok,
)
