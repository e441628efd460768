use Rattle.std.proofs.Common.{refl, arith}
use Rattle.std.proofs.lemmas.Grind.{common_steps}
use Rattle.fb_shots.proofs.stream.read_on.Goals as goal

pub returns-in_default-clause-reads : goal.returns-in_default-clause-reads
returns-in_default-clause-reads g c = (refl, c.in_default.ensures.failed, c.in_default.ensures.bytes, refl)

pub returns-in_default-clause-faults : goal.returns-in_default-clause-faults
returns-in_default-clause-faults g c = (λ same. c.in_default.ensures.cause.0, c.in_default.ensures.cause.1, λ other. absurd (other refl))

pub returns-then-untaken-eq0-clause-reads : goal.returns-then-untaken-eq0-clause-reads
returns-then-untaken-eq0-clause-reads g c =
    (refl, c.clear.ensures, grind (arith, common_steps), c.if-untaken-eq0.true, c.if-untaken-eq0.true)
