use Rattle.fb_verify.proofs.ReadRows.{read_back, plain_read_back}
use Rattle.fb_verify.proofs.laws.reads_back.Goals as goal

pub returns-clause-traced : goal.returns-clause-traced
returns-clause-traced c = read_back

pub returns-clause-plain : goal.returns-clause-plain
returns-clause-plain c = plain_read_back
