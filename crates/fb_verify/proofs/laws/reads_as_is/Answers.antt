use Rattle.fb_verify.proofs.OneThing.{reads_as_is, is_one_thing}
use Rattle.fb_verify.proofs.laws.reads_as_is.Goals as goal

pub returns-clause-is : goal.returns-clause-is
returns-clause-is c = reads_as_is

pub returns-clause-alone : goal.returns-clause-alone
returns-clause-alone c = is_one_thing
