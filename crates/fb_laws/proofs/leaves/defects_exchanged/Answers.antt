use Rattle.fb_laws.proofs.ExchangedDefects.{dual_exchanged, nest_exchanged, walks_exchanged}
use Rattle.fb_laws.proofs.leaves.defects_exchanged.Goals as goal

pub returns-clause-dual : goal.returns-clause-dual
returns-clause-dual c = dual_exchanged

pub returns-clause-nest : goal.returns-clause-nest
returns-clause-nest c = nest_exchanged

pub returns-clause-walks : goal.returns-clause-walks
returns-clause-walks c = walks_exchanged
