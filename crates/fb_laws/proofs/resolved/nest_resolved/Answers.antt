use Rattle.fb_laws.proofs.NestOpenings.{nest_opened}
use Rattle.fb_laws.proofs.SolvedNests.{defects_in_first, leaf_level, nest_resolved}
use Rattle.fb_laws.proofs.resolved.nest_resolved.Goals as goal

pub returns-clause-opened : goal.returns-clause-opened
returns-clause-opened c = nest_opened

pub returns-clause-defects : goal.returns-clause-defects
returns-clause-defects c = defects_in_first

pub returns-clause-level : goal.returns-clause-level
returns-clause-level c = leaf_level

pub returns-clause-resolved : goal.returns-clause-resolved
returns-clause-resolved c = nest_resolved
