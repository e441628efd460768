use Rattle.fb_laws.proofs.RenamedStates.{links_renamed, nested_work_renamed, work_renamed}
use Rattle.fb_laws.proofs.renaming.work_renamed.Goals as goal

pub returns-clause-links : goal.returns-clause-links
returns-clause-links c = links_renamed

pub returns-clause-work : goal.returns-clause-work
returns-clause-work c = work_renamed

pub returns-clause-nested : goal.returns-clause-nested
returns-clause-nested c = nested_work_renamed
