use Rattle.fb_laws.proofs.HalvesKept.{work_begins}
use Rattle.fb_laws.proofs.works.work_begins.Goals as goal

pub returns : goal.returns
returns c = work_begins
