use Rattle.fb_run.proofs.Promised.{decodes_right}
use Rattle.fb_run.proofs.laws.decodes_right.Goals as goal

pub returns : goal.returns
returns c = decodes_right c.best_corrections.ensures.least c.odd_has_no_correction.ensures.none
