use Rattle.fb_book.proofs.History.{progress, used_by_parent}
use Rattle.fb_book.proofs.laws.progress.Goals as goal

pub returns-clause-progress : goal.returns-clause-progress
returns-clause-progress c = progress

pub returns-clause-used : goal.returns-clause-used
returns-clause-used c = used_by_parent
