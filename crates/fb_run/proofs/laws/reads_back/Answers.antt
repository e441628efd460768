use Rattle.fb_run.proofs.Reread.{report_reads_back}
use Rattle.fb_run.proofs.laws.reads_back.Goals as goal

pub returns : goal.returns
returns c = report_reads_back c.reads_back.ensures.traced
