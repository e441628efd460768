use Rattle.fb_run.proofs.Answered.{only_write_fault}
use Rattle.fb_run.proofs.running.run.Goals as goal

pub returns-clause-write_reported : goal.returns-clause-write_reported
returns-clause-write_reported g c = only_write_fault c.run_words-cause.result _ _ c.run_words-cause.ensures.writes.2
