use Rattle.std.proofs.Common.{length}
use Rattle.fb_desk.proofs.workers.work_all.Given as goal

-- the board of the job and the number of its workers
abbrev pub ghosts-run_all-N-Board : goal.ghosts-run_all-N-Board
ghosts-run_all-N-Board g a = record { job = a.job.now; workers = length a.tools.items }

-- the ledger of its events
abbrev pub ghosts-run_all-N-Ledger : goal.ghosts-run_all-N-Ledger
ghosts-run_all-N-Ledger g a = record { name = a.blank.name; parts = a.blank.parts }

-- the board of the job, done by the calling thread alone
abbrev pub ghosts-run_here-N-Board : goal.ghosts-run_here-N-Board
ghosts-run_here-N-Board g a = record { job = a.job.now; workers = a.workers }
