use Rattle.fb_crew.proofs.here.work_here.Given as goal

-- the board of the job, with no worker beside the caller
abbrev pub ghosts-run_here-N-Board : goal.ghosts-run_here-N-Board
ghosts-run_here-N-Board g a = record { job = a.job.now; workers = 0 }
