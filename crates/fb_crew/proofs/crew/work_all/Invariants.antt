use Rattle.fb_crew.proofs.crew.work_all.Given as goal

-- the board of the job, and the number of its workers beside the caller
abbrev pub ghosts-run_all-N-Board : goal.ghosts-run_all-N-Board
ghosts-run_all-N-Board g a = record { job = a.job.now; workers = a.beside }
