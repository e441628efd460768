use Rattle.fb_desk.proofs.here.work_here.Given as goal

-- the board of the job, whose one worker is the calling thread
abbrev pub ghosts-run_here-N-Board : goal.ghosts-run_here-N-Board
ghosts-run_here-N-Board g a = record { job = a.job.now; workers = a.workers }
