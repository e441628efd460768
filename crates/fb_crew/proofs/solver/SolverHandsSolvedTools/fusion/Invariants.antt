use Rattle.fb_crew.proofs.solver.SolverHandsSolvedTools.fusion.Given as goal

abbrev pub ghosts-fusion_by : goal.ghosts-fusion_by
ghosts-fusion_by a = record { name = a.blank.name; parts = a.blank.parts }
