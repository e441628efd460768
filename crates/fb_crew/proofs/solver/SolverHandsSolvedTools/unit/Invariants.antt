use Rattle.fb_crew.proofs.solver.SolverHandsSolvedTools.unit.Given as goal

abbrev pub ghosts-unit_by : goal.ghosts-unit_by
ghosts-unit_by a = record { name = a.blank.name; parts = a.blank.parts }
