use Rattle.fb_laws.proofs.SolvedParts.{level_opened, opened_perfect, part_is_best, part_solved, row_of_part}
use Rattle.fb_laws.proofs.part_openings.part_solved.Goals as goal

pub returns-clause-level : goal.returns-clause-level
returns-clause-level c = level_opened

pub returns-clause-perfect : goal.returns-clause-perfect
returns-clause-perfect c = opened_perfect

pub returns-clause-solved : goal.returns-clause-solved
returns-clause-solved c = part_solved

pub returns-clause-best : goal.returns-clause-best
returns-clause-best c = part_is_best

pub returns-clause-row : goal.returns-clause-row
returns-clause-row c = row_of_part
