use Rattle.fb_laws.proofs.OpenedRings.{one_place}
use Rattle.fb_laws.proofs.SolvedParts.{end_at_turns}
use Rattle.fb_laws.proofs.part_openings.ends_at_turns.Goals as goal

pub returns-clause-turn : goal.returns-clause-turn
returns-clause-turn c = end_at_turns

pub returns-clause-place : goal.returns-clause-place
returns-clause-place c = one_place
