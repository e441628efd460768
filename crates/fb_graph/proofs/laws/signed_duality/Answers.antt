use Rattle.fb_graph.proofs.ShiftedRows.{shot_duality}
use Rattle.fb_graph.proofs.Shifts.{signed_duality}
use Rattle.fb_graph.proofs.laws.signed_duality.Goals as goal

pub returns-clause-problem : goal.returns-clause-problem
returns-clause-problem c = signed_duality

pub returns-clause-shot : goal.returns-clause-shot
returns-clause-shot c = shot_duality
