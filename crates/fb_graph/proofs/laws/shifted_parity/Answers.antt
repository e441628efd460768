use Rattle.fb_graph.proofs.ShiftedRows.{same_shifted_odd}
use Rattle.fb_graph.proofs.Shifts.{shifted_first_odd, shifted_no_odd_closed}
use Rattle.fb_graph.proofs.laws.shifted_parity.Goals as goal

pub returns-clause-first : goal.returns-clause-first
returns-clause-first c = shifted_first_odd

pub returns-clause-closed : goal.returns-clause-closed
returns-clause-closed c = shifted_no_odd_closed

pub returns-clause-shot : goal.returns-clause-shot
returns-clause-shot c = same_shifted_odd
