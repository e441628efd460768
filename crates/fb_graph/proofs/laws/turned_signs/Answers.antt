use Rattle.fb_graph.proofs.SignTurns.{negatives_by_turns, shifted_by_turns}
use Rattle.fb_graph.proofs.laws.turned_signs.Goals as goal

pub returns-clause-negatives : goal.returns-clause-negatives
returns-clause-negatives c = negatives_by_turns

pub returns-clause-defects : goal.returns-clause-defects
returns-clause-defects c = shifted_by_turns
