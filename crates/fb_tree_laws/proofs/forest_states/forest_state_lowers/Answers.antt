use Rattle.fb_laws.proofs.ForestMeasures.{forest_absorbed_less, forest_attached_less, forest_closed_less, forest_opened_less, forest_rounded_less, forest_stepped_less, forest_uncovered_less}
use Rattle.fb_tree_laws.proofs.forest_states.forest_state_lowers.Goals as goal

pub returns-clause-stepped : goal.returns-clause-stepped
returns-clause-stepped c = forest_stepped_less

pub returns-clause-absorbed : goal.returns-clause-absorbed
returns-clause-absorbed c = forest_absorbed_less

pub returns-clause-uncovered : goal.returns-clause-uncovered
returns-clause-uncovered c = forest_uncovered_less

pub returns-clause-attached : goal.returns-clause-attached
returns-clause-attached c = forest_attached_less

pub returns-clause-closed : goal.returns-clause-closed
returns-clause-closed c = forest_closed_less

pub returns-clause-rounded : goal.returns-clause-rounded
returns-clause-rounded c = forest_rounded_less

pub returns-clause-opened : goal.returns-clause-opened
returns-clause-opened c = forest_opened_less
