use Rattle.fb_laws.proofs.StateMeasures as lemma
use Rattle.fb_tree_laws.proofs.state_measures.state_lowers.Goals as goal

pub returns-clause-attached : goal.returns-clause-attached
returns-clause-attached c = lemma.attached_less

pub returns-clause-closed : goal.returns-clause-closed
returns-clause-closed c = lemma.closed_less

pub returns-clause-opened : goal.returns-clause-opened
returns-clause-opened c = lemma.opened_less

pub returns-clause-rounded : goal.returns-clause-rounded
returns-clause-rounded c = lemma.rounded_less

pub returns-clause-stepped : goal.returns-clause-stepped
returns-clause-stepped c = lemma.stepped_less

pub returns-clause-absorbed : goal.returns-clause-absorbed
returns-clause-absorbed c = lemma.absorbed_less

pub returns-clause-uncovered : goal.returns-clause-uncovered
returns-clause-uncovered c = lemma.uncovered_less
