use Rattle.fb_laws.proofs.UnmatchedNames as lemma
use Rattle.fb_tree_laws.proofs.unmatched.outer_names.Goals as goal

pub returns-clause-begin : goal.returns-clause-begin
returns-clause-begin c = lemma.outer_begin

pub returns-clause-beside : goal.returns-clause-beside
returns-clause-beside c = lemma.outer_beside

pub returns-clause-child : goal.returns-clause-child
returns-clause-child c = lemma.no_child_unmatched

pub returns-clause-fewer : goal.returns-clause-fewer
returns-clause-fewer c = lemma.outer_fewer

pub returns-clause-joined : goal.returns-clause-joined
returns-clause-joined c = lemma.outer_joined

pub returns-clause-split : goal.returns-clause-split
returns-clause-split c = lemma.outer_split

pub returns-clause-singles_added : goal.returns-clause-singles_added
returns-clause-singles_added c = lemma.outer_singles_added

pub returns-clause-stepped : goal.returns-clause-stepped
returns-clause-stepped c = lemma.outer_stepped

pub returns-clause-absorbed : goal.returns-clause-absorbed
returns-clause-absorbed c = lemma.outer_absorbed

pub returns-clause-uncovered : goal.returns-clause-uncovered
returns-clause-uncovered c = lemma.outer_uncovered
