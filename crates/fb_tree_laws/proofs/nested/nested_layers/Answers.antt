use Rattle.fb_laws.proofs.NestedStates.{nested_absorbed, nested_uncovered}
use Rattle.fb_tree_laws.proofs.nested.nested_layers.Goals as goal

pub returns-clause-absorbed : goal.returns-clause-absorbed
returns-clause-absorbed c = nested_absorbed

pub returns-clause-uncovered : goal.returns-clause-uncovered
returns-clause-uncovered c = nested_uncovered
