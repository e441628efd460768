use Rattle.fb_laws.proofs.NestedStates.{nested_attached}
use Rattle.fb_tree_laws.proofs.nested.nested_attached.Goals as goal

pub returns : goal.returns
returns c = nested_attached
