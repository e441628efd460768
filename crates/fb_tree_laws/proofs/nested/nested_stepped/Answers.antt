use Rattle.fb_laws.proofs.NestedStates.{nested_stepped}
use Rattle.fb_tree_laws.proofs.nested.nested_stepped.Goals as goal

pub returns : goal.returns
returns c = nested_stepped
