use Rattle.fb_laws.proofs.NestedStates.{nested_opened}
use Rattle.fb_tree_laws.proofs.nested.nested_opened.Goals as goal

pub returns : goal.returns
returns c = nested_opened
