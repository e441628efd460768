use Rattle.fb_laws.proofs.NestedStates.{nested_free}
use Rattle.fb_tree_laws.proofs.nested.nested_free.Goals as goal

pub returns : goal.returns
returns c = nested_free
