use Rattle.fb_laws.proofs.NestedStates.{nested_joined}
use Rattle.fb_tree_laws.proofs.nested.nested_joined.Goals as goal

pub returns : goal.returns
returns c = nested_joined
