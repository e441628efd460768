use Rattle.std.proofs.Common.{refl}
use Rattle.fb_trees.proofs.changes.renamed_name.Goals as goal

pub returns-else-contains : goal.returns-else-contains
returns-else-contains c = rw (← c.contains.ensures, c.if-contains.false) refl
