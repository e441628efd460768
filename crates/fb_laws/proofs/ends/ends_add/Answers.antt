use Rattle.fb_graph.proofs.EndSums.{ends_append, ends_permuted, ends_union}
use Rattle.fb_laws.proofs.ends.ends_add.Goals as goal

pub returns-clause-append : goal.returns-clause-append
returns-clause-append c = ends_append

pub returns-clause-permuted : goal.returns-clause-permuted
returns-clause-permuted c = ends_permuted

pub returns-clause-union : goal.returns-clause-union
returns-clause-union c = ends_union
