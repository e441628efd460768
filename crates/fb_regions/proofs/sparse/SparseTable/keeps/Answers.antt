use Rattle.fb_regions.proofs.Stored.{stored_distinct}
use Rattle.fb_regions.proofs.sparse.SparseTable.keeps.Goals as goal

pub returns-clause-distinct : goal.returns-clause-distinct
returns-clause-distinct g c = rw (← c.self.view_is) (stored_distinct _ _ _ _ _ c.self.invariant)
