use Rattle.fb_laws.proofs.SolvedRows.{odd_edges_only, odd_ones_only}
use Rattle.fb_laws.proofs.rows.odd_ones_only.Goals as goal

pub returns-clause-numbers : goal.returns-clause-numbers
returns-clause-numbers c = odd_ones_only

pub returns-clause-edges : goal.returns-clause-edges
returns-clause-edges c = odd_edges_only
