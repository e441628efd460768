use Rattle.fb_laws.proofs.FallingRanks.{rank_falls, count_falls}
use Rattle.fb_tree_laws.proofs.measures.search_ends.Goals as goal

pub returns-clause-rank : goal.returns-clause-rank
returns-clause-rank c = rank_falls

pub returns-clause-count : goal.returns-clause-count
returns-clause-count c = count_falls
