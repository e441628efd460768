use Rattle.fb_laws.proofs.PartBounds.{parts_below, search_rank_falls}
use Rattle.fb_tree_laws.proofs.ranks.rank_bounded.Goals as goal

pub returns-clause-parts : goal.returns-clause-parts
returns-clause-parts c = parts_below

pub returns-clause-rank : goal.returns-clause-rank
returns-clause-rank c = search_rank_falls
