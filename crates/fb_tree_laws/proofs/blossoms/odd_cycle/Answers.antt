use Rattle.fb_laws.proofs.BlossomSums.{odd_cycle, plus_base, even_way}
use Rattle.fb_tree_laws.proofs.blossoms.odd_cycle.Goals as goal

pub returns-clause-odd : goal.returns-clause-odd
returns-clause-odd c = odd_cycle

pub returns-clause-base : goal.returns-clause-base
returns-clause-base c = plus_base

pub returns-clause-even : goal.returns-clause-even
returns-clause-even c = even_way
