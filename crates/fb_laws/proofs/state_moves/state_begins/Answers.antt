use Rattle.fb_laws.proofs.StateMoves.{part_begins, search_from_root}
use Rattle.fb_laws.proofs.state_moves.state_begins.Goals as goal

pub returns-clause-part : goal.returns-clause-part
returns-clause-part c = part_begins

pub returns-clause-search : goal.returns-clause-search
returns-clause-search c = search_from_root
