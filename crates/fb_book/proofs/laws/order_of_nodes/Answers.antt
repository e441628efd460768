use Rattle.fb_book.proofs.Making.{fusion_is_made_last, unit_is_made_alone}
use Rattle.fb_book.proofs.laws.order_of_nodes.Goals as goal

pub returns-clause-unit : goal.returns-clause-unit
returns-clause-unit c = unit_is_made_alone

pub returns-clause-fusion : goal.returns-clause-fusion
returns-clause-fusion c = fusion_is_made_last
