use Rattle.fb_book.proofs.Images.{renumbering_completes}
use Rattle.fb_book.proofs.Renumbering.{renumbering_allows}
use Rattle.fb_book.proofs.laws.renumbered_slots.Goals as goal

pub returns-clause-allowed : goal.returns-clause-allowed
returns-clause-allowed c = renumbering_allows

pub returns-clause-complete : goal.returns-clause-complete
returns-clause-complete c = renumbering_completes
