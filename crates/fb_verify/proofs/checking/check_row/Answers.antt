use Rattle.fb_verify.proofs.checking.check_row.Goals as goal

pub returns-clause-good : goal.returns-clause-good
returns-clause-good c = rw c.new.ensures at c.check_row.ensures.good

pub returns-clause-least : goal.returns-clause-least
returns-clause-least c = rw c.new.ensures at c.check_row.ensures.least
