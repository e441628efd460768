use Rattle.fb_book.proofs.History.{children_before, complete_on_slots, done_is_complete, taken_and_given, taken_and_given_on}
use Rattle.fb_book.proofs.laws.complete_history.Goals as goal

pub returns-clause-both : goal.returns-clause-both
returns-clause-both c = taken_and_given

pub returns-clause-children : goal.returns-clause-children
returns-clause-children c = children_before

pub returns-clause-done : goal.returns-clause-done
returns-clause-done c = done_is_complete

pub returns-clause-slots : goal.returns-clause-slots
returns-clause-slots c = complete_on_slots

pub returns-clause-both_on : goal.returns-clause-both_on
returns-clause-both_on c = taken_and_given_on
