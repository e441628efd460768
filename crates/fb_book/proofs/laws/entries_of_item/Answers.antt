use Rattle.fb_book.proofs.History.{trace_gives_status, two_each}
use Rattle.fb_book.proofs.laws.entries_of_item.Goals as goal

pub returns-clause-status : goal.returns-clause-status
returns-clause-status c = trace_gives_status

pub returns-clause-two : goal.returns-clause-two
returns-clause-two c = two_each
