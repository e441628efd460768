use Rattle.fb_trees.proofs.Mapped.{joined_moved, opened_moved, last_of_moved, paired_on_moved, matched_on_moved, grown_on_moved}
use Rattle.fb_trees.proofs.Taken.{taken_from}
use Rattle.fb_trees.proofs.laws.changes_by_number.Goals as goal

pub returns-clause-joined : goal.returns-clause-joined
returns-clause-joined c = λ f joined name tree. joined_moved f joined name tree

pub returns-clause-taken : goal.returns-clause-taken
returns-clause-taken c = λ f joined base root tree are. taken_from f joined base root tree are

pub returns-clause-opened : goal.returns-clause-opened
returns-clause-opened c = λ f newer older e from way. opened_moved f newer older e from way

pub returns-clause-ways : goal.returns-clause-ways
returns-clause-ways c = λ f from way. (last_of_moved f from way, paired_on_moved f from way, matched_on_moved f way, grown_on_moved f way)
