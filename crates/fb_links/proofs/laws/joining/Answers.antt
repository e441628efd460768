use Rattle.fb_links.proofs.Turns.{Runs-chained, Runs-ends, Runs-turned_walk, Runs-append, weight-turned_walk, weight-append, turned_link}
use Rattle.fb_links.proofs.Joins.{walk_joined}
use Rattle.fb_links.proofs.laws.joining.Goals as goal

pub returns-clause-ends : goal.returns-clause-ends
returns-clause-ends c = Runs-ends

pub returns-clause-chained : goal.returns-clause-chained
returns-clause-chained c = Runs-chained

pub returns-clause-back : goal.returns-clause-back
returns-clause-back c = Runs-turned_walk

pub returns-clause-same : goal.returns-clause-same
returns-clause-same c = weight-turned_walk

pub returns-clause-turned : goal.returns-clause-turned
returns-clause-turned c = turned_link

pub returns-clause-on : goal.returns-clause-on
returns-clause-on c = Runs-append

pub returns-clause-weigh : goal.returns-clause-weigh
returns-clause-weigh c = weight-append

pub returns-clause-joined : goal.returns-clause-joined
returns-clause-joined c = walk_joined
