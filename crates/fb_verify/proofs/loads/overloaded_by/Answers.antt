use Rattle.fb_verify.proofs.LoadTables.{least_loaded}
use Rattle.fb_verify.proofs.loads.overloaded_by.Goals as goal

pub returns-clause-least : goal.returns-clause-least
returns-clause-least c =
    least_loaded c.args.graph.now c.args.shot.now c.args.cuts.now c.in_ok-shares.shares.items c.first_above.result c.in_ok-shares.ensures
    (rw c.as_slice.ensures.value at c.first_above.ensures.least)
