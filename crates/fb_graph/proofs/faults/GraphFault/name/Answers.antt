use Rattle.std.proofs.Common.{refl}
use Rattle.fb_graph.proofs.faults.GraphFault.name.Goals as goal

pub returns-in-OddWeight : goal.returns-in-OddWeight
returns-in-OddWeight c = rw c.in-OddWeight.is refl
