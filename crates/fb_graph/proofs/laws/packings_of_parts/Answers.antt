use Rattle.fb_graph.proofs.ClosedSets.{packing_of_part}
use Rattle.fb_graph.proofs.ClosedSets.{packings_joined}
use Rattle.fb_graph.proofs.laws.packings_of_parts.Goals as goal

pub returns-clause-part : goal.returns-clause-part
returns-clause-part c = packing_of_part

pub returns-clause-joined : goal.returns-clause-joined
returns-clause-joined c = packings_joined
