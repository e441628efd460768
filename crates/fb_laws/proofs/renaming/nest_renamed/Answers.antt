use Rattle.fb_graph.proofs.RenamedNodes.{cover_renamed, nest_renamed, outer_renamed, walks_renamed}
use Rattle.fb_laws.proofs.renaming.nest_renamed.Goals as goal

pub returns-clause-nest : goal.returns-clause-nest
returns-clause-nest c = nest_renamed

pub returns-clause-walks : goal.returns-clause-walks
returns-clause-walks c = walks_renamed

pub returns-clause-cover : goal.returns-clause-cover
returns-clause-cover c = cover_renamed

pub returns-clause-outer : goal.returns-clause-outer
returns-clause-outer c = outer_renamed
