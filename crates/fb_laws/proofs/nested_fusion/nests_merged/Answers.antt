use Rattle.fb_graph.proofs.MergedNests.{nests_merged, nest_singles_added, walks_beside, walks_merged, walks_singles_added}
use Rattle.fb_graph.proofs.NestUnions.{nests_beside}
use Rattle.fb_laws.proofs.nested_fusion.nests_merged.Goals as goal

pub returns-clause-beside : goal.returns-clause-beside
returns-clause-beside c = nests_beside

pub returns-clause-merged : goal.returns-clause-merged
returns-clause-merged c = nests_merged

pub returns-clause-singles_added : goal.returns-clause-singles_added
returns-clause-singles_added c = nest_singles_added

pub returns-clause-walks_beside : goal.returns-clause-walks_beside
returns-clause-walks_beside c = walks_beside

pub returns-clause-walks_merged : goal.returns-clause-walks_merged
returns-clause-walks_merged c = walks_merged

pub returns-clause-walks_singles_added : goal.returns-clause-walks_singles_added
returns-clause-walks_singles_added c = walks_singles_added
