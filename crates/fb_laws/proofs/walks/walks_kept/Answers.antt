use Rattle.fb_graph.proofs.SourceWalks.{covered_walk, walks_begin, walks_joined, walks_split, walks_absorbed, walks_uncovered, walks_stepped}
use Rattle.fb_laws.proofs.walks.walks_kept.Goals as goal

pub returns-clause-begins : goal.returns-clause-begins
returns-clause-begins c = walks_begin

pub returns-clause-joined : goal.returns-clause-joined
returns-clause-joined c = walks_joined

pub returns-clause-split : goal.returns-clause-split
returns-clause-split c = walks_split

pub returns-clause-stepped : goal.returns-clause-stepped
returns-clause-stepped c = walks_stepped

pub returns-clause-absorbed : goal.returns-clause-absorbed
returns-clause-absorbed c = walks_absorbed

pub returns-clause-uncovered : goal.returns-clause-uncovered
returns-clause-uncovered c = walks_uncovered

pub returns-clause-covered : goal.returns-clause-covered
returns-clause-covered c = covered_walk
