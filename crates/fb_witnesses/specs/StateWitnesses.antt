-- The premises of the laws on whole states are met: in a pentagon of defects a link closes a cycle of two
-- branches, and the blossom of its corners is opened with one couple beside the way; two ends of a line are fused.
use Rattle.std.specs.Prelude.{◌==◌, List, [], ◌∷◌, ◌++◌}
use Rattle.std.specs.List.Sorted.{IsPermutation}
use Rattle.fb_graph.specs.Parity.{is_in}
use Rattle.fb_graph.specs.Problem.{Problem}
use Rattle.fb_graph.specs.Limits.{IsWithinLimits}
use Rattle.fb_graph.specs.Laws.{Link}
use Rattle.fb_graph.specs.Dual.{Node}
use Rattle.fb_graph.specs.Moves.{MaySplit, joined_nodes, split_nodes}
use Rattle.fb_graph.specs.NestUnions.{AreParts, HaveOwnNames}
use Rattle.fb_graph.specs.Singles.{Single, nodes_of}
use Rattle.fb_laws.specs.FusedStates.{AreFurther, without_seam}
use Rattle.fb_witnesses.specs.FusedWitnesses.{freed_end}
use Rattle.fb_laws.specs.Merging.{IsSeam, freed_links}
use Rattle.fb_laws.specs.OpenedCycles.{Couple, IsOpenedCycle, Pass}
use Rattle.fb_laws.specs.PartStates.{PartState, SearchState, IsPartState, IsSearchState}
use Rattle.fb_witnesses.specs.InternalSamples.{edge, line, line_part, link, middle_singles, single}
use Rattle.fb_laws.specs.StateBlossoms.{MayClose, with_cycle}
use Rattle.fb_laws.specs.TreeCycles.{ArePaths}
use Rattle.fb_laws.specs.Trees.{Entry}

-- a pentagon of defects, a defect beside one of its corners, and another one beside the next but one and the boundary
abbrev pub pentagon : Problem
pentagon = record {
  vertices = 8;
  edges =
      edge 0 1 4 ∷ edge 1 2 4 ∷ edge 2 3 4 ∷ edge 3 4 4 ∷ edge 4 0 4 ∷ edge 0 5 4 ∷ edge 2 6 4 ∷ edge 6 7 10 ∷ [];
  is_real = is_in (0 ∷ 1 ∷ 2 ∷ 3 ∷ 4 ∷ 5 ∷ 6 ∷ []);
  is_defect = is_in (0 ∷ 1 ∷ 2 ∷ 3 ∷ 4 ∷ 5 ∷ 6 ∷ []);
}

abbrev pub pentagon_singles : List Single
pentagon_singles =
    single 0 0 2 ∷ single 1 1 2 ∷ single 2 2 2 ∷ single 3 3 2 ∷ single 4 4 2 ∷ single 5 5 2 ∷ single 6 6 2 ∷ []

abbrev pub pentagon_leaves : List Node
pentagon_leaves = nodes_of pentagon_singles

-- from corner 4 to the matched corners on either side
abbrev pub first_branch : Entry
first_branch = record {
  parent = 4;
  tree = link 4 0 (4 ∷ []);
  minus = 0;
  matched = link 0 1 (0 ∷ []);
  plus = 1;
}

abbrev pub second_branch : Entry
second_branch = record {
  parent = 4;
  tree = link 4 3 (3 ∷ []);
  minus = 3;
  matched = link 2 3 (2 ∷ []);
  plus = 2;
}

abbrev pub two_branches : SearchState
two_branches = record {
  nodes = pentagon_leaves;
  cycles = λ n. [];
  tree = second_branch ∷ first_branch ∷ [];
  rest = [];
  unmatched = 4 ∷ 5 ∷ 6 ∷ [];
  root = 4;
  parity = 0;
}

-- Both plus nodes at the ends have branches of their own.
abbrev pub ClosedStateWitness : Type 0
ClosedStateWitness = MayClose pentagon two_branches 7 1 2 (link 1 2 (1 ∷ []))
    × ArePaths two_branches.tree 1 2 [] (first_branch ∷ []) (second_branch ∷ []) × IsSearchState pentagon two_branches

abbrev pub pentagon_links : List Link
pentagon_links =
    link 4 0 (4 ∷ []) ∷ link 0 1 (0 ∷ []) ∷ link 1 2 (1 ∷ []) ∷ link 2 3 (2 ∷ []) ∷ link 4 3 (3 ∷ []) ∷ []

-- the blossom of the five corners between the two other defects
abbrev pub blossom_branch : Entry
blossom_branch = record {
  parent = 6;
  tree = link 6 2 (6 ∷ []);
  minus = 7;
  matched = link 0 5 (5 ∷ []);
  plus = 5;
}

abbrev pub inner_blossom : SearchState
inner_blossom = record {
  nodes = joined_nodes 7 (4 ∷ 0 ∷ 1 ∷ 2 ∷ 3 ∷ []) pentagon_leaves;
  cycles = with_cycle 7 pentagon_links (λ n. []);
  tree = blossom_branch ∷ [];
  rest = [];
  unmatched = 6 ∷ [];
  root = 6;
  parity = 0;
}

-- the blossom matched with the defect beside it, and the last defect unmatched
abbrev pub blossom_pair : PartState
blossom_pair = record {
  nodes = inner_blossom.nodes;
  cycles = inner_blossom.cycles;
  matches = link 0 5 (5 ∷ []) ∷ [];
  unmatched = 6 ∷ [];
}

-- from corner 2 over corner 1 to corner 0
abbrev pub pentagon_way : List Pass
pentagon_way =
    record { matched = link 1 2 (1 ∷ []); plus = 1; tree = link 0 1 (0 ∷ []); minus = 0 } ∷ []

abbrev pub pentagon_couples : List Couple
pentagon_couples = record { first = 4; link = link 4 3 (3 ∷ []); second = 3 } ∷ []

abbrev pub OpenedStateWitness : Type 0
OpenedStateWitness = MaySplit inner_blossom.nodes 7
    × IsOpenedCycle pentagon inner_blossom.nodes (split_nodes 7 inner_blossom.nodes) blossom_branch 2 pentagon_way
    pentagon_couples inner_blossom.unmatched
    × IsSearchState pentagon inner_blossom

-- the two ends of the line
abbrev pub right_end : PartState
right_end = record {
  nodes = nodes_of (single 0 3 2 ∷ []);
  cycles = λ n. [];
  matches = link 3 2 (2 ∷ []) ∷ [];
  unmatched = [];
}

abbrev pub left_end : PartState
left_end = record {
  nodes = nodes_of (single 1 1 2 ∷ []);
  cycles = λ n. [];
  matches = link 1 0 (0 ∷ []) ∷ [];
  unmatched = [];
}

abbrev pub FusedStateWitness : Type 0
FusedStateWitness = IsWithinLimits (line (1 ∷ 2 ∷ 3 ∷ []))
    × AreParts (line_part (3 ∷ [])) (line_part (1 ∷ [])) (line (1 ∷ 2 ∷ 3 ∷ []))
    × HaveOwnNames right_end.nodes left_end.nodes
    × IsSeam (without_seam (line_part (3 ∷ [])) (line_part (1 ∷ [])) (line (1 ∷ 2 ∷ 3 ∷ []))) (line (1 ∷ 2 ∷ 3 ∷ []))
    (right_end.nodes ++ left_end.nodes) freed_end (link 1 0 (0 ∷ []) ∷ []) middle_singles (λ v. v == 2)
    × AreFurther (line (1 ∷ 2 ∷ 3 ∷ [])) (right_end.nodes ++ left_end.nodes) middle_singles
    × IsPermutation (right_end.matches ++ left_end.matches) (freed_links freed_end ++ link 1 0 (0 ∷ []) ∷ [])
    × IsPartState (line_part (3 ∷ [])) right_end × IsPartState (line_part (1 ∷ [])) left_end
