-- The premises of the laws on the match of a node are met: on the line of four defects, and beside a tree of the
-- pentagon.
use Rattle.std.specs.Prelude.{◌≡◌, true, false, [], ◌∷◌}
use Rattle.fb_graph.specs.Parity.{is_in}
use Rattle.fb_graph.specs.Laws.{Link}
use Rattle.fb_graph.specs.Dual.{is_live, is_outer}
use Rattle.fb_laws.specs.MatchLinks.{HasMatch, IsMatchOf}
use Rattle.fb_laws.specs.PartStates.{IsSearchState, SearchState}
use Rattle.fb_laws.specs.Trees.{Connects, tree_names}
use Rattle.fb_laws.specs.Works.{IsMatching}
use Rattle.fb_witnesses.specs.BoundWitnesses.{four_nodes, line_of_four}
use Rattle.fb_witnesses.specs.InternalSamples.{link}
use Rattle.fb_witnesses.specs.StateWitnesses.{first_branch, pentagon, pentagon_leaves}

-- the first two defects matched with one another, the last one with the boundary
abbrev pub first_match : Link
first_match = link 1 2 (1 ∷ [])

abbrev pub last_match : Link
last_match = link 4 5 (4 ∷ [])

abbrev pub MatchWitness : Type 0
MatchWitness = IsMatching line_of_four four_nodes (first_match ∷ last_match ∷ []) (2 ∷ [])
    × (is_live four_nodes 0 ≡ true) × (is_outer four_nodes 0 ≡ true) × (is_in (2 ∷ []) 0 ≡ false)
    × IsMatchOf line_of_four four_nodes 0 [] first_match (last_match ∷ [])
    × (is_live four_nodes 3 ≡ true) × (is_outer four_nodes 3 ≡ true) × (is_in (2 ∷ []) 3 ≡ false)
    × IsMatchOf line_of_four four_nodes 3 (first_match ∷ []) last_match []

-- the tree of corner 4 with one branch, and the corners 2 and 3 matched beside it
abbrev pub one_branch : SearchState
one_branch = record {
  nodes = pentagon_leaves;
  cycles = λ n. [];
  tree = first_branch ∷ [];
  rest = link 2 3 (2 ∷ []) ∷ [];
  unmatched = 4 ∷ 5 ∷ 6 ∷ [];
  root = 4;
  parity = 0;
}

-- Corner 2 has its match beside the tree, and its mate is corner 3; node 5 is unmatched.
abbrev pub BesideWitness : Type 0
BesideWitness = IsSearchState pentagon one_branch × (is_live pentagon_leaves 2 ≡ true)
    × (is_outer pentagon_leaves 2 ≡ true) × (is_in (tree_names 4 one_branch.tree) 2 ≡ false)
    × HasMatch pentagon pentagon_leaves one_branch.rest 2 × Connects pentagon_leaves (link 2 3 (2 ∷ [])) 2 3
    × (is_in (tree_names 4 one_branch.tree) 3 ≡ false) × (is_in one_branch.unmatched 2 ≡ false)
    × (is_in one_branch.unmatched 3 ≡ false) × (is_in (tree_names 4 one_branch.tree) 5 ≡ false)
    × (is_in one_branch.unmatched 5 ≡ true)
