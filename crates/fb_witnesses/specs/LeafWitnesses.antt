-- The premises of the laws on a leaf added and on defects exchanged are met: beside a node of the line that has
-- absorbed a neighbour comes one for a second defect, and then the problem has that defect too.
use Rattle.std.specs.Prelude.{◌≡◌, List, [], ◌∷◌, ◌++◌, Some}
use Rattle.fb_graph.specs.Problem.{Problem, with_defects}
use Rattle.fb_graph.specs.Dual.{Node, IsDual, cover_of, leaf, leaves}
use Rattle.fb_graph.specs.Nests.{IsNest}
use Rattle.fb_graph.specs.NewLeaves.{MayAddLeaf}
use Rattle.fb_graph.specs.SourceWalks.{HaveWalks}
use Rattle.fb_laws.specs.Works.{HasDefects}
use Rattle.fb_witnesses.specs.NestWitnesses.{wider_nodes}
use Rattle.fb_witnesses.specs.InternalSamples.{line}

-- the node of two vertices, and one for the vertex beside them
abbrev pub with_leaf : List Node
with_leaf = wider_nodes ++ leaf 4 1 ∷ []

abbrev pub LeafWitness : Type 0
LeafWitness = MayAddLeaf (line (2 ∷ [])) wider_nodes 4 1 × IsNest (line (2 ∷ [])) wider_nodes
    × HaveWalks (line (2 ∷ [])) wider_nodes × IsNest (line (2 ∷ [])) with_leaf × HaveWalks (line (2 ∷ [])) with_leaf
    × (leaves with_leaf ≡ 2 ∷ 1 ∷ []) × (cover_of with_leaf 1 ≡ Some 4) × (cover_of with_leaf 3 ≡ Some 0)

-- the line with both defects
abbrev pub second_line : Problem
second_line = with_defects (line (2 ∷ [])) (1 ∷ 2 ∷ [])

-- The nodes are a nest of either problem; only the second one has their defects.
abbrev pub ExchangedWitness : Type 0
ExchangedWitness = IsDual (line (2 ∷ [])) with_leaf × IsDual second_line with_leaf
    × IsNest (line (2 ∷ [])) with_leaf × IsNest second_line with_leaf
    × HaveWalks (line (2 ∷ [])) with_leaf × HaveWalks second_line with_leaf
    × HasDefects second_line with_leaf × (HasDefects (line (2 ∷ [])) with_leaf → ⊥)
