-- The premises of the laws on the whole state of a search are met.
use Rattle.std.specs.Prelude.{ℕ, ◌≡◌, true, false, List, [], ◌∷◌}
use Rattle.fb_graph.specs.Parity.{is_in}
use Rattle.fb_graph.specs.Limits.{IsWithinLimits}
use Rattle.fb_graph.specs.Laws.{Link, HasNoOddClosed}
use Rattle.fb_graph.specs.Dual.{Node, is_live}
use Rattle.fb_graph.specs.Covers.{HasNoObstacle}
use Rattle.fb_laws.specs.Forming.{Child}
use Rattle.fb_graph.specs.Links.{AreEven}
use Rattle.fb_graph.specs.Moves.{MaySplit, MayAbsorb, MayUncover, joined_nodes, absorbed_nodes, uncovered_nodes}
use Rattle.fb_laws.specs.NestedSearches.{IsNestedSearch}
use Rattle.fb_witnesses.specs.InternalSamples.{line, link, pair_nodes}
use Rattle.fb_laws.specs.SearchBlossoms.{IsJoining}
use Rattle.fb_witnesses.specs.SearchWitnesses.{chain_nodes, chain_branch}
use Rattle.fb_laws.specs.Searches.{LeavesNode}
use Rattle.fb_graph.specs.Steps.{MayStep, stepped_nodes}
use Rattle.fb_laws.specs.Trees.{Connects, plus_names, roles_of}
use Rattle.fb_witnesses.specs.TreeWitnesses.{long_line, thin_nodes, thin_branch, two_tailed_triangle, two_tailed_nodes, closed_branch}
use Rattle.fb_laws.specs.Works.{AreMatchedLinks}

-- the vertex that the minus node has given up absorbed by the root
abbrev pub wide_nodes : List Node
wide_nodes = absorbed_nodes 0 2 (uncovered_nodes 1 thin_nodes)

-- then a free step, after which the minus node has no potential
abbrev pub low_nodes : List Node
low_nodes = stepped_nodes (roles_of 0 (thin_branch ∷ [])) 2 wide_nodes

abbrev pub wide_child : Child
wide_child = record { name = 0; set = 1 ∷ 2 ∷ [] }

abbrev pub low_children : List Child
low_children = record { name = 1; set = 3 ∷ [] } ∷ record { name = 2; set = 4 ∷ [] } ∷ []

-- On the longer line a layer goes, a vertex comes, the tree makes a free step, and its three nodes may be joined, the
-- blossom unmatched in their place. The triangle's blossom may be split.
abbrev pub NestedWitness : Type 0
NestedWitness = IsWithinLimits long_line × HasNoOddClosed long_line × AreEven long_line
    × MayUncover thin_nodes 1 × IsNestedSearch long_line thin_nodes (thin_branch ∷ []) [] (0 ∷ []) 0 0
    × MayAbsorb long_line (uncovered_nodes 1 thin_nodes) 0 1 1 2
    × IsNestedSearch long_line (uncovered_nodes 1 thin_nodes) (thin_branch ∷ []) [] (0 ∷ []) 0 0
    × MayStep long_line (roles_of 0 (thin_branch ∷ [])) wide_nodes 2
    × HasNoObstacle long_line (roles_of 0 (thin_branch ∷ [])) wide_nodes
    × IsNestedSearch long_line wide_nodes (thin_branch ∷ []) [] (0 ∷ []) 0 0
    × IsJoining low_nodes (thin_branch ∷ []) 0 3 wide_child low_children × (is_live low_nodes 3 ≡ false)
    × (is_in (3 ∷ []) 3 ≡ is_in (0 ∷ []) 0)
    × ((n : ℕ) → is_in (0 ∷ 1 ∷ 2 ∷ []) n ≡ true → is_in (3 ∷ []) n ≡ false)
    × ((n : ℕ) → is_in (0 ∷ 1 ∷ 2 ∷ []) n ≡ false → (n ≡ 3 → ⊥) → is_in (3 ∷ []) n ≡ is_in (0 ∷ []) n)
    × IsNestedSearch long_line low_nodes (thin_branch ∷ []) [] (0 ∷ []) 0 0
    × MaySplit (joined_nodes 5 (0 ∷ 1 ∷ 2 ∷ []) two_tailed_nodes) 5
    × IsNestedSearch two_tailed_triangle (joined_nodes 5 (0 ∷ 1 ∷ 2 ∷ []) two_tailed_nodes) (closed_branch ∷ []) [] (4 ∷ []) 4 0

-- On the line two matched nodes are met, and then the boundary. Two neighbours meet, both unmatched or the one
-- matched to the boundary.
abbrev pub EndingWitness : Type 0
EndingWitness = AreEven (line (1 ∷ 2 ∷ 3 ∷ []))
    × IsNestedSearch (line (1 ∷ 2 ∷ 3 ∷ [])) chain_nodes [] (chain_branch.matched ∷ []) (2 ∷ []) 2 0
    × (is_in (plus_names {L = Link} 2 []) 2 ≡ true) × Connects chain_nodes chain_branch.tree 2 1
    × Connects chain_nodes chain_branch.matched 1 0
    × AreMatchedLinks (line (1 ∷ 2 ∷ 3 ∷ [])) chain_nodes (chain_branch.tree ∷ [])
    × IsNestedSearch (line (1 ∷ 2 ∷ 3 ∷ [])) chain_nodes (chain_branch ∷ []) [] (2 ∷ []) 2 0
    × (is_in (plus_names 2 (chain_branch ∷ [])) 0 ≡ true)
    × AreMatchedLinks (line (1 ∷ 2 ∷ 3 ∷ [])) chain_nodes (link 1 0 (0 ∷ []) ∷ [])
    × LeavesNode chain_nodes (link 1 0 (0 ∷ [])) 0 0 × ((line (1 ∷ 2 ∷ 3 ∷ [])).is_real 0 ≡ false)
    × IsNestedSearch (line (1 ∷ 2 ∷ [])) pair_nodes [] [] (0 ∷ 1 ∷ []) 0 0
    × (is_in (0 ∷ 1 ∷ []) 1 ≡ true) × (◌≡◌ {A = ℕ} 0 1 → ⊥)
    × AreMatchedLinks (line (1 ∷ 2 ∷ [])) pair_nodes (link 2 1 (1 ∷ []) ∷ [])
    × Connects pair_nodes (link 2 1 (1 ∷ [])) 0 1
    × IsNestedSearch (line (1 ∷ 2 ∷ [])) pair_nodes [] (link 1 0 (0 ∷ []) ∷ []) (1 ∷ []) 1 0
    × Connects pair_nodes (link 2 1 (1 ∷ [])) 1 0 × LeavesNode pair_nodes (link 1 0 (0 ∷ [])) 0 0
