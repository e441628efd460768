-- The premises of the laws of cycles are met: on the line a link closes the cycle of a root and its one branch,
-- and a triangle of defects is the minus blossom between a root and a plus node.
use Rattle.std.specs.Prelude.{ℕ, ◌≡◌, true, false, List, [], ◌∷◌, ◌++◌, map}
use Rattle.std.specs.List.Sorted.{IsPermutation}
use Rattle.fb_graph.specs.Parity.{is_in}
use Rattle.fb_graph.specs.Problem.{Problem}
use Rattle.fb_graph.specs.Certificate.{AreDistinct}
use Rattle.fb_graph.specs.Laws.{Link}
use Rattle.fb_graph.specs.Dual.{Node, is_outer}
use Rattle.fb_laws.specs.Forming.{blossom_of}
use Rattle.fb_graph.specs.Nests.{IsNest}
use Rattle.fb_graph.specs.Moves.{MaySplit, blossom}
use Rattle.fb_graph.specs.Singles.{Single, nodes_of}
use Rattle.fb_laws.specs.Works.{AreMatchedLinks}
use Rattle.fb_witnesses.specs.InternalSamples.{edge, line, link, single}
use Rattle.fb_laws.specs.Trees.{Entry, Connects, plus_names, tree_names}
use Rattle.fb_laws.specs.Searches.{IsSearch}
use Rattle.fb_laws.specs.SearchBlossoms.{child_at}
use Rattle.fb_witnesses.specs.SearchWitnesses.{chain_nodes, chain_branch}
use Rattle.fb_laws.specs.TreeCycles.{ArePaths, AreLinked, cycle_nodes, last_plus}

-- The root and the plus node of its branch, with a link between them.
abbrev pub ClosedWitness : Type 0
ClosedWitness = IsSearch (line (1 ∷ 2 ∷ 3 ∷ [])) chain_nodes (chain_branch ∷ []) [] (2 ∷ []) 2 0
    × AreDistinct (tree_names 2 (chain_branch ∷ [])) × (is_in (plus_names 2 (chain_branch ∷ [])) 0 ≡ true)
    × (is_in (plus_names 2 (chain_branch ∷ [])) 2 ≡ true) × ArePaths (chain_branch ∷ []) 0 2 [] (chain_branch ∷ []) []
    × Connects chain_nodes (link 1 3 (1 ∷ 2 ∷ [])) 0 2
    × (is_outer
    (chain_nodes
    ++ blossom_of 3 (child_at chain_nodes (last_plus {L = Link} 2 []) ∷ map (child_at chain_nodes) (cycle_nodes (chain_branch ∷ []) []))
    ∷ []) 3 ≡ true)

-- a triangle of defects, a defect beside one of its corners, and another beside the next one and the boundary
abbrev pub kite : Problem
kite = record {
  vertices = 6;
  edges = edge 0 1 2 ∷ edge 1 2 2 ∷ edge 0 2 2 ∷ edge 0 3 2 ∷ edge 1 4 2 ∷ edge 4 5 10 ∷ [];
  is_real = is_in (0 ∷ 1 ∷ 2 ∷ 3 ∷ 4 ∷ []);
  is_defect = is_in (0 ∷ 1 ∷ 2 ∷ 3 ∷ 4 ∷ []);
}

abbrev pub kite_singles : ℕ → List Single
kite_singles y = single 0 0 y ∷ single 1 1 y ∷ single 2 2 y ∷ single 3 3 y ∷ single 4 4 y ∷ []

-- its nodes, and the blossom of the triangle's corners
abbrev pub kite_leaves : List Node
kite_leaves = nodes_of (kite_singles 1)

abbrev pub kite_blossom : Node
kite_blossom = blossom 5 (0 ∷ 1 ∷ 2 ∷ []) kite_leaves

abbrev pub kite_branch : Entry
kite_branch = record {
  parent = 3;
  tree = link 3 0 (3 ∷ []);
  minus = 5;
  matched = link 1 4 (4 ∷ []);
  plus = 4;
}

abbrev pub corner_links : List Link
corner_links = link 0 1 (0 ∷ []) ∷ link 1 2 (1 ∷ []) ∷ link 2 0 (2 ∷ []) ∷ []

-- The blossom with one layer of value 0, its cycle, and the corners at which its two links end.
abbrev pub OpenedWitness : Type 0
OpenedWitness = IsNest kite (kite_leaves ++ kite_blossom ∷ []) × MaySplit (kite_leaves ++ kite_blossom ∷ []) 5
    × IsSearch kite (kite_leaves ++ kite_blossom ∷ []) (kite_branch ∷ []) [] (3 ∷ []) 3 1
    × IsPermutation kite_blossom.children (0 ∷ 1 ∷ 2 ∷ [])
    × AreLinked (kite_leaves ++ []) 0 (1 ∷ 2 ∷ 0 ∷ []) corner_links
    × AreMatchedLinks kite (kite_leaves ++ kite_blossom ∷ []) corner_links
    × ((n : ℕ) → is_in kite_blossom.children n ≡ true → is_in (3 ∷ []) n ≡ false)
    × (is_in kite_blossom.children 0 ≡ true) × Connects (kite_leaves ++ []) (link 3 0 (3 ∷ [])) 3 0
    × (is_in kite_blossom.children 1 ≡ true) × Connects (kite_leaves ++ []) (link 1 4 (4 ∷ [])) 1 4
