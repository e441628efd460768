-- The premises of the laws on layers and blossoms in a search are met.
use Rattle.std.specs.Prelude.{ℕ, ◌≡◌, ◌<◌, ◌==◌, true, false, List, [], ◌∷◌, ◌++◌, None}
use Rattle.fb_graph.specs.Parity.{is_in}
use Rattle.fb_graph.specs.Problem.{Problem}
use Rattle.fb_graph.specs.Dual.{Node, IsDual, leaves, cover_of, is_live, is_outer}
use Rattle.fb_laws.specs.Forming.{Child, blossom_of}
use Rattle.fb_graph.specs.Moves.{joined_nodes, uncovered_nodes}
use Rattle.fb_witnesses.specs.NestWitnesses.{blossom_nodes, blossom_roles}
use Rattle.fb_laws.specs.Opening.{Opened, IsOpenedTo, single_sets}
use Rattle.fb_witnesses.specs.InternalSamples.{cut, edge, link, single, triangle, corner_nodes}
use Rattle.fb_laws.specs.SearchBlossoms.{IsJoining, child_at}
use Rattle.fb_graph.specs.Alike.{AreAlike}
use Rattle.fb_laws.specs.SearchOpenings.{IsOpenedTree}
use Rattle.fb_laws.specs.Searches.{IsSearch}
use Rattle.fb_graph.specs.Singles.{Single, node_of, nodes_of}
use Rattle.fb_graph.specs.Steps.{stepped_nodes}
use Rattle.fb_laws.specs.Trees.{Entry, minus_names, roles_of}
use Rattle.fb_laws.specs.Works.{IsMatching, positive_cuts, outer_sets}

-- a longer line between two boundary vertices
abbrev pub long_line : Problem
long_line = record {
  vertices = 6;
  edges = edge 0 1 10 ∷ edge 1 2 2 ∷ edge 2 3 2 ∷ edge 3 4 2 ∷ edge 4 5 10 ∷ [];
  is_real = is_in (1 ∷ 2 ∷ 3 ∷ 4 ∷ []);
  is_defect = is_in (1 ∷ 3 ∷ 4 ∷ []);
}

abbrev pub long_singles : List Single
long_singles = single 0 1 2 ∷ single 1 3 2 ∷ single 2 4 0 ∷ []

-- the second of its three defects has shrunk until its upper layer is empty
abbrev pub thin_nodes : List Node
thin_nodes =
    node_of (single 0 1 2)
    ∷ record { name = 1; children = []; below = cut 2 (3 ∷ []) ∷ []; top = cut 0 (3 ∷ 2 ∷ []) }
    ∷ node_of (single 2 4 0) ∷ []

-- it hangs on the first one, and is matched with the third
abbrev pub thin_branch : Entry
thin_branch = record {
  parent = 0;
  tree = link 1 3 (1 ∷ 2 ∷ []);
  minus = 1;
  matched = link 3 4 (3 ∷ []);
  plus = 2;
}

-- The minus node gives up a vertex, which the root then may absorb.
abbrev pub LayerWitness : Type 0
LayerWitness = IsSearch long_line thin_nodes (thin_branch ∷ []) [] (0 ∷ []) 0 0
    × AreAlike thin_nodes (uncovered_nodes 1 thin_nodes) × IsDual long_line (uncovered_nodes 1 thin_nodes)
    × (is_in (leaves (uncovered_nodes 1 thin_nodes)) 2 ≡ false) × (cover_of (uncovered_nodes 1 thin_nodes) 2 ≡ None)
    × (is_live (uncovered_nodes 1 thin_nodes) 1 ≡ true) × (is_outer (uncovered_nodes 1 thin_nodes) 1 ≡ true)
    × ((roles_of 0 (thin_branch ∷ [])).is_minus 1 ≡ true) × ((roles_of 0 (thin_branch ∷ [])).is_plus 1 ≡ false)
    × (is_live (uncovered_nodes 1 thin_nodes) 0 ≡ true) × (is_outer (uncovered_nodes 1 thin_nodes) 0 ≡ true)
    × ((roles_of 0 (thin_branch ∷ [])).is_plus 0 ≡ true) × (2 < 6) × ((2 == 1) ≡ false)

-- two corners of the triangle, matched, hang on the third one
abbrev pub corner_branch : Entry
corner_branch = record {
  parent = 2;
  tree = link 2 1 (1 ∷ []);
  minus = 1;
  matched = link 1 0 (0 ∷ []);
  plus = 0;
}

abbrev pub base_corner : Child
base_corner = record { name = 2; set = 2 ∷ [] }

abbrev pub other_corners : List Child
other_corners = record { name = 1; set = 1 ∷ [] } ∷ record { name = 0; set = 0 ∷ [] } ∷ []

-- a line with a boundary at one end
abbrev pub open_line : Problem
open_line = record {
  vertices = 4;
  edges = edge 0 1 4 ∷ edge 1 2 4 ∷ edge 2 3 20 ∷ [];
  is_real = is_in (0 ∷ 1 ∷ 2 ∷ []);
  is_defect = is_in (0 ∷ 1 ∷ 2 ∷ []);
}

abbrev pub open_singles : List Single
open_singles = single 0 0 4 ∷ single 1 1 0 ∷ single 2 2 4 ∷ []

-- The corners of the triangle close a cycle. On the line a minus defect without potential joins its parent and its
-- child.
abbrev pub JoiningWitness : Type 0
JoiningWitness = IsSearch triangle corner_nodes (corner_branch ∷ []) [] (2 ∷ []) 2 1
    × IsJoining corner_nodes (corner_branch ∷ []) 2 3 base_corner other_corners
    × IsDual triangle (corner_nodes ++ blossom_of 3 (base_corner ∷ other_corners) ∷ [])
    × (is_in (3 ∷ []) 3 ≡ is_in (2 ∷ []) 2)
    × ((n : ℕ) → is_in (2 ∷ 1 ∷ 0 ∷ []) n ≡ false → (n ≡ 3 → ⊥) → is_in (3 ∷ []) n ≡ is_in (2 ∷ []) n)
    × (is_in (minus_names (corner_branch ∷ [])) 1 ≡ true) × (is_in (2 ∷ 1 ∷ 0 ∷ []) 1 ≡ true)
    × IsSearch open_line (nodes_of open_singles) (corner_branch ∷ []) [] (2 ∷ []) 2 0
    × (is_outer
    (nodes_of open_singles
    ++ blossom_of 3
    (child_at (nodes_of open_singles) 2 ∷ child_at (nodes_of open_singles) 1 ∷ child_at
    (nodes_of open_singles) 0 ∷ [])
    ∷ []) 3 ≡ true)

-- a triangle with a defect beside two of its corners, and a boundary beside the third
abbrev pub two_tailed_triangle : Problem
two_tailed_triangle = record {
  vertices = 6;
  edges = edge 0 1 20 ∷ edge 1 2 20 ∷ edge 0 2 20 ∷ edge 2 3 14 ∷ edge 0 4 24 ∷ edge 1 5 16 ∷ [];
  is_real = is_in (0 ∷ 1 ∷ 2 ∷ 3 ∷ 4 ∷ []);
  is_defect = is_in (0 ∷ 1 ∷ 2 ∷ 3 ∷ 4 ∷ []);
}

abbrev pub two_tailed_singles : List Single
two_tailed_singles = single 0 0 10 ∷ single 1 1 10 ∷ single 2 2 10 ∷ single 3 3 4 ∷ single 4 4 14 ∷ []

abbrev pub two_tailed_nodes : List Node
two_tailed_nodes = nodes_of two_tailed_singles

-- the blossom of the corners, matched with the one defect and met by the other, before and after it is opened
abbrev pub closed_branch : Entry
closed_branch = record {
  parent = 4;
  tree = link 4 0 (4 ∷ []);
  minus = 5;
  matched = link 2 3 (3 ∷ []);
  plus = 3;
}

abbrev pub opened_branches : List Entry
opened_branches =
    record { parent = 1; tree = link 1 2 (1 ∷ []); minus = 2; matched = link 2 3 (3 ∷ []); plus = 3 }
    ∷ record { parent = 4; tree = link 4 0 (4 ∷ []); minus = 0; matched = link 0 1 (0 ∷ []); plus = 1 } ∷ []

-- The opened blossom's even path: two of its corners are matched with one another, the third one keeps its link.
abbrev pub SplittingWitness : Type 0
SplittingWitness = IsSearch two_tailed_triangle (joined_nodes 5 (0 ∷ 1 ∷ 2 ∷ []) two_tailed_nodes) (closed_branch ∷ []) [] (4 ∷ []) 4 0
    × IsOpenedTree two_tailed_triangle (joined_nodes 5 (0 ∷ 1 ∷ 2 ∷ []) two_tailed_nodes) two_tailed_nodes [] [] opened_branches closed_branch 2
    (0 ∷ 1 ∷ [])
    (link 0 1 (0 ∷ []) ∷ []) [] [] (4 ∷ []) 4
    × IsDual two_tailed_triangle two_tailed_nodes
    × ((roles_of 4 (closed_branch ∷ [])).is_plus 5 ≡ false)
    × ((n : ℕ) → (roles_of 4 (closed_branch ∷ [])).is_plus n ≡ true → (roles_of 4 opened_branches).is_plus n ≡ true)

-- the triangle's blossom opened
abbrev pub opened_triangle : Opened
opened_triangle = record {
  set = 0 ∷ 1 ∷ 2 ∷ [];
  kept = 2 ∷ [];
  paired = (0 ∷ []) ∷ (1 ∷ []) ∷ [];
  links = link 0 1 (0 ∷ []) ∷ [];
  rest = [];
}

-- The triangle solved with its blossom, which is then opened.
abbrev pub LevelWitness : Type 0
LevelWitness = IsMatching triangle (stepped_nodes blossom_roles 9 blossom_nodes) (link 2 3 (3 ∷ []) ∷ []) []
    × IsOpenedTo (positive_cuts (stepped_nodes blossom_roles 9 blossom_nodes))
    (outer_sets (stepped_nodes blossom_roles 9 blossom_nodes)) (link 2 3 (3 ∷ []) ∷ []) (opened_triangle ∷ [])
    (single_sets (2 ∷ 0 ∷ 1 ∷ []))
    (link 0 1 (0 ∷ []) ∷ link 2 3 (3 ∷ []) ∷ [])
