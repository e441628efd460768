-- Small graphs, on which the premises of the laws hold.
use Rattle.std.specs.Prelude.{ℕ, List, [], ◌∷◌}
use Rattle.fb_graph.specs.Parity.{is_in}
use Rattle.fb_graph.specs.Problem.{Problem}
use Rattle.fb_graph.specs.Laws.{Link}
use Rattle.fb_graph.specs.Dual.{Node}
use Rattle.fb_graph.specs.declared.parts.Cut.{Cut}
use Rattle.fb_graph.specs.Steps.{Roles}
use Rattle.fb_graph.specs.Singles.{Single, nodes_of}
use Rattle.fb_graph.specs.declared.parts.Edge.{Edge}

abbrev pub edge : ℕ → ℕ → ℕ → Edge
edge u v w = record { first = u; second = v; weight = w }

abbrev pub cut : ℕ → List ℕ → Cut
cut y vs = record { value = y; vertices = vs }

abbrev pub link : ℕ → ℕ → List ℕ → Link
link u v ks = record { from = u; to = v; walk = ks }

abbrev pub single : ℕ → ℕ → ℕ → Single
single name v y = record { name = name; vertex = v; value = y }

-- a line of vertices between two boundary ones
abbrev pub line : List ℕ → Problem
line defects = record {
  vertices = 5;
  edges = edge 0 1 2 ∷ edge 1 2 4 ∷ edge 2 3 2 ∷ edge 3 4 6 ∷ [];
  is_real = is_in (1 ∷ 2 ∷ 3 ∷ []);
  is_defect = is_in defects;
}

-- a triangle with a tail to the boundary, a defect at each of its corners
abbrev pub triangle : Problem
triangle = record {
  vertices = 4;
  edges = edge 0 1 2 ∷ edge 1 2 2 ∷ edge 0 2 2 ∷ edge 2 3 10 ∷ [];
  is_real = is_in (0 ∷ 1 ∷ 2 ∷ []);
  is_defect = is_in (0 ∷ 1 ∷ 2 ∷ []);
}

-- three defects of the line, the middle one shrinking between its neighbours
abbrev pub line_singles : List Single
line_singles = single 0 1 0 ∷ single 1 2 2 ∷ single 2 3 0 ∷ []

abbrev pub line_nodes : List Node
line_nodes = nodes_of line_singles

abbrev pub line_roles : Roles
line_roles = record { is_plus = is_in (0 ∷ 2 ∷ []); is_minus = is_in (1 ∷ []) }

-- one defect of the line that has absorbed both its neighbours
abbrev pub grown_nodes : List Node
grown_nodes =
    record {
      name = 0;
      children = [];
      below = cut 2 (2 ∷ []) ∷ cut 2 (2 ∷ 3 ∷ []) ∷ [];
      top = cut 0 (2 ∷ 3 ∷ 1 ∷ []);
    } ∷ []

abbrev pub grown_roles : Roles
grown_roles = record { is_plus = is_in (0 ∷ []); is_minus = is_in [] }

-- the three corners of the triangle, all growing
abbrev pub corner_singles : List Single
corner_singles = single 0 0 1 ∷ single 1 1 1 ∷ single 2 2 1 ∷ []

abbrev pub corner_nodes : List Node
corner_nodes = nodes_of corner_singles

abbrev pub corner_roles : Roles
corner_roles = record { is_plus = is_in (0 ∷ 1 ∷ 2 ∷ []); is_minus = is_in [] }

-- the line without its middle vertex, and its two ends
abbrev pub line_part : List ℕ → Problem
line_part vertices = record (line (1 ∷ 3 ∷ [])) { is_real = is_in vertices }

-- the corners of the triangle and the blossom that they make, reaching to the boundary
abbrev pub blossom_cuts : List Cut
blossom_cuts = cut 1 (0 ∷ []) ∷ cut 1 (1 ∷ []) ∷ cut 1 (2 ∷ []) ∷ cut 9 (0 ∷ 1 ∷ 2 ∷ []) ∷ []

-- two neighbours on the line, before and after they grow, and at last until they meet
abbrev pub bare_singles : List Single
bare_singles = single 0 1 0 ∷ single 1 2 0 ∷ []

abbrev pub young_singles : List Single
young_singles = single 0 1 1 ∷ single 1 2 1 ∷ []

abbrev pub pair_singles : List Single
pair_singles = single 0 1 2 ∷ single 1 2 2 ∷ []

abbrev pub young_nodes : List Node
young_nodes = nodes_of young_singles

abbrev pub pair_nodes : List Node
pair_nodes = nodes_of pair_singles

abbrev pub pair_roles : Roles
pair_roles = record { is_plus = is_in (0 ∷ 1 ∷ []); is_minus = is_in [] }

-- the two ends of the line, matched to its boundary and to the middle, and a defect in the middle
abbrev pub end_singles : List Single
end_singles = single 0 3 2 ∷ single 1 1 2 ∷ []

abbrev pub middle_singles : List Single
middle_singles = single 2 2 0 ∷ []
