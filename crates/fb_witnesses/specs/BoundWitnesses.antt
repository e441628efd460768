-- The premises of the laws on the bounds of a step are met: on a line of four defects two are plus, the one
-- between them minus, and the last one neither.
use Rattle.std.specs.Prelude.{◌≡◌, ◌+◌, ◌*◌, ◌≤◌, true, false, List, [], ◌∷◌}
use Rattle.fb_graph.specs.Parity.{is_in}
use Rattle.fb_graph.specs.Problem.{Problem, edge_at}
use Rattle.fb_graph.specs.Certificate.{load_of}
use Rattle.fb_graph.specs.Dual.{Node, IsDual, all_cuts}
use Rattle.fb_graph.specs.Covers.{AreRoles, HasNoObstacle, is_covered_by}
use Rattle.fb_graph.specs.Singles.{Single, nodes_of}
use Rattle.fb_graph.specs.Steps.{MayStep, Roles}
use Rattle.fb_laws.specs.Bounds.{IsBounded}
use Rattle.fb_witnesses.specs.InternalSamples.{edge, single}

-- the last edge leads past the second defect
abbrev pub line_of_four : Problem
line_of_four = record {
  vertices = 6;
  edges = edge 0 1 10 ∷ edge 1 2 4 ∷ edge 2 3 4 ∷ edge 3 4 6 ∷ edge 4 5 2 ∷ edge 1 3 8 ∷ [];
  is_real = is_in (1 ∷ 2 ∷ 3 ∷ 4 ∷ []);
  is_defect = is_in (1 ∷ 2 ∷ 3 ∷ 4 ∷ []);
}

abbrev pub four_singles : List Single
four_singles = single 0 1 2 ∷ single 1 2 2 ∷ single 2 3 2 ∷ single 3 4 2 ∷ []

abbrev pub four_nodes : List Node
four_nodes = nodes_of four_singles

abbrev pub four_roles : Roles
four_roles = record { is_plus = is_in (0 ∷ 2 ∷ []); is_minus = is_in (1 ∷ []) }

-- A step of length 2 is the greatest: the edge to the last defect bears 2 more and no more, that between the plus nodes
-- twice 2, and the minus node's layer is 2 thick.
abbrev pub BoundWitness : Type 0
BoundWitness = IsDual line_of_four four_nodes × AreRoles four_roles four_nodes × IsBounded line_of_four four_roles four_nodes 2
    × MayStep line_of_four four_roles four_nodes 2 × (1 ≤ 2) × HasNoObstacle line_of_four four_roles four_nodes
    × ¬ IsBounded line_of_four four_roles four_nodes 3
    × (load_of (all_cuts four_nodes) (edge_at line_of_four.edges 3) + 2 ≡ (edge_at line_of_four.edges 3).weight)
    × (load_of (all_cuts four_nodes) (edge_at line_of_four.edges 5) + 2 * 2 ≡ (edge_at line_of_four.edges 5).weight)
    × (is_covered_by four_roles.is_plus four_nodes 3 ≡ true) × (is_covered_by four_roles.is_minus four_nodes 2 ≡ true)
    × (is_covered_by four_roles.is_plus four_nodes 4 ≡ false) × (is_covered_by four_roles.is_minus four_nodes 4 ≡ false)
