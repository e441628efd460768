-- The premises of the laws on the moves of a nest are met: the corners of a triangle grow, become a blossom
-- and are split again; a defect of a line absorbs a neighbour and gives it back.
use Rattle.std.specs.Prelude.{◌≡◌, true, List, [], ◌∷◌, map, All}
use Rattle.fb_graph.specs.Parity.{is_in}
use Rattle.fb_graph.specs.Certificate.{AreDistinct}
use Rattle.fb_graph.specs.Limits.{IsWithinLimits}
use Rattle.fb_graph.specs.Dual.{Node, IsCrossed}
use Rattle.fb_graph.specs.Steps.{Roles, MayStep, stepped_nodes}
use Rattle.fb_graph.specs.Covers.{AreRoles}
use Rattle.fb_graph.specs.Links.{AreEven}
use Rattle.fb_graph.specs.Singles.{Single, nodes_of, vertices_of}
use Rattle.fb_graph.specs.Nests.{IsNest}
use Rattle.fb_graph.specs.Moves.{MayJoin, MaySplit, MayAbsorb, MayUncover, joined_nodes}
use Rattle.fb_witnesses.specs.InternalSamples.{cut, single, line, triangle, corner_nodes, corner_roles, grown_nodes}

-- the corners of the triangle before they grow
abbrev pub bare_corners : List Single
bare_corners = single 0 0 0 ∷ single 1 1 0 ∷ single 2 2 0 ∷ []

-- the blossom of the three
abbrev pub blossom_nodes : List Node
blossom_nodes = joined_nodes 3 (0 ∷ 1 ∷ 2 ∷ []) corner_nodes

abbrev pub blossom_roles : Roles
blossom_roles = record { is_plus = is_in (3 ∷ []); is_minus = is_in [] }

-- the defect in the middle of the line, with one of its neighbours
abbrev pub wider_nodes : List Node
wider_nodes = record { name = 0; children = []; below = cut 2 (2 ∷ []) ∷ []; top = cut 2 (2 ∷ 3 ∷ []) } ∷ []

abbrev pub NestWitness : Type 0
NestWitness = AreDistinct (map (λ s. s.name) bare_corners) × AreDistinct (vertices_of bare_corners)
    × All (λ s. triangle.is_real s.vertex ≡ true) bare_corners × All (λ s. s.value ≡ 0) bare_corners
    × IsWithinLimits triangle × AreRoles corner_roles (nodes_of bare_corners)
    × All (λ n. corner_roles.is_plus n.name ≡ true → IsCrossed triangle n.top.vertices) (nodes_of bare_corners)
    × MayStep triangle corner_roles (nodes_of bare_corners) 1 × IsNest triangle (nodes_of bare_corners)
    × MayJoin corner_nodes 3 (0 ∷ 1 ∷ 2 ∷ []) × IsNest triangle corner_nodes
    × MaySplit blossom_nodes 3 × IsNest triangle blossom_nodes
    × IsNest triangle (stepped_nodes blossom_roles 9 blossom_nodes)
    × AreEven (line (2 ∷ [])) × MayAbsorb (line (2 ∷ [])) wider_nodes 0 1 2 1 × IsNest (line (2 ∷ [])) wider_nodes
    × MayUncover grown_nodes 0 × IsNest (line (2 ∷ [])) grown_nodes
