-- The premises of the laws on links met are met: two defects that have absorbed a vertex each meet over a tight
-- edge, and one of them the boundary over another; a minus defect that has shrunk to nothing joins its two links.
use Rattle.std.specs.Prelude.{ℕ, ◌≡◌, false, List, [], ◌∷◌, Some}
use Rattle.fb_graph.specs.Parity.{is_in}
use Rattle.fb_graph.specs.Problem.{Problem}
use Rattle.fb_graph.specs.Certificate.{total_value}
use Rattle.fb_graph.specs.Laws.{Link}
use Rattle.fb_graph.specs.Dual.{Node, all_cuts, cover_of, height_of, layers_at}
use Rattle.fb_graph.specs.Nests.{IsNest}
use Rattle.fb_graph.specs.SourceWalks.{HaveWalks}
use Rattle.fb_laws.specs.MetLinks.{IsSourceUnder, IsTightEdge, boundary_link, joined_link, met_link, turned_link}
use Rattle.fb_laws.specs.Searches.{LeavesNode}
use Rattle.fb_laws.specs.SingleDefects.{HasEnd, IsDefectUnder, IsSingle, link_through}
use Rattle.fb_laws.specs.Trees.{Connects}
use Rattle.fb_laws.specs.Works.{AreMatchedLinks}
use Rattle.fb_witnesses.specs.NestedWitnesses.{low_nodes}
use Rattle.fb_witnesses.specs.InternalSamples.{cut, edge, link}
use Rattle.fb_witnesses.specs.TreeWitnesses.{long_line}

-- a line of four real vertices, with an edge to the boundary at the third one as well
abbrev pub met_line : Problem
met_line = record {
  vertices = 7;
  edges = edge 0 1 10 ∷ edge 1 2 2 ∷ edge 2 3 4 ∷ edge 3 4 2 ∷ edge 4 5 10 ∷ edge 3 6 2 ∷ [];
  is_real = is_in (1 ∷ 2 ∷ 3 ∷ 4 ∷ []);
  is_defect = is_in (1 ∷ 4 ∷ []);
}

abbrev pub met_nodes : List Node
met_nodes =
    record { name = 0; children = []; below = cut 2 (1 ∷ []) ∷ []; top = cut 2 (1 ∷ 2 ∷ []) }
    ∷ record { name = 1; children = []; below = cut 2 (4 ∷ []) ∷ []; top = cut 2 (4 ∷ 3 ∷ []) } ∷ []

-- from the one defect to the other, and from the second one to the boundary
abbrev pub middle_link : Link
middle_link = link 1 4 (1 ∷ 2 ∷ 3 ∷ [])

abbrev pub outer_link : Link
outer_link = link 4 6 (3 ∷ 5 ∷ [])

abbrev pub MetWitness : Type 0
MetWitness = IsNest met_line met_nodes × HaveWalks met_line met_nodes × (cover_of met_nodes 2 ≡ Some 0)
    × (◌≡◌ {A = ℕ} 0 1 → ⊥) × IsSourceUnder met_line met_nodes 0 (1 ∷ []) 1 2
    × IsSourceUnder met_line met_nodes 1 (3 ∷ []) 4 3 × IsTightEdge met_line met_nodes 2 2 3
    × (met_link 1 (1 ∷ []) 2 (3 ∷ []) 4 ≡ middle_link) × AreMatchedLinks met_line met_nodes (middle_link ∷ [])
    × Connects met_nodes middle_link 0 1 × (met_line.is_real 6 ≡ false) × IsTightEdge met_line met_nodes 5 3 6
    × (boundary_link 4 (3 ∷ []) 5 6 ≡ outer_link) × AreMatchedLinks met_line met_nodes (outer_link ∷ [])
    × LeavesNode met_nodes outer_link 1 6

-- the link to the minus defect from its parent, and the one from its child, both ways
abbrev pub upper_link : Link
upper_link = link 1 3 (1 ∷ 2 ∷ [])

abbrev pub lower_link : Link
lower_link = link 4 3 (3 ∷ [])

abbrev pub lower_turned : Link
lower_turned = link 3 4 (3 ∷ [])

abbrev pub ThroughWitness : Type 0
ThroughWitness = IsNest long_line low_nodes × IsSingle low_nodes 1 × IsDefectUnder low_nodes 1 3
    × (total_value (layers_at low_nodes 1) ≡ 0) × (height_of (all_cuts low_nodes) 3 ≡ 0)
    × AreMatchedLinks long_line low_nodes (upper_link ∷ lower_link ∷ []) × Connects low_nodes upper_link 0 1
    × Connects low_nodes lower_link 1 2
    × (◌≡◌ {A = ℕ} 0 1 → ⊥) × (◌≡◌ {A = ℕ} 1 2 → ⊥) × (◌≡◌ {A = ℕ} 0 2 → ⊥)
    × HasEnd upper_link 3 × HasEnd lower_link 3
    × (link_through 3 upper_link lower_link ≡ middle_link) × (turned_link lower_link ≡ lower_turned)
    × AreMatchedLinks long_line low_nodes (upper_link ∷ lower_turned ∷ []) × (upper_link.to ≡ lower_turned.from)
    × (cover_of low_nodes upper_link.from ≡ Some 0) × (cover_of low_nodes lower_turned.to ≡ Some 2)
    × (joined_link upper_link lower_turned ≡ middle_link)
    × AreMatchedLinks long_line low_nodes (middle_link ∷ []) × Connects low_nodes middle_link 0 2
