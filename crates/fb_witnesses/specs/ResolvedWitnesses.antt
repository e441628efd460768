-- The premises of the laws on nests resolved are met: a triangle's blossom is opened, and its cuts certify the
-- correction.
use Rattle.std.specs.Prelude.{◌≡◌, true, List, [], ◌∷◌, map, All}
use Rattle.fb_graph.specs.Certificate.{AreRising, IsCertified}
use Rattle.fb_graph.specs.Printed.{HasPositiveCuts}
use Rattle.fb_graph.specs.Laws.{Link}
use Rattle.fb_graph.specs.Dual.{Node, all_cuts, is_live, leaves, top_at}
use Rattle.fb_graph.specs.declared.parts.Cut.{Cut}
use Rattle.fb_graph.specs.Steps.{stepped_nodes}
use Rattle.fb_graph.specs.Links.{IsTightLink}
use Rattle.fb_laws.specs.Blossoms.{ArePaired}
use Rattle.fb_laws.specs.Opening.{EndAtDefects, IsLevel}
use Rattle.fb_laws.specs.Works.{HasDefects, positive_cuts}
use Rattle.fb_graph.specs.Nests.{IsNest}
use Rattle.fb_laws.specs.NestSolutions.{AreChildrenOf, leaf_sets}
use Rattle.fb_witnesses.specs.NestWitnesses.{blossom_nodes, blossom_roles}
use Rattle.fb_witnesses.specs.InternalSamples.{cut, link, triangle}

-- the blossom grown to the boundary
abbrev pub closed_nodes : List Node
closed_nodes = stepped_nodes blossom_roles 9 blossom_nodes

abbrev pub opened_links : List Link
opened_links = link 0 1 (0 ∷ []) ∷ link 2 3 (3 ∷ []) ∷ []

abbrev pub printed_triangle : List Cut
printed_triangle = cut 1 (0 ∷ []) ∷ cut 9 (0 ∷ 1 ∷ 2 ∷ []) ∷ cut 1 (1 ∷ []) ∷ cut 1 (2 ∷ []) ∷ []

abbrev pub ResolvedWitness : Type 0
ResolvedWitness = IsNest triangle closed_nodes × (is_live closed_nodes 3 ≡ true)
    × AreChildrenOf closed_nodes 3 (2 ∷ 0 ∷ 1 ∷ [])
    × ArePaired (map (top_at closed_nodes) (0 ∷ 1 ∷ [])) (link 0 1 (0 ∷ []) ∷ []) × HasDefects triangle closed_nodes
    × IsLevel (positive_cuts closed_nodes) (leaf_sets closed_nodes) opened_links
    × All (IsTightLink triangle (all_cuts closed_nodes)) opened_links
    × EndAtDefects triangle (leaves closed_nodes) opened_links
    × HasPositiveCuts (all_cuts closed_nodes) printed_triangle × AreRising printed_triangle
    × IsCertified triangle (0 ∷ 3 ∷ []) 12 printed_triangle
