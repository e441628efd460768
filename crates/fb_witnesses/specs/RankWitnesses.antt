-- The premises of the laws on the rank of a search are met: the pentagon's minus blossom before and after it is
-- opened.
use Rattle.std.specs.Prelude.{◌≡◌, true, false, not, [], ◌∷◌, length, count_by}
use Rattle.fb_graph.specs.Covers.{AreRoles}
use Rattle.fb_graph.specs.Dual.{is_empty, leaves}
use Rattle.fb_graph.specs.Nests.{IsNest}
use Rattle.fb_graph.specs.Steps.{Roles}
use Rattle.fb_laws.specs.Measures.{IsLower}
use Rattle.fb_laws.specs.OpenedCycles.{opened_branches}
use Rattle.fb_laws.specs.PartBounds.{IsRealBelow, search_rank}
use Rattle.fb_laws.specs.SearchLayers.{left_to_do}
use Rattle.fb_laws.specs.Trees.{roles_of}
use Rattle.fb_witnesses.specs.StateWitnesses.{blossom_branch, inner_blossom, pentagon, pentagon_leaves, pentagon_way}

abbrev pub closed_roles : Roles
closed_roles = roles_of 6 (blossom_branch ∷ [])

abbrev pub opened_roles : Roles
opened_roles = roles_of 6 (opened_branches 6 blossom_branch.tree 2 pentagon_way blossom_branch.matched 5)

-- Numbers below 10 are the digits of the rank. The fourth one rises, but the first one falls.
abbrev pub RankWitness : Type 0
RankWitness = IsRealBelow pentagon × IsNest pentagon inner_blossom.nodes × AreRoles closed_roles inner_blossom.nodes
    × (length (leaves inner_blossom.nodes) ≡ 7) × (count_by (λ n. not (is_empty n.children)) inner_blossom.nodes ≡ 1)
    × (left_to_do pentagon inner_blossom.nodes closed_roles false ≡ 5 ∷ 1 ∷ 6 ∷ 1 ∷ 0 ∷ [])
    × IsNest pentagon pentagon_leaves × AreRoles opened_roles pentagon_leaves
    × (left_to_do pentagon pentagon_leaves opened_roles true ≡ 4 ∷ 0 ∷ 5 ∷ 2 ∷ 1 ∷ [])
    × IsLower (left_to_do pentagon pentagon_leaves opened_roles true)
    (left_to_do pentagon inner_blossom.nodes closed_roles false)
    × (search_rank pentagon inner_blossom.nodes closed_roles false ≡ 51610)
    × (search_rank pentagon pentagon_leaves opened_roles true ≡ 40521)
