-- The premises of the laws on nests of two parts are met: the two ends of a line, each matched in a part of
-- its own, and the middle vertex, which then becomes real with a defect.
use Rattle.std.specs.Prelude.{ℕ, ◌≡◌, ◌⊎◌, ◌==◌, true, List, [], ◌∷◌, ◌++◌, map, All}
use Rattle.std.specs.List.Sorted.{IsPermutation}
use Rattle.fb_graph.specs.Parity.{is_in}
use Rattle.fb_graph.specs.Problem.{Problem}
use Rattle.fb_graph.specs.Certificate.{AreDistinct}
use Rattle.fb_graph.specs.Limits.{IsWithinLimits}
use Rattle.fb_graph.specs.Dual.{Node}
use Rattle.fb_laws.specs.FusedStates.{AreFurther, MayMerge, without_seam}
use Rattle.fb_graph.specs.Links.{AreEven}
use Rattle.fb_graph.specs.NestUnions.{AreParts, HaveOwnNames}
use Rattle.fb_laws.specs.Merging.{Freed, IsSeam, freed_links}
use Rattle.fb_laws.specs.NestedSearches.{IsNestedWork}
use Rattle.fb_witnesses.specs.InternalSamples.{single, link, line, line_part, end_singles, middle_singles}
use Rattle.fb_graph.specs.Singles.{nodes_of, vertices_of}

-- the right end, whose link leads to the middle vertex
abbrev pub freed_end : List Freed
freed_end = record { name = 0; set = 3 ∷ []; link = link 3 2 (2 ∷ []); seam = 2 } ∷ []

abbrev pub FusedWitness : Type 0
FusedWitness = IsWithinLimits (line_part (1 ∷ 3 ∷ []))
    × AreParts (line_part (3 ∷ [])) (line_part (1 ∷ [])) (line_part (1 ∷ 3 ∷ []))
    × ((v : ℕ) → is_in (1 ∷ 3 ∷ []) v ≡ true → (is_in (3 ∷ []) v ≡ true) ⊎ (is_in (1 ∷ []) v ≡ true))
    × HaveOwnNames (nodes_of (single 0 3 2 ∷ [])) (nodes_of (single 1 1 2 ∷ []))
    × IsNestedWork (line_part (3 ∷ [])) (nodes_of (single 0 3 2 ∷ [])) (link 3 2 (2 ∷ []) ∷ []) []
    × IsNestedWork (line_part (1 ∷ [])) (nodes_of (single 1 1 2 ∷ [])) (link 1 0 (0 ∷ []) ∷ []) []
    × AreEven (line_part (1 ∷ 3 ∷ [])) × IsWithinLimits (line (1 ∷ 2 ∷ 3 ∷ []))
    × IsSeam (line_part (1 ∷ 3 ∷ [])) (line (1 ∷ 2 ∷ 3 ∷ [])) (nodes_of end_singles) freed_end
    (link 1 0 (0 ∷ []) ∷ []) middle_singles (λ v. v == 2)
    × AreDistinct (map (λ s. s.name) middle_singles) × AreDistinct (vertices_of middle_singles)
    × All (λ s. (line (1 ∷ 2 ∷ 3 ∷ [])).is_real s.vertex ≡ true) middle_singles
    × HaveOwnNames (nodes_of end_singles) (nodes_of middle_singles)
    × IsNestedWork (line_part (1 ∷ 3 ∷ [])) (nodes_of end_singles)
    (freed_links freed_end ++ link 1 0 (0 ∷ []) ∷ []) []

-- the line before its middle is real, and the nodes of both ends
abbrev pub parted_line : Problem
parted_line = without_seam (line_part (3 ∷ [])) (line_part (1 ∷ [])) (line (1 ∷ 2 ∷ 3 ∷ []))

abbrev pub both_ends : List Node
both_ends = nodes_of (single 0 3 2 ∷ []) ++ nodes_of (single 1 1 2 ∷ [])

-- Both steps in one.
abbrev pub SeamWitness : Type 0
SeamWitness = MayMerge (line_part (3 ∷ [])) (line_part (1 ∷ [])) (line (1 ∷ 2 ∷ 3 ∷ [])) (nodes_of (single 0 3 2 ∷ []))
    (nodes_of (single 1 1 2 ∷ [])) [] []
    × IsSeam parted_line (line (1 ∷ 2 ∷ 3 ∷ [])) both_ends freed_end (link 1 0 (0 ∷ []) ∷ []) middle_singles (λ v. v == 2)
    × AreFurther (line (1 ∷ 2 ∷ 3 ∷ [])) both_ends middle_singles
    × IsPermutation (link 3 2 (2 ∷ []) ∷ link 1 0 (0 ∷ []) ∷ []) (freed_links freed_end ++ link 1 0 (0 ∷ []) ∷ [])
