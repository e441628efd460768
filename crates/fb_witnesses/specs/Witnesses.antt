-- The premises of the laws are met: each definition states those of one or more laws, on a small graph.
use Rattle.std.specs.Prelude.{ℕ, ◌≡◌, ◌<◌, ◌⊎◌, ◌==◌, true, false, List, [], ◌∷◌, ◌++◌, map, All}
use Rattle.std.specs.List.{concat}
use Rattle.fb_graph.specs.Parity.{is_in}
use Rattle.fb_graph.specs.Problem.{Flips, edge_at}
use Rattle.fb_graph.specs.Certificate.{AreDistinct, IsOddCut, IsPacking, load_of}
use Rattle.fb_graph.specs.Components.{Leads}
use Rattle.fb_graph.specs.Laws.{IsTight, HasNoOddClosed, IsSolved, IsPerfect, ends_of}
use Rattle.fb_graph.specs.Dual.{IsDual, AreUnderOne, AreOuterApart, all_cuts, cover_of, height_of, AreGrown}
use Rattle.fb_graph.specs.Steps.{AreExclusive, gains, losses, MayStep, stepped_nodes}
use Rattle.fb_laws.specs.Lengths.{HasPlus, IsGreatestStep}
use Rattle.fb_graph.specs.Covers.{AreRoles, HaveParity, HasNoObstacle, is_covered_by}
use Rattle.fb_graph.specs.Signed.{shifted_problem, unshifted_edges}
use Rattle.fb_graph.specs.Links.{IsSourceWalk, IsTightLink, ArePartedBy, AreEven}
use Rattle.fb_graph.specs.Ends.{ends_in, AreAllApart}
use Rattle.fb_laws.specs.Paths.{Branch, IsPath, AreWholeOnPath, IsWhole, LeadsOut, tip_of}
use Rattle.fb_laws.specs.Blossoms.{IsInside, ArePaired, AlternateFrom}
use Rattle.fb_laws.specs.Fusion.{IsLinkOf}
use Rattle.fb_laws.specs.Opening.{IsLevel, IsOpening, IsOpenedTo, IsWithinOne, EndAtDefects, single_sets}
use Rattle.fb_laws.specs.Parities.{HaveOneParity}
use Rattle.fb_graph.specs.Turns.{IsPartlyGrown}
use Rattle.fb_laws.specs.Works.{AreMatchedLinks, IsMatching, IsWork, IsSetOf, positive_cuts, outer_sets}
use Rattle.fb_graph.specs.Singles.{AreSingles, nodes_of}
use Rattle.fb_laws.specs.Measures.{IsLower}
use Rattle.fb_laws.specs.Merging.{IsSeam, freed_links}
use Rattle.fb_graph.specs.Counts.{as_count}
use Rattle.fb_graph.specs.NestUnions.{AreParts}
use Rattle.fb_laws.specs.Forming.{IsCycle}
use Rattle.fb_witnesses.specs.InternalSamples.{cut, single, end_singles, middle_singles, link, line, triangle, line_singles, line_nodes, line_roles, grown_nodes, grown_roles, corner_nodes, corner_roles, line_part, blossom_cuts, bare_singles, young_nodes, pair_nodes, pair_roles}

-- A step of a tree on the line: feasible cuts, a tight link between a minus and a plus node, the greatest step, made of
-- two allowed ones.
abbrev pub StepWitness : Type 0
StepWitness = AreExclusive line_roles × IsPacking (line (1 ∷ 2 ∷ 3 ∷ [])) (all_cuts line_nodes)
    × (gains line_roles line_nodes (ends_of (link 2 3 (2 ∷ [])))
    ≡ losses line_roles line_nodes (ends_of (link 2 3 (2 ∷ []))))
    × IsTight (line (1 ∷ 2 ∷ 3 ∷ [])) (all_cuts line_nodes) (link 2 3 (2 ∷ []))
    × MayStep (line (1 ∷ 2 ∷ 3 ∷ [])) line_roles line_nodes 1
    × MayStep (line (1 ∷ 2 ∷ 3 ∷ [])) line_roles (stepped_nodes line_roles 1 line_nodes) 1
    × IsGreatestStep (line (1 ∷ 2 ∷ 3 ∷ [])) line_roles line_nodes 2
    × HasPlus line_roles line_nodes × HasNoOddClosed (line (1 ∷ 2 ∷ 3 ∷ []))

-- Its nodes, one for each defect, are a dual state in which the tree has no obstacle.
abbrev pub DualWitness : Type 0
DualWitness = AreSingles (line (1 ∷ 2 ∷ 3 ∷ [])) line_singles × IsDual (line (1 ∷ 2 ∷ 3 ∷ [])) line_nodes
    × AreRoles line_roles line_nodes × HaveParity line_roles.is_plus line_nodes 0 × AreEven (line (1 ∷ 2 ∷ 3 ∷ []))
    × HasNoObstacle (line (1 ∷ 2 ∷ 3 ∷ [])) line_roles line_nodes
    × (is_covered_by line_roles.is_minus line_nodes 2 ≡ true) × (is_covered_by line_roles.is_plus line_nodes 3 ≡ true)

-- Two growing corners of the triangle, with an edge between them; and a node that has absorbed both ends of an edge.
abbrev pub CoverWitness : Type 0
CoverWitness = IsDual triangle corner_nodes × AreRoles corner_roles corner_nodes
    × HaveParity corner_roles.is_plus corner_nodes 1
    × (¬ AreUnderOne corner_nodes 0 1) × (is_covered_by corner_roles.is_plus corner_nodes 0 ≡ true)
    × (is_covered_by corner_roles.is_plus corner_nodes 1 ≡ true) × AreOuterApart grown_nodes
    × AreDistinct (map (λ n. n.name) grown_nodes) × AreRoles grown_roles grown_nodes × AreUnderOne grown_nodes 1 2
    × IsSourceWalk (line (2 ∷ [])) (all_cuts grown_nodes) (1 ∷ []) 2 1
    × (cover_of grown_nodes 2 ≡ cover_of grown_nodes 1)

-- The line whose second edge weighs less than nothing: its shifted defect is beside the boundary.
abbrev pub SignedWitness : Type 0
SignedWitness = IsPacking (shifted_problem (line (2 ∷ [])) (λ k. k == 1)) (cut 2 (1 ∷ []) ∷ [])
    × IsSolved (shifted_problem (line (2 ∷ [])) (λ k. k == 1)) (cut 2 (1 ∷ []) ∷ []) (0 ∷ [])
    × (unshifted_edges (line (2 ∷ [])) (λ k. k == 1) (0 ∷ []) ≡ 0 ∷ 1 ∷ []) × Flips (line (2 ∷ [])) (0 ∷ 1 ∷ [])
    × AreDistinct (0 ∷ 1 ∷ []) × HasNoOddClosed (line (2 ∷ []))

-- Links: two corners of the triangle that meet, the boundary reached, a defect without potential between two others.
abbrev pub LinkWitness : Type 0
LinkWitness = IsSourceWalk triangle (all_cuts corner_nodes) [] 0 0
    × IsSourceWalk triangle (all_cuts corner_nodes) [] 1 1
    × Leads (edge_at triangle.edges 0) 0 1
    × (load_of (all_cuts corner_nodes) (edge_at triangle.edges 0) ≡ (edge_at triangle.edges 0).weight)
    × ArePartedBy (all_cuts corner_nodes) 0 1 × AreEven triangle
    × IsSourceWalk (line (1 ∷ [])) (cut 2 (1 ∷ []) ∷ []) [] 1 1
    × (load_of (cut 2 (1 ∷ []) ∷ []) (edge_at (line (1 ∷ [])).edges 0) ≡ 2) × (height_of (cut 2 (1 ∷ []) ∷ []) 0 ≡ 0)
    × IsTightLink (line (1 ∷ 2 ∷ 3 ∷ [])) (cut 4 (1 ∷ []) ∷ cut 2 (3 ∷ []) ∷ []) (link 1 2 (1 ∷ []))
    × IsTightLink (line (1 ∷ 2 ∷ 3 ∷ [])) (cut 4 (1 ∷ []) ∷ cut 2 (3 ∷ []) ∷ []) (link 2 3 (2 ∷ []))
    × (height_of (cut 4 (1 ∷ []) ∷ cut 2 (3 ∷ []) ∷ []) 2 ≡ 0)
    × ArePartedBy (cut 4 (1 ∷ []) ∷ cut 2 (3 ∷ []) ∷ []) 1 3

-- an alternating path on the line, from its first defect over the second to the third
abbrev pub line_path : List Branch
line_path = record { tree = link 1 2 (1 ∷ []); minus = 2 ∷ []; matched = link 2 3 (2 ∷ []); plus = 3 ∷ [] } ∷ []

-- It can be augmented at the boundary behind the third, as seen by the root's set; and a node that is matched to the
-- boundary can be met.
abbrev pub PathWitness : Type 0
PathWitness = IsPath (1 ∷ []) line_path × AreWholeOnPath (1 ∷ []) (1 ∷ []) line_path
    × LeadsOut (link 3 4 (3 ∷ [])) (tip_of (1 ∷ []) line_path) 4
    × AreWholeOnPath (2 ∷ []) (1 ∷ []) [] × LeadsOut (link 1 2 (1 ∷ [])) (tip_of (1 ∷ []) []) 2
    × (is_in (2 ∷ []) 2 ≡ true) × IsWhole (2 ∷ []) (2 ∷ []) × LeadsOut (link 2 4 (2 ∷ 3 ∷ [])) (2 ∷ []) 4
    × (is_in (2 ∷ []) 4 ≡ false)

-- The triangle as a blossom: two corners matched, the third one to the boundary.
abbrev pub BlossomWitness : Type 0
BlossomWitness = AreAllApart ((0 ∷ []) ∷ (1 ∷ []) ∷ (2 ∷ []) ∷ [])
    × All (IsInside (concat ((0 ∷ []) ∷ (1 ∷ []) ∷ (2 ∷ []) ∷ []))) (link 1 2 (1 ∷ []) ∷ [])
    × All (λ s. ends_in s (link 1 2 (1 ∷ []) ∷ link 0 3 (2 ∷ 3 ∷ []) ∷ []) ≡ 1) ((1 ∷ []) ∷ (2 ∷ []) ∷ [])
    × ArePaired ((1 ∷ []) ∷ (2 ∷ []) ∷ []) (link 1 2 (1 ∷ []) ∷ [])
    × All (λ s. ends_in s (link 0 3 (2 ∷ 3 ∷ []) ∷ []) ≡ 0) ((1 ∷ []) ∷ (2 ∷ []) ∷ [])
    × (ends_in (0 ∷ 1 ∷ 2 ∷ []) (link 0 3 (2 ∷ 3 ∷ []) ∷ []) ≡ 1)
    × AlternateFrom line_roles true (2 ∷ 1 ∷ 0 ∷ []) × AlternateFrom line_roles true ([] ++ 0 ∷ [])

-- The line in two parts, each solved by itself, the middle vertex being boundary of both.
abbrev pub FusionWitness : Type 0
FusionWitness = AreParts (line_part (1 ∷ [])) (line_part (3 ∷ [])) (line_part (1 ∷ 3 ∷ []))
    × ((v : ℕ) → is_in (1 ∷ 3 ∷ []) v ≡ true → (is_in (1 ∷ []) v ≡ true) ⊎ (is_in (3 ∷ []) v ≡ true))
    × All (IsOddCut (line_part (1 ∷ []))) (cut 2 (1 ∷ []) ∷ [])
    × All (IsOddCut (line_part (3 ∷ []))) (cut 2 (3 ∷ []) ∷ [])
    × All (IsLinkOf (line_part (1 ∷ []))) (link 1 0 (0 ∷ []) ∷ [])
    × All (IsLinkOf (line_part (3 ∷ []))) (link 3 2 (2 ∷ []) ∷ [])
    × IsPerfect (line_part (1 ∷ [])) (cut 2 (1 ∷ []) ∷ []) (link 1 0 (0 ∷ []) ∷ [])
    × IsPerfect (line_part (3 ∷ [])) (cut 2 (3 ∷ []) ∷ []) (link 3 2 (2 ∷ []) ∷ [])
    × AreEven (line_part (3 ∷ [])) × IsTightLink (line_part (3 ∷ [])) (cut 2 (3 ∷ []) ∷ []) (link 3 2 (2 ∷ []))
    × LeadsOut (link 3 2 (2 ∷ [])) (3 ∷ []) 2 × IsWhole (3 ∷ []) (3 ∷ []) × (is_in (3 ∷ []) 2 ≡ false)

-- The triangle's blossom, matched to the boundary, before and after it is opened.
abbrev pub OpeningWitness : Type 0
OpeningWitness = IsPacking triangle blossom_cuts × All (λ c. IsWithinOne c ((0 ∷ 1 ∷ 2 ∷ []) ∷ [])) blossom_cuts
    × IsLevel blossom_cuts ((0 ∷ 1 ∷ 2 ∷ []) ∷ []) (link 2 3 (3 ∷ []) ∷ [])
    × IsOpening blossom_cuts (0 ∷ 1 ∷ 2 ∷ []) (2 ∷ []) ((0 ∷ []) ∷ (1 ∷ []) ∷ []) (link 0 1 (0 ∷ []) ∷ [])
    × (ends_in (2 ∷ []) (link 2 3 (3 ∷ []) ∷ []) ≡ 1)
    × IsLevel blossom_cuts (single_sets (2 ∷ 0 ∷ 1 ∷ [])) (link 0 1 (0 ∷ []) ∷ link 2 3 (3 ∷ []) ∷ [])
    × All (IsTightLink triangle blossom_cuts) (link 0 1 (0 ∷ []) ∷ link 2 3 (3 ∷ []) ∷ [])
    × EndAtDefects triangle (2 ∷ 0 ∷ 1 ∷ []) (link 0 1 (0 ∷ []) ∷ link 2 3 (3 ∷ []) ∷ [])
    × ((v : ℕ) → triangle.is_real v ≡ true → triangle.is_defect v ≡ is_in (2 ∷ 0 ∷ 1 ∷ []) v)

-- The corners of the triangle have one parity, also of one corner and the next one that it meets. Of the line's
-- tree the minus node has shrunk and no plus node has grown yet.
abbrev pub ParityWitness : Type 0
ParityWitness = HaveOneParity corner_nodes × HaveParity (λ n. n == 0) corner_nodes 1
    × (is_covered_by (λ n. n == 0) corner_nodes 0 ≡ true) × IsTightLink triangle (all_cuts corner_nodes) (link 0 1 (0 ∷ []))
    × ((n : ℕ) → corner_roles.is_plus n ≡ true → (corner_roles.is_plus n ≡ true) ⊎ (corner_roles.is_minus n ≡ true))
    × IsPartlyGrown (record { is_plus = λ n. false; is_minus = line_roles.is_minus }) line_roles
    × (line_roles.is_plus 0 ≡ true) × (line_roles.is_minus 1 ≡ true)

-- Two neighbours on the line: unmatched, the one matched to the boundary, both matched with one another.
abbrev pub WorkWitness : Type 0
WorkWitness = IsWork (line (1 ∷ 2 ∷ [])) (nodes_of bare_singles) [] (0 ∷ 1 ∷ [])
    × AreRoles pair_roles young_nodes × IsMatching (line (1 ∷ 2 ∷ [])) young_nodes [] (0 ∷ 1 ∷ [])
    × IsDual (line (1 ∷ 2 ∷ [])) (stepped_nodes pair_roles 1 young_nodes)
    × IsMatching (line (1 ∷ 2 ∷ [])) pair_nodes [] (0 ∷ 1 ∷ [])
    × IsMatching (line (1 ∷ 2 ∷ [])) pair_nodes (link 1 0 (0 ∷ []) ∷ []) (1 ∷ [])
    × IsMatching (line (1 ∷ 2 ∷ [])) pair_nodes (link 2 1 (1 ∷ []) ∷ []) []
    × AreMatchedLinks (line (1 ∷ 2 ∷ [])) pair_nodes (link 1 0 (0 ∷ []) ∷ [])
    × AreMatchedLinks (line (1 ∷ 2 ∷ [])) pair_nodes (link 2 1 (1 ∷ []) ∷ [])
    × IsSetOf pair_nodes 0 (1 ∷ []) × IsSetOf pair_nodes 1 (2 ∷ [])
    × IsOpenedTo (positive_cuts pair_nodes) (outer_sets pair_nodes) (link 2 1 (1 ∷ []) ∷ []) []
    (single_sets (1 ∷ 2 ∷ []))
    (link 2 1 (1 ∷ []) ∷ [])

-- The line in two parts, the right one matched to the middle vertex, which then becomes real, with a defect.
abbrev pub MergingWitness : Type 0
MergingWitness = AreParts (line_part (3 ∷ [])) (line_part (1 ∷ [])) (line_part (1 ∷ 3 ∷ []))
    × IsMatching (line_part (3 ∷ [])) (nodes_of (single 0 3 2 ∷ [])) (link 3 2 (2 ∷ []) ∷ []) []
    × IsMatching (line_part (1 ∷ [])) (nodes_of (single 1 1 2 ∷ [])) (link 1 0 (0 ∷ []) ∷ []) []
    × IsDual (line_part (1 ∷ 3 ∷ [])) (nodes_of end_singles)
    × IsMatching (line_part (1 ∷ 3 ∷ [])) (nodes_of end_singles)
    (freed_links (record { name = 0; set = 3 ∷ []; link = link 3 2 (2 ∷ []); seam = 2 } ∷ [])
    ++ link 1 0 (0 ∷ []) ∷ []) []
    × IsSeam (line_part (1 ∷ 3 ∷ [])) (line (1 ∷ 2 ∷ 3 ∷ [])) (nodes_of end_singles)
    (record { name = 0; set = 3 ∷ []; link = link 3 2 (2 ∷ []); seam = 2 } ∷ []) (link 1 0 (0 ∷ []) ∷ []) middle_singles
    (λ v. v == 2)
    × IsDual (line (1 ∷ 2 ∷ 3 ∷ [])) (nodes_of end_singles ++ nodes_of middle_singles)

-- Counts that fall, and the layers of a node that has absorbed both its neighbours.
abbrev pub EndWitness : Type 0
EndWitness = IsLower (1 ∷ 4 ∷ 2 ∷ []) (1 ∷ 5 ∷ 0 ∷ []) × All (λ x. x < 6) (1 ∷ 4 ∷ 2 ∷ [])
    × (is_in (1 ∷ 2 ∷ 3 ∷ []) 2 ≡ true) × (line_roles.is_minus 2 ≡ false) × (line_roles.is_plus 2 ≡ true)
    × AreGrown (cut 2 (2 ∷ []) ∷ cut 2 (2 ∷ 3 ∷ []) ∷ cut 0 (2 ∷ 3 ∷ 1 ∷ []) ∷ [])
    × All (λ c. AreDistinct c.vertices) (cut 2 (2 ∷ []) ∷ cut 2 (2 ∷ 3 ∷ []) ∷ cut 0 (2 ∷ 3 ∷ 1 ∷ []) ∷ [])

-- The triangle's corners as a cycle: two of them matched, the third one unmatched as the base.
abbrev pub FormingWitness : Type 0
FormingWitness = IsMatching triangle corner_nodes (link 0 1 (0 ∷ []) ∷ []) (2 ∷ [])
    × IsCycle corner_nodes (record { name = 2; set = 2 ∷ [] })
    (record { name = 0; set = 0 ∷ [] } ∷ record { name = 1; set = 1 ∷ [] } ∷ []) (link 0 1 (0 ∷ []) ∷ []) (2 ∷ []) 1
    × (as_count (is_in (3 ∷ []) 3) ≡ as_count (is_in (2 ∷ []) 2))
