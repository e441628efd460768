-- The premises of the laws on the seams of a plan are met: a line of five real vertices in three units, with two
-- of the vertices as seams.
use Rattle.std.specs.Prelude.{◌≡◌, ◌<◌, true, false, [], ◌∷◌, Some, None}
use Rattle.fb_graph.specs.Limits.{DecodingGraph, ShotValue, plain_shot}
use Rattle.fb_witnesses.specs.InternalSamples.{edge}
use Rattle.fb_plan.specs.Plans.{IsPlan, PlanTree, children_of, problem_at}
use Rattle.fb_plan.specs.Seams.{is_own}

abbrev pub line_graph : DecodingGraph
line_graph = record {
  vertices = 7;
  edges = edge 0 1 2 ∷ edge 1 2 4 ∷ edge 2 3 2 ∷ edge 3 4 6 ∷ edge 4 5 2 ∷ edge 5 6 8 ∷ [];
  negatives = [];
  virtuals = 0 ∷ 6 ∷ [];
}

-- the first two units over vertex 2, and their fusion with the third unit over vertex 4
abbrev pub line_plan : PlanTree
line_plan = record {
  units = 3;
  joins = (0, 1) ∷ (3, 2) ∷ [];
  owners = None ∷ Some 0 ∷ Some 3 ∷ Some 1 ∷ Some 4 ∷ Some 2 ∷ None ∷ [];
}

-- two defects, neither of them on a seam
abbrev pub line_shot : ShotValue
line_shot = plain_shot (1 ∷ 5 ∷ [])

-- Each fusion's seam is real in neither of its children; the upper one's is boundary of the lower one, too.
abbrev pub PlanWitness : Type 0
PlanWitness = IsPlan line_graph line_plan × (children_of line_plan 3 ≡ Some (0, 1))
    × (children_of line_plan 4 ≡ Some (3, 2)) × (1 < line_plan.units)
    × (is_own line_graph line_plan 1 3 ≡ true) × (is_own line_graph line_plan 3 2 ≡ true)
    × (is_own line_graph line_plan 4 4 ≡ true) × (is_own line_graph line_plan 4 2 ≡ false)
    × ((problem_at line_graph line_plan 3 line_shot).is_real 2 ≡ true)
    × ((problem_at line_graph line_plan 3 line_shot).is_real 4 ≡ false)
    × ((problem_at line_graph line_plan 2 line_shot).is_real 4 ≡ false)
    × ((problem_at line_graph line_plan 4 line_shot).is_real 4 ≡ true)
