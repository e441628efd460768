-- The premises of the laws on weights of a shot are met, where these have either sign: a shot of a line turns one edge's
-- weight up and another one's down, also across a seam; and one without a correction turns the only edge down.
use Rattle.std.specs.Prelude.{ℕ, ◌≡◌, ◌==◌, true, false, List, [], ◌∷◌, ◌++◌, Some, None, pos, neg_ℤ}
use Rattle.std.specs.List.Sorted.{IsStrictlyIncreasing}
use Rattle.fb_graph.specs.Answers.{IsBest}
use Rattle.fb_graph.specs.Certificate.{AreRising, IsCertified, IsPacking}
use Rattle.fb_graph.specs.Components.{IsFirstOdd}
use Rattle.fb_graph.specs.Dual.{all_cuts}
use Rattle.fb_graph.specs.Limits.{DecodingGraph, IsGraph, IsShot, ShotValue, odd_ends, problem_of, turned_edges}
use Rattle.fb_graph.specs.Parity.{is_odd_count}
use Rattle.fb_graph.specs.Printed.{HasPositiveCuts}
use Rattle.fb_graph.specs.Problem.{Flips, IsEdgeSet}
use Rattle.fb_graph.specs.ShotGraphs.{shot_graph, shot_problem}
use Rattle.fb_graph.specs.Signs.{IsUnshifted, base_of, shifted_defects, signed_weight_of, solved_problem}
use Rattle.fb_graph.specs.Singles.{nodes_of}
use Rattle.fb_graph.specs.declared.parts.Cut.{Cut}
use Rattle.fb_plan.specs.Plans.{IsPlan, JobValue, PlanTree, problem_at, root_of}
use Rattle.fb_blossoms.specs.Nodes.{IsNested}
use Rattle.fb_blossoms.specs.Nodes as blossoms
use Rattle.fb_half.specs.Parts.{IsPart, PartValue, graph_in, problem_in, solved_shot}
use Rattle.fb_resolve.specs.Rows.{walked_edges}
use Rattle.fb_witnesses.specs.InternalSamples.{cut, edge, single}

-- a line of three real vertices, whose second edge weighs -4
abbrev pub signed_line : DecodingGraph
signed_line = record {
  vertices = 5;
  edges = edge 0 1 2 ∷ edge 1 2 4 ∷ edge 2 3 2 ∷ edge 3 4 4 ∷ [];
  negatives = 1 ∷ [];
  virtuals = 0 ∷ 4 ∷ [];
}

-- A defect in the middle. For this shot the second edge weighs 4, and the third one -6.
abbrev pub turning_shot : ShotValue
turning_shot = record { defects = 2 ∷ []; changes = (1, pos 4) ∷ (2, neg_ℤ (pos 6)) ∷ []; turned = 1 ∷ 3 ∷ [] }

abbrev pub turning_cuts : List Cut
turning_cuts = cut 4 (3 ∷ []) ∷ []

-- What is solved has its defect at the third real vertex, where the shot has none. The last edge corrects it; taken
-- together with the negative one it weighs -2, and the way to the other boundary 6.
abbrev pub ShotWitness : Type 0
ShotWitness = IsGraph signed_line × IsShot signed_line turning_shot
    × (turned_edges signed_line turning_shot.changes ≡ 1 ∷ 2 ∷ [])
    × (odd_ends signed_line signed_line.negatives ≡ 1 ∷ 2 ∷ [])
    × ((shot_graph signed_line turning_shot).negatives ≡ 2 ∷ [])
    × (shifted_defects signed_line turning_shot ≡ 3 ∷ []) × (base_of signed_line turning_shot ≡ neg_ℤ (pos 6))
    × IsPacking (solved_problem signed_line turning_shot) turning_cuts
    × IsCertified (solved_problem signed_line turning_shot) (3 ∷ []) 4 turning_cuts
    × IsUnshifted signed_line turning_shot (3 ∷ []) (2 ∷ 3 ∷ [])
    × IsBest signed_line turning_shot (2 ∷ 3 ∷ []) (neg_ℤ (pos 6)) (neg_ℤ (pos 2)) turning_cuts
    × IsFirstOdd (shot_problem signed_line turning_shot) None
    × IsEdgeSet (shot_problem signed_line turning_shot) (0 ∷ 1 ∷ [])
    × Flips (shot_problem signed_line turning_shot) (0 ∷ 1 ∷ [])
    × (signed_weight_of signed_line turning_shot (0 ∷ 1 ∷ []) ≡ pos 6)

-- two real vertices, and a shot for which the edge between them weighs -2
abbrev pub lone_edge : DecodingGraph
lone_edge = record { vertices = 2; edges = edge 0 1 2 ∷ []; negatives = []; virtuals = [] }

abbrev pub odd_shot : ShotValue
odd_shot = record { defects = 0 ∷ []; changes = (0, neg_ℤ (pos 2)) ∷ []; turned = 0 ∷ 1 ∷ [] }

-- The defect that is solved is the other vertex; the first vertex of the odd component stays.
abbrev pub OddShotWitness : Type 0
OddShotWitness = IsGraph lone_edge × IsShot lone_edge odd_shot × (shifted_defects lone_edge odd_shot ≡ 1 ∷ [])
    × IsFirstOdd (problem_of lone_edge odd_shot) (Some 0) × IsFirstOdd (shot_problem lone_edge odd_shot) (Some 0)
    × IsFirstOdd (solved_problem lone_edge odd_shot) (Some 0)

-- the line in two units with the middle vertex as their seam, so that both turned edges lead there
abbrev pub signed_plan : PlanTree
signed_plan = record { units = 2; joins = (0, 1) ∷ []; owners = None ∷ Some 0 ∷ Some 2 ∷ Some 1 ∷ None ∷ [] }

abbrev pub signed_job : JobValue
signed_job = record { graph = signed_line; plan = signed_plan; shots = turning_shot ∷ [] }

-- the shot solved up to the root: one node, matched to the boundary
abbrev pub signed_root : PartValue
signed_root = record {
  job = signed_job;
  slot = 0;
  node = 2;
  nodes = nodes_of (single 0 3 4 ∷ []);
  links = Some (record { from = 3; to = 4; edge = 3; weight = 4 } ∷ []) ∷ [];
  store = Some (blossoms.leaf 3) ∷ [];
  matching = record { matches = record { link = 0; first = 0; second = None } ∷ []; unmatched = [] };
}

-- The unit of the third real vertex has the shifted defect; at the seam, where the shot's is, there is none. The row of
-- the root has the walk's edge and the negative one.
abbrev pub SignedRootWitness : Type 0
SignedRootWitness = IsPlan signed_line signed_plan × IsFirstOdd (problem_of signed_line turning_shot) None
    × ((problem_at (graph_in signed_root) signed_plan 1 (solved_shot signed_root)).is_real 3 ≡ true)
    × ((problem_in signed_root).is_defect 3 ≡ true) × ((problem_in signed_root).is_real 2 ≡ true)
    × ((problem_in signed_root).is_defect 2 ≡ false)
    × IsPart signed_root × IsNested signed_root.store × (signed_root.node ≡ root_of signed_plan)
    × IsStrictlyIncreasing (2 ∷ 3 ∷ []) × (walked_edges signed_root ≡ 3 ∷ [])
    × ((k : ℕ) → is_odd_count (λ j. j == k) (2 ∷ 3 ∷ [])
    ≡ is_odd_count (λ j. j == k) (walked_edges signed_root ++ (graph_in signed_root).negatives))
    × HasPositiveCuts (all_cuts signed_root.nodes) turning_cuts × AreRising turning_cuts
