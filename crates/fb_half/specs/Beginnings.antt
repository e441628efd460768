-- How a half-solved part begins: each defect of its own is a node, and none is matched.
use Rattle.std.specs.Prelude.{ℕ, ◌≡◌, List, [], ◌∷◌, length, filter}
use Rattle.fb_graph.specs.Dual.{Node, leaf}
use Rattle.fb_plan.specs.Plans.{JobValue}
use Rattle.fb_half.specs.Parts.{PartValue, problem_in, shot_of, solved_shot}

-- the defects of the shot at the part's real vertices, in their order
abbrev pub shot_defects : PartValue → List ℕ
shot_defects w = filter (problem_in w).is_real (shot_of w).defects

-- the defects that the part solves, in their order: the shifted ones at its real vertices
abbrev pub own_defects : PartValue → List ℕ
own_defects w = filter (problem_in w).is_real (solved_shot w).defects

-- each defect as a node of radius 0, with the name at its place
abbrev pub leaves_by : List ℕ → List ℕ → List Node
leaves_by [] defects = []
leaves_by (name ∷ names) [] = []
leaves_by (name ∷ names) (v ∷ defects) = leaf name v ∷ leaves_by names defects

-- the part of this job, slot and node of the plan, as it begins
pub record IsBegun (j : JobValue) (s n : ℕ) (w : PartValue) : Type 0 where
  pub job : w.job ≡ j
  pub slot : w.slot ≡ s
  pub node : w.node ≡ n
  pub nodes : w.nodes ≡ leaves_by w.matching.unmatched (own_defects w)
  pub count : length w.matching.unmatched ≡ length (own_defects w)
  pub matches : w.matching.matches ≡ []
