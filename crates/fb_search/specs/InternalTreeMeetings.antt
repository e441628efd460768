-- Trees one of which has met a node in none of them, or the boundary, or itself, or another one.
use Rattle.std.specs.Prelude.{ℕ, ◌≡◌, ◌∷◌, List, Option, Some}
use Rattle.std.specs.List.Sorted.{IsPermutation}
use Rattle.fb_graph.specs.Dual.{cover_of}
use Rattle.fb_links.specs.declared.walk.Step.{Step}
use Rattle.fb_links.specs.Table.{Adds}
use Rattle.fb_half.specs.declared.matches.Match.{Match}
use Rattle.fb_half.specs.Parts.{problem_in}
use Rattle.fb_obstacles.specs.Obstacles.{IsBoundary, IsMeet, IsPlusPair}
use Rattle.fb_trees.specs.Forests.{IsPlusNode}
use Rattle.fb_trees.specs.InternalMetWalks.{IsMetWalk}
use Rattle.fb_search.specs.declared.growing_meets.Met.{Met}
use Rattle.fb_search.specs.InternalGrowing.{GrowingValue, IsGrowing, roles_among}

-- the tight edge leads from the plus node to the boundary
pub record GrowsOut (w : GrowingValue) (edge plus : ℕ) : Type 0 where
  pub inner : ℕ
  pub outer : ℕ
  pub obstacle : IsBoundary (problem_in w.part) (roles_among w.forest) w.part.nodes edge inner outer
  pub covered : cover_of w.part.nodes inner ≡ Some plus

-- the tight edge leads from the plus node to the other node, which is in no tree
pub record MeetsOutside (w : GrowingValue) (edge plus other : ℕ) : Type 0 where
  pub inner : ℕ
  pub outer : ℕ
  pub obstacle : IsMeet (problem_in w.part) (roles_among w.forest) w.part.nodes edge inner outer other
  pub covered : cover_of w.part.nodes inner ≡ Some plus

-- the tight edge leads from the one plus node to the other
pub record IsGrowingPair (w : GrowingValue) (edge first second : ℕ) : Type 0 where
  pub inner : ℕ
  pub outer : ℕ
  pub obstacle : IsPlusPair (problem_in w.part) (roles_among w.forest) w.part.nodes edge inner outer
  pub covered : cover_of w.part.nodes inner ≡ Some first
  pub other : cover_of w.part.nodes outer ≡ Some second

-- the trees with these walks by number and these matches
abbrev pub rematched_growing : List (Option (List Step)) → List Match → GrowingValue → GrowingValue
rematched_growing links matches w = record w {
  part = record w.part { links = links; matching = record { matches = matches; unmatched = w.part.matching.unmatched } };
}

-- What has become of the trees once a plus node of them has met the other node: a link to this is made, and its match is
-- taken out.
pub record HasMetTree (w : GrowingValue) (met : Met) (now : GrowingValue) : Type 0 where
  pub was : IsGrowing w
  -- all but the links and matches is as it was
  pub is : now ≡ rematched_growing now.part.links now.part.matching.matches w
  pub plus : IsPlusNode w.forest met.plus
  pub walk : List Step
  pub walk_is : IsMetWalk (problem_in w.part) w.part.nodes met.plus met.other walk
  pub adds : Adds w.part.links now.part.links met.link walk
  pub matches : IsPermutation w.part.matching.matches (met.taken ∷ now.part.matching.matches)
