-- The cycle of one of several trees that a link closes.
use Rattle.std.specs.Prelude.{ℕ, ◌≡◌, ◌≢◌, List, [], ◌∷◌, Some}
use Rattle.fb_links.specs.declared.cycle.CycleStep.{CycleStep}
use Rattle.fb_laws.specs.Trees.{Connects}
use Rattle.fb_laws.specs.Works.{AreMatchedLinks}
use Rattle.fb_half.specs.Parts.{problem_in}
use Rattle.fb_half.specs.Translations.{link_by}
use Rattle.fb_trees.specs.Branches.{Grown}
use Rattle.fb_trees.specs.Forests.{tree_at}
use Rattle.fb_trees.specs.Rooted.{IsPlus}
use Rattle.fb_trees.specs.TreeSteps.{IsCycle}
use Rattle.fb_search.specs.InternalGrowing.{GrowingValue, IsGrowingBeside}

-- The link, which is kept beside those of the trees, is tight and leads between two plus nodes of one tree.
pub record ClosesIn (w : GrowingValue) (a b closing : ℕ) : Type 0 where
  pub growing : IsGrowingBeside (closing ∷ []) w
  pub tree : ℕ
  pub grown : Grown
  pub at : tree_at w.forest tree ≡ Some grown
  pub first : IsPlus grown a
  pub second : IsPlus grown b
  pub apart : a ≢ b
  pub connects : Connects w.part.nodes (link_by w.part.links closing) a b
  pub tight : AreMatchedLinks (problem_in w.part) w.part.nodes (link_by w.part.links closing ∷ [])

-- the steps of the cycle that the link closes
abbrev pub IsClosedIn : GrowingValue → ℕ → List CycleStep → Type 0
IsClosedIn w closing steps = (a b : ℕ) × (closes : ClosesIn w a b closing) × IsCycle closes.grown a b closing steps
