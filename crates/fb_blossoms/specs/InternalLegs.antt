-- What is left to do of a path.
use Rattle.std.specs.Prelude.{ℕ, ◌≡◌, ◌+◌, ◌-◌, ◌*◌, ◌%◌, ◌<◌, List, [], ◌∷◌, ◌++◌, length, Option}
use Rattle.fb_links.specs.declared.walk.Step.{Step}
use Rattle.fb_blossoms.specs.declared.legs.Leg.{Leg}
use Rattle.fb_blossoms.specs.declared.legs.Leg.TheVariants.{Inside, Over}
use Rattle.fb_blossoms.specs.declared.legs.Ends.{Ends}
use Rattle.fb_blossoms.specs.declared.cycles.Round.{Round}
use Rattle.fb_blossoms.specs.Nodes.{Node, cycle_at, defects_at}
use Rattle.fb_blossoms.specs.Links.{LeadsOver, node_after}
use Rattle.fb_blossoms.specs.Paths.{IsEvenPath}
use Rattle.fb_blossoms.specs.InternalWays.{IsWay}

-- the links that a leg may become
abbrev pub Becomes : List (Option (List Step)) → List (Option Node) → Leg → List ℕ → Type 0
Becomes links nodes (Inside node ends) path = IsEvenPath links nodes node ends.from.defect ends.to.defect path
Becomes links nodes (Over l) path = path ≡ l ∷ []

-- the links that legs may become, the last leg first
abbrev pub AllBecome : List (Option (List Step)) → List (Option Node) → List Leg → List ℕ → Type 0
AllBecome links nodes [] path = path ≡ []
AllBecome links nodes (leg ∷ legs) path =
    (later : List ℕ) × (first : List ℕ) × (path ≡ first ++ later) × Becomes links nodes leg later × AllBecome links nodes legs first

-- a leg inside a node has the ways down from the node to its ends
abbrev pub IsLeg : List (Option Node) → Leg → Type 0
IsLeg nodes (Inside node ends) = IsWay nodes node ends.from × IsWay nodes node ends.to
IsLeg nodes (Over l) = Unit {0}

abbrev pub AreLegs : List (Option Node) → List Leg → Type 0
AreLegs nodes [] = Unit {0}
AreLegs nodes (leg ∷ legs) = IsLeg nodes leg × AreLegs nodes legs

-- how long a leg may become: the legs that one inside a node is made of are shorter together
abbrev pub leg_size : List (Option Node) → Leg → ℕ
leg_size nodes (Inside node ends) = 3 * (length (defects_at nodes node) - 1) + 1
leg_size nodes (Over l) = 1

abbrev pub legs_size : List (Option Node) → List Leg → ℕ
legs_size nodes [] = 0
legs_size nodes (leg ∷ legs) = leg_size nodes leg + legs_size nodes legs

-- legs in place of a leg, after it was taken off the legs before: they become the same, if the path goes on by some links first
pub record Replaces (links : List (Option (List Step))) (nodes : List (Option Node)) (before : List Leg) (leg : Leg) (gone : List ℕ)
    (after : List Leg) : Type 0 where
  pub legs : AreLegs nodes before → AreLegs nodes after
  pub become : (path : List ℕ) → AllBecome links nodes after path → AllBecome links nodes (before ++ leg ∷ []) (gone ++ path)
  pub shorter : legs_size nodes after < legs_size nodes before + leg_size nodes leg

-- a leg was taken off the legs before and done, so that the path and the legs after it become the same as before
pub record GoesOn (links : List (Option (List Step))) (nodes : List (Option Node)) (before : List Leg) (leg : Leg) (old : List ℕ)
    (after : List Leg) (new : List ℕ) : Type 0 where
  pub gone : List ℕ
  pub grown : new ≡ old ++ gone
  pub replaced : Replaces links nodes before leg gone after

-- the even way round the node's cycle, with the ways down to the defects from its first and its last node
pub record IsRoundOf (nodes : List (Option Node)) (name : ℕ) (round : Round) (ends : Ends) : Type 0 where
  pub end : round.end < length (cycle_at nodes name)
  pub steps : round.steps < length (cycle_at nodes name)
  pub even : round.steps % 2 ≡ 0
  pub from : IsWay nodes (node_after (cycle_at nodes name) round.onward round.end round.steps) ends.from
  pub to : IsWay nodes (node_after (cycle_at nodes name) round.onward round.end 0) ends.to

-- the link leads over from the one node to the other, between the defects to which the ways lead
pub record AreEndWays (links : List (Option (List Step))) (nodes : List (Option Node)) (l x y : ℕ) (ends : Ends) : Type 0 where
  pub over : LeadsOver links nodes l x ends.from.defect y ends.to.defect
  pub from : IsWay nodes x ends.from
  pub to : IsWay nodes y ends.to
