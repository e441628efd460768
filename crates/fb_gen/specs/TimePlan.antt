-- The plan of a lattice by time: its units are runs of rounds with one round between two of them, and the fusions join
-- them two and two, level by level.
use Rattle.std.specs.Prelude.{ℕ, zero, suc, ◌+◌, ◌-◌, ◌*◌, ◌/◌, ◌%◌, ◌≡◌, ◌<◌, ◌≤◌, ◌⊎◌, nat_lt, if◌then◌else◌, List, [], ◌∷◌, ◌++◌, map, length, get_or, Result, Ok, Err}
use Rattle.std.specs.List.{range_with_len}
use Rattle.fb_plan.specs.Plans.{PlanTree}
use Rattle.fb_plan.specs.Rules.{claims_from, owner_in}
use Rattle.fb_gen.specs.Lattice.{lattice_graph, vertex_count}
use Rattle.fb_gen.specs.declared.faults.GenFault.{GenFault}
use Rattle.fb_gen.specs.declared.faults.GenFault.TheVariants.{TooFewRounds}
use Rattle.fb_gen.specs.declared.levels.Part.{Part}
use Rattle.fb_gen.specs.declared.levels.Fusion.{Fusion}

-- the rounds that the units share: all but one between each two units
abbrev pub shared_rounds : ℕ → ℕ → ℕ
shared_rounds rounds units = rounds - (units - 1)

-- how many of them unit j has: the first units have one more if they don't share evenly
abbrev pub rounds_of_unit : ℕ → ℕ → ℕ → ℕ
rounds_of_unit rounds units j =
    shared_rounds rounds units / units + (if nat_lt j (shared_rounds rounds units % units) then 1 else 0)

-- the first round of unit j: before it lie the units before it, each with the seam round after it
abbrev pub first_round : ℕ → ℕ → ℕ → ℕ
first_round rounds units zero = 0
first_round rounds units (suc j) = first_round rounds units j + rounds_of_unit rounds units j + 1

-- the vertices of the rounds from `start` up to and without `end`
abbrev pub range_of_rounds : ℕ → ℕ → ℕ → ℕ × ℕ
range_of_rounds distance start end = (start * (distance * (distance + 1)), end * (distance * (distance + 1)))

-- those of unit j
abbrev pub unit_range : ℕ → ℕ → ℕ → ℕ → ℕ × ℕ
unit_range distance rounds units j =
    range_of_rounds distance (first_round rounds units j) (first_round rounds units (j + 1) - 1)

-- those of the seam round before unit j
abbrev pub seam_range : ℕ → ℕ → ℕ → ℕ → ℕ × ℕ
seam_range distance rounds units j =
    range_of_rounds distance (first_round rounds units j - 1) (first_round rounds units j)

-- the first level: the units, each with its own number as that of the seam before it
abbrev pub first_level : ℕ → List Part
first_level units = map (λ j. record { seam = j; node = j }) (range_with_len 0 units)

-- the fusions of a level's nodes, two and two from left to right, each by the seam before the right one
abbrev pub fusions_of_level : List Part → List Fusion
fusions_of_level [] = []
fusions_of_level (last ∷ []) = []
fusions_of_level (left ∷ right ∷ more) =
    record { left = left.node; right = right.node; seam = right.seam } ∷ fusions_of_level more

-- the level above, its fusions being numbered from `next` on; a last node without a neighbour goes up as it is
abbrev pub level_above : ℕ → List Part → List Part
level_above next [] = []
level_above next (last ∷ []) = last ∷ []
level_above next (left ∷ right ∷ more) = record { seam = left.seam; node = next } ∷ level_above (next + 1) more

-- the fusions of a level and of those above it, `levels` levels in all
abbrev pub fusions_from : ℕ → ℕ → List Part → List Fusion
fusions_from zero next level = []
fusions_from (suc levels) next level =
    fusions_of_level level
    ++ fusions_from levels (next + length (fusions_of_level level)) (level_above next level)

-- all fusions, in the order in which they are made; there are fewer levels than units
unfoldable pub time_fusions : ℕ → List Fusion
time_fusions units = fusions_from units units (first_level units)

-- no fusion: what a place past all fusions has
abbrev pub no_fusion : Fusion
no_fusion = record { left = 0; right = 0; seam = 0 }

-- a round of a unit, and a seam round
pub record IsUnitRound (t u k n : ℕ) : Type 0 where
  pub node : n < u
  pub low : first_round t u n ≤ k
  pub high : k + 1 < first_round t u (n + 1)

pub record IsSeamRound (t u k n : ℕ) : Type 0 where
  pub place : ℕ
  pub within : place < length (time_fusions u)
  pub node : n ≡ u + place
  pub round : first_round t u (get_or (time_fusions u) place no_fusion).seam ≡ k + 1

-- the round is one of the node's
abbrev pub IsRoundOf : ℕ → ℕ → ℕ → ℕ → Type 0
IsRoundOf t u k n = IsUnitRound t u k n ⊎ IsSeamRound t u k n

-- the ranges of each node: of the units, then of the fusions
abbrev pub time_ranges : ℕ → ℕ → ℕ → List (List (ℕ × ℕ))
time_ranges distance rounds units =
    map (λ j. unit_range distance rounds units j ∷ []) (range_with_len 0 units)
    ++ map (λ f. seam_range distance rounds units f.seam ∷ []) (time_fusions units)

-- the plan: each real vertex belongs to the node whose range holds it
abbrev pub time_tree : ℕ → ℕ → ℕ → PlanTree
time_tree distance rounds units = record {
  units = units;
  joins = map (λ f. (f.left, f.right)) (time_fusions units);
  owners = map (owner_in (lattice_graph distance rounds) (claims_from 0 (time_ranges distance rounds units)))
      (range_with_len 0 (vertex_count distance rounds));
}

-- the plan, or that there are too few rounds for so many units
abbrev pub time_plan_of : ℕ → ℕ → ℕ → Result PlanTree GenFault
time_plan_of distance rounds units =
    if nat_lt rounds (2 * units - 1) then Err TooFewRounds
    else Ok (time_tree distance rounds units)
