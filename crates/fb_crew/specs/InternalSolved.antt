-- What is kept of a solved item.
use Rattle.std.specs.Prelude.{ℕ, ◌≡◌, ◌≢◌, get_or}
use Rattle.fb_graph.specs.Limits.{ShotValue, no_shot}
use Rattle.fb_half.specs.Parts.{IsPartOf, PartValue}
use Rattle.fb_plan.specs.Plans.{JobValue, root_of}
use Rattle.fb_crew.specs.declared.solver.Found.{Found}
use Rattle.fb_crew.specs.declared.solver.Found.TheVariants.{Part, Row}
use Rattle.fb_crew.specs.Windows.{IsShotRow}

-- a solved item of a job, by its slot and node
pub record SolvedValue : Type 0 where
  pub job : JobValue
  pub slot : ℕ
  pub node : ℕ

-- the item's shot
abbrev pub shot_at : SolvedValue → ShotValue
shot_at s = get_or s.job.shots s.slot no_shot

-- the item of a shot and a node of the plan
abbrev pub item_at : JobValue → ℕ → ℕ → SolvedValue
item_at j s n = record { job = j; slot = s; node = n }

-- the item of a part
abbrev pub item_of : PartValue → SolvedValue
item_of part = item_at part.job part.slot part.node

-- below the root the part of the item; at the root the row of its shot
abbrev pub IsFoundAt : SolvedValue → Found → Type 0
IsFoundAt s (Part half) = IsPartOf s.job s.slot s.node half × (s.node ≢ root_of s.job.plan)
IsFoundAt s (Row row) = IsShotRow s.job.graph (shot_at s) row.value × (s.node ≡ root_of s.job.plan)
