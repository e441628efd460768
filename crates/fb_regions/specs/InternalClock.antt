-- How a region moves with the clock: a top layer has its kept value at the time at which its pace began.
use Rattle.std.specs.Prelude.{ℕ, ◌+◌, ◌-◌, ◌≤◌, Bool, List, map, filter, All}
use Rattle.fb_regions.specs.declared.region.Region.{Region}
use Rattle.fb_regions.specs.declared.roles.Role.{Role}
use Rattle.fb_regions.specs.declared.roles.Role.TheVariants.{Plus, Minus, Out}

-- a value after some time at a pace
abbrev pub moved_by : Role → ℕ → ℕ → ℕ
moved_by Plus value time = value + time
moved_by Minus value time = value - time
moved_by Out value time = value

-- what a kept value of the region is at a time of the clock
abbrev pub value_at : ℕ → Region → ℕ → ℕ
value_at clock r value = moved_by r.pace value (clock - r.since)

-- the region with its values at a time, as one whose pace began at 0
abbrev pub now_at : ℕ → Region → Region
now_at clock r = record r { top_value = value_at clock r r.top_value; radius = value_at clock r r.radius; since = 0 }

abbrev pub all_at : ℕ → List Region → List Region
all_at clock regions = map (now_at clock) regions

-- the region's pace began at this time or before
abbrev pub HasBegun : ℕ → Region → Type 0
HasBegun clock r = r.since ≤ clock

abbrev pub HaveBegun : ℕ → List Region → Type 0
HaveBegun clock regions = All (HasBegun clock) regions

-- the names of the regions whose paces pass the test
abbrev pub names_paced : (Role → Bool) → List Region → List ℕ
names_paced test regions = map (λ r. r.name) (filter (λ r. test r.pace) regions)
