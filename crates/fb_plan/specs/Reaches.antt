-- The least and the greatest vertex that a node owns itself.
use Rattle.std.specs.Prelude.{ℕ, ◌≡◌, ◌+◌, ◌-◌, ◌<◌, ◌≤◌, ◌==◌, ◌&&◌, Bool, nat_le, nat_lt, if◌then◌else◌, List, get_or, Option, Some, None}
use Rattle.fb_plan.specs.declared.reach.Reach.{Reach}

-- From the least vertex of node n up to and without the number after its greatest; empty if n owns none.
pub record IsReach (owners : List (Option ℕ)) (n : ℕ) (r : Reach) : Type 0 where
  pub order : r.first ≤ r.end
  pub least : r.first < r.end → get_or owners r.first None ≡ Some n
  pub greatest : r.first < r.end → get_or owners (r.end - 1) None ≡ Some n
  pub each : (v : ℕ) → get_or owners v None ≡ Some n → (r.first ≤ v) × (v < r.end)

-- the vertex lies within the reach
abbrev pub is_reached : Reach → ℕ → Bool
is_reached r v = nat_le r.first v && nat_lt v r.end

abbrev pub reach_at : List Reach → ℕ → Reach
reach_at reaches n = get_or reaches n (record { first = 0; end = 0 })

-- the reach with one more vertex, which is greater than all before it
abbrev pub widened_reach : Reach → ℕ → Reach
widened_reach r v = record { first = if r.first == r.end then v else r.first; end = v + 1 }
