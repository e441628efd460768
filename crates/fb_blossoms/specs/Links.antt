-- The cycle of a blossom: how its nodes are linked, and the way round it.
use Rattle.std.specs.Prelude.{ℕ, ◌≡◌, ◌+◌, ◌-◌, ◌<◌, ◌==◌, ◌&&◌, ◌||◌, Bool, true, nat_lt, nat_le, if◌then◌else◌, List, length, get_or, Option}
use Rattle.fb_links.specs.Lists.{is_in}
use Rattle.fb_links.specs.declared.walk.Step.{Step}
use Rattle.fb_links.specs.declared.cycle.CycleStep.{CycleStep}
use Rattle.fb_links.specs.Walks.{start_of, end_of, is_end, other_end}
use Rattle.fb_links.specs.Table.{is_live, walk_at}
use Rattle.fb_blossoms.specs.Nodes.{Node, cycle_at, defects_at}

-- whether the walk leads between the two sets
abbrev pub joins : List Step → List ℕ → List ℕ → Bool
joins walk first second =
    (is_in first (start_of walk) && is_in second (end_of walk)) || (is_in second (start_of walk) && is_in first (end_of walk))

-- the link is live, and leads between defects of the two nodes
abbrev pub IsLinkBetween : List (Option (List Step)) → List (Option Node) → ℕ → ℕ → ℕ → Type 0
IsLinkBetween links nodes link x y =
    (is_live links link ≡ true) × (joins (walk_at links link) (defects_at nodes x) (defects_at nodes y) ≡ true)

-- the step at this place of the cycle
abbrev pub step_at : List CycleStep → ℕ → CycleStep
step_at cycle k = get_or cycle k (record { node = 0; link = 0 })

-- the place after this one, and the first place after the last
abbrev pub next_place : ℕ → ℕ → ℕ
next_place count k = if k + 1 == count then 0 else k + 1

-- each step's link leads between its node and the next step's
abbrev pub AreLinked : List (Option (List Step)) → List (Option Node) → List CycleStep → Type 0
AreLinked links nodes cycle =
    (k : ℕ) → k < length cycle
    → IsLinkBetween links nodes (step_at cycle k).link (step_at cycle k).node (step_at cycle (next_place (length cycle) k)).node

-- the links of every cycle lead between its neighbours
abbrev pub AllLinked : List (Option (List Step)) → List (Option Node) → Type 0
AllLinked links nodes = (x : ℕ) → AreLinked links nodes (cycle_at nodes x)

-- the place k steps from the place s round a cycle of `count` nodes, onward or back
abbrev pub place_after : ℕ → Bool → ℕ → ℕ → ℕ
place_after count onward s k =
    if onward then (if nat_lt (s + k) count then s + k else s + k - count)
    else (if nat_le k s then s - k else s + count - k)

-- the node there
abbrev pub node_after : List CycleStep → Bool → ℕ → ℕ → ℕ
node_after cycle onward s k = (step_at cycle (place_after (length cycle) onward s k)).node

-- the cycle's link between that node and the node one step further
abbrev pub link_after : List CycleStep → Bool → ℕ → ℕ → ℕ
link_after cycle onward s k =
    if onward then (step_at cycle (place_after (length cycle) onward s k)).link
    else (step_at cycle (place_after (length cycle) onward s (k + 1))).link

-- the link leads from the defect `exit` of the node x to the defect `entry` of the node y
pub record LeadsOver (links : List (Option (List Step))) (nodes : List (Option Node)) (l x exit y entry : ℕ) : Type 0 where
  pub leaves : is_in (defects_at nodes x) exit ≡ true
  pub enters : is_in (defects_at nodes y) entry ≡ true
  pub end : is_end (walk_at links l) exit ≡ true
  pub other : other_end exit (walk_at links l) ≡ entry
