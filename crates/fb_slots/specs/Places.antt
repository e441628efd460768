-- What a board keeps of its job, beside the table.
use Rattle.std.specs.Prelude.{ℕ, ◌≡◌, ◌+◌, ◌^◌, ◌<◌, ◌≤◌, Option, None, List, [], length, get_or}
use Rattle.atomic_table.specs.Seated.{TableId}
use Rattle.fb_slots.specs.Slots.{Layout}
use Rattle.fb_plan.specs.Plans.{JobValue, IsTree, node_count, parent_of}

pub record ArePlaces (job : JobValue) (workers units nodes slots : ℕ) (joins : List (ℕ × ℕ))
    (parents : List (Option ℕ)) : Type 0 where
  pub tree : IsTree job.plan
  pub few_slots : length job.shots < 2 ^ 32
  pub few_workers : workers < 2 ^ 32
  pub units_are : units ≡ job.plan.units
  pub nodes_are : nodes ≡ node_count job.plan
  pub slots_are : slots ≡ length job.shots
  pub joins_are : joins ≡ job.plan.joins
  pub parents_count : length parents ≡ node_count job.plan
  pub parents_are : (n : ℕ) → n < node_count job.plan → get_or parents n None ≡ parent_of job.plan n

-- The table has two words and one more for each item, and a slot for each item; and there is room
-- for the pieces of all roots.
pub record HasRoom {P : Type 0} (b : Layout) (table : TableId) (slots : ℕ) (roots : List P)
    (room : ℕ) : Type 0 where
  pub words : table.words ≡ b.count + 2
  pub slots_are : table.slots ≡ b.count
  pub empty : roots ≡ []
  pub roots_room : slots ≤ room
