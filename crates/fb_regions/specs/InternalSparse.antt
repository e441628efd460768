-- How a table over few of many numbers is stored: its keys, the value of each, and for each number below the bound its
-- place among the keys if it is one.
use Rattle.std.specs.Prelude.{ℕ, ◌≡◌, ◌<◌, ◌≤◌, ◌^◌, List, length, get_or, All}

pub record IsStored (places keys : List ℕ) (count keys_room values_room : ℕ) : Type 0 where
  pub placed : (i : ℕ) → i < length keys → get_or places (get_or keys i 0) 0 ≡ i
  pub within : All (λ k. k < length places) keys
  pub values : count ≡ length keys
  pub keys_fit : length places ≤ keys_room
  pub values_fit : length places ≤ values_room
  pub few : length places < 2 ^ 32
