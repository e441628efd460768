-- How numbers are kept page by page: of a page without numbers all are 0.
use Rattle.std.specs.Prelude.{ℕ, ◌≡◌, ◌+◌, ◌*◌, ◌/◌, ◌%◌, ◌<◌, ◌≤◌, ◌^◌, ◌==◌, ◌⊎◌, List, length, map, get_or, sum_by, All, if◌then◌else◌}
use Rattle.std.specs.List.{range_with_len}
use Rattle.fb_regions.specs.declared.paged_numbers.TheConstants.{NO_PLACE, PAGE}

-- the place of a page that isn't filled
abbrev pub no_place : ℕ
no_place = NO_PLACE

-- the place at which the number of an index is kept
abbrev pub slot : List ℕ → ℕ → ℕ
slot places i = PAGE * get_or places (i / PAGE) no_place + i % PAGE

abbrev pub number_at : List ℕ → List ℕ → ℕ → ℕ
number_at places numbers i = get_or numbers (slot places i) 0

abbrev pub numbers_of : ℕ → List ℕ → List ℕ → List ℕ
numbers_of count places numbers = map (number_at places numbers) (range_with_len 0 count)

-- 1 for a page that isn't filled
abbrev pub missing_pages : ℕ → ℕ
missing_pages place = if place == no_place then 1 else 0

-- each filled page has numbers of its own, and there is room for all others
pub record ArePaged (places numbers : List ℕ) (room : ℕ) : Type 0 where
  pub within : All (λ q. (q ≡ no_place) ⊎ (PAGE * q + PAGE ≤ length numbers)) places
  pub apart : (i j : ℕ) → slot places i < length numbers → slot places i ≡ slot places j → i ≡ j
  pub counted : length numbers + PAGE * sum_by missing_pages places ≡ PAGE * length places
  pub fits : PAGE * length places ≤ room
  pub few : PAGE * length places ≤ 2 ^ 32
