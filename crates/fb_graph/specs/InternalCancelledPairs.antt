-- The numbers that occur an odd number of times in a list, once pairs of equal numbers are taken off.
use Rattle.std.specs.Prelude.{ℕ, ◌≡◌, ◌≤◌, Bool, List, sum_by}
use Rattle.std.specs.List.Sorted.{IsStrictlyIncreasing}
use Rattle.fb_graph.specs.Parity.{is_odd_count}

-- The second list has, rising, the numbers that occur an odd number of times in the first. Pairs of equal
-- numbers have gone, so each parity stays.
pub record CancelsTo (numbers odd_ones : List ℕ) : Type 0 where
  pub rising : IsStrictlyIncreasing odd_ones
  pub parity : (test : ℕ → Bool) → is_odd_count test odd_ones ≡ is_odd_count test numbers
  pub weight : (f : ℕ → ℕ) → sum_by f odd_ones ≤ sum_by f numbers
