-- Two rising lists merged, where both of two equal numbers are left out.
use Rattle.std.specs.Prelude.{ℕ, ◌≡◌, Bool, List, ◌++◌}
use Rattle.std.specs.List.Sorted.{IsStrictlyIncreasing}
use Rattle.fb_graph.specs.Parity.{differ, is_odd_count}

-- What has been put together, and what is left of both: it has the parities of `xs` and `ys` together.
pub record AreCancelling (xs ys done first second : List ℕ) : Type 0 where
  pub first_rises : IsStrictlyIncreasing (done ++ first)
  pub second_rises : IsStrictlyIncreasing (done ++ second)
  pub parity : (test : ℕ → Bool) → differ (is_odd_count test (done ++ first)) (is_odd_count test second)
      ≡ differ (is_odd_count test xs) (is_odd_count test ys)
