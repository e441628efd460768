-- Rising lists of numbers put together.
use Rattle.std.specs.Prelude.{ℕ, ◌≡◌, ◌||◌, List, ◌++◌}
use Rattle.std.specs.List.Sorted.{IsStrictlyIncreasing}
use Rattle.fb_graph.specs.Parity.{is_in}

-- The list rises, and has the numbers of both.
pub record IsRisingUnion (xs ys all : List ℕ) : Type 0 where
  pub rising : IsStrictlyIncreasing all
  pub members : (v : ℕ) → is_in all v ≡ (is_in xs v || is_in ys v)

-- What has been put together, and what is left of both, where these are `xs` and `ys` in all.
pub record AreMerging (xs ys done first second : List ℕ) : Type 0 where
  pub first_rises : IsStrictlyIncreasing (done ++ first)
  pub second_rises : IsStrictlyIncreasing (done ++ second)
  pub members : (v : ℕ) → (is_in (done ++ first) v || is_in second v) ≡ (is_in xs v || is_in ys v)
