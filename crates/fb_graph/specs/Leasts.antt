-- The least number below a bound that passes a test.
use Rattle.std.specs.Prelude.{ℕ, Bool, Option}
use Rattle.std.specs.List.{find, range_with_len}

abbrev pub least : ℕ → (ℕ → Bool) → Option ℕ
least n test = find test (range_with_len 0 n)
