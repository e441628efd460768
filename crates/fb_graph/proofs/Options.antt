-- Numbers that are there or not.
use Rattle.std.proofs.Common.{◌≡◌, ℕ, false, Option, Some, None, IsSome, is_some, refl, sym}
use Rattle.std.proofs.lemmas.Bool.{false≢true}

pub some_name : (o : Option ℕ) → IsSome o → (m : ℕ) × (o ≡ Some m)
some_name None some = absurd (false≢true some)
some_name (Some m) some = (m, refl)

pub is_some-none : (o : Option ℕ) → is_some o ≡ false → o ≡ None
is_some-none None e = refl
is_some-none (Some v) e = absurd (false≢true (sym e))
