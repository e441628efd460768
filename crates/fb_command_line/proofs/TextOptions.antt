-- The text of an option that may be absent.
use Rattle.std.proofs.Common.{◌≡◌, refl, List, ℕ, [], Option, None, Some, option_map, unwrap_or}

pub text_or : {A : Type 0} (text : A → List ℕ) (o : Option A) (none : A) → text none ≡ [] → text (unwrap_or o none) ≡ unwrap_or (option_map text o) []
text_or text None none e = e
text_or text (Some x) none e = refl
