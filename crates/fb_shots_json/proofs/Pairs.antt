-- A list of fewer or more than two values is no pair.
use Rattle.std.proofs.Common.{◌≡◌, ◌<◌, ◌≤◌, List, [], ◌∷◌, length, refl, arith}
use Rattle.std.specs.Prelude.{None}
use Rattle.serde_json.specs.View.{items_view}
use Rattle.serde_json.specs.declared.value.Value.{Value}
use Rattle.fb_shots_json.specs.TextJson.{two_of}

pub two_of_fewer : (vs : List Value) → length vs < 2 → two_of (items_view vs) ≡ None
two_of_fewer [] h = refl
two_of_fewer (a ∷ []) h = refl
two_of_fewer (a ∷ b ∷ vs) h = absurd (omega (arith, h))

pub two_of_more : (vs : List Value) → 3 ≤ length vs → two_of (items_view vs) ≡ None
two_of_more [] h = absurd (omega (arith, h))
two_of_more (a ∷ []) h = absurd (omega (arith, h))
two_of_more (a ∷ b ∷ []) h = absurd (omega (arith, h))
two_of_more (a ∷ b ∷ c ∷ vs) h = refl

pub ruleset pairs = (two_of_fewer, two_of_more)
