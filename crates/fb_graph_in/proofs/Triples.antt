-- A list of fewer or more than three values is no triple.
use Rattle.std.proofs.Common.{◌≡◌, ◌<◌, ◌≤◌, List, [], ◌∷◌, length, refl, arith}
use Rattle.std.specs.Prelude.{None}
use Rattle.serde_json.specs.View.{items_view}
use Rattle.serde_json.specs.declared.value.Value.{Value}
use Rattle.fb_graph_in.specs.GraphText.{triple_of}

pub triple_of_fewer : (vs : List Value) → length vs < 3 → triple_of (items_view vs) ≡ None
triple_of_fewer [] h = refl
triple_of_fewer (a ∷ []) h = refl
triple_of_fewer (a ∷ b ∷ []) h = refl
triple_of_fewer (a ∷ b ∷ c ∷ vs) h = absurd (omega (arith, h))

pub triple_of_more : (vs : List Value) → 4 ≤ length vs → triple_of (items_view vs) ≡ None
triple_of_more [] h = absurd (omega (arith, h))
triple_of_more (a ∷ []) h = absurd (omega (arith, h))
triple_of_more (a ∷ b ∷ []) h = absurd (omega (arith, h))
triple_of_more (a ∷ b ∷ c ∷ []) h = absurd (omega (arith, h))
triple_of_more (a ∷ b ∷ c ∷ d ∷ vs) h = refl

pub ruleset triples = (triple_of_fewer, triple_of_more)
