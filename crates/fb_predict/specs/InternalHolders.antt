-- The observables that have an edge, by the edge.
use Rattle.std.specs.Prelude.{◌≡◌, ℕ, ◌<◌, ◌==◌, Bool, List, [], get_or, All}
use Rattle.fb_graph.specs.Parity.{is_odd_count, is_in}
use Rattle.fb_predict.specs.ObservableText.{most_observables}

-- whether a number occurs in a list an odd number of times
abbrev pub occurs_oddly : List ℕ → ℕ → Bool
occurs_oddly list i = is_odd_count (λ h. h == i) list

-- no edge is held by a number that is none of an observable
abbrev pub AreNumbers : List (List ℕ) → Type 0
AreNumbers holders = (e : ℕ) → All (λ h. h < most_observables) (get_or holders e [])

-- The list of an edge has the number of each observable that has the edge, and no other.
pub record AreHolders (lists holders : List (List ℕ)) : Type 0 where
  pub odd : (i e : ℕ) → occurs_oddly (get_or holders e []) i ≡ is_in (get_or lists i []) e
  pub numbers : AreNumbers holders
