-- Sums of weights with their signs.
use Rattle.std.proofs.Common.{ℕ, ◌+◌, ◌<◌, ◌≤◌, ◌≡◌, Bool, true, false, if◌then◌else◌, List, [], ◌∷◌, ◌++◌, length, take, get_or, sum_by, ℤ, pos, ◌+ℤ◌, neg_ℤ, refl, ap, ◌∙◌, arith}
use Rattle.std.specs.Int.{is_negative}
use Rattle.std.specs.Int.RustNames.{unsigned_abs}
use Rattle.std.proofs.lemmas.Int.{ints}
use Rattle.std.proofs.lemmas.List.{take_more}
use Rattle.std.proofs.lemmas.List.Sums.{sum_by-cons}
use Rattle.fb_graph.specs.Parity.{is_in}
use Rattle.fb_graph.specs.Problem.{edge_at}
use Rattle.fb_graph.specs.Limits.{DecodingGraph, signed, signed_weight}
use Rattle.fb_graph.specs.Signs.{shortfall, signed_sum}
use Rattle.fb_graph.proofs.Sets.{is_in-head, is_in-tail}

-- what edges of negative weight weigh together
pub negative_sum : (g : DecodingGraph) (ks : List ℕ) → ((k : ℕ) → is_in ks k ≡ true → is_in g.negatives k ≡ true)
    → signed_sum (signed_weight g) ks ≡ neg_ℤ (pos (sum_by (λ k. (edge_at g.edges k).weight) ks))
negative_sum g [] all = refl
negative_sum g (k ∷ ks) all =
    let here : signed_weight g k ≡ neg_ℤ (pos (edge_at g.edges k).weight) =
    ap (λ b. signed b (edge_at g.edges k).weight) (all k (is_in-head k ks)) in
    let rest = negative_sum g ks (λ j within. all j (is_in-tail k ks j within)) in
    omega (arith, ints, here, rest, sum_by-cons (λ j. (edge_at g.edges j).weight) k ks)

signed_sum-append : (weight : ℕ → ℤ) (ks js : List ℕ)
    → signed_sum weight (ks ++ js) ≡ signed_sum weight ks +ℤ signed_sum weight js
signed_sum-append weight [] js = omega (arith, ints)
signed_sum-append weight (k ∷ ks) js = omega (arith, ints, signed_sum-append weight ks js)

-- one more edge
pub signed_sum_more : (weight : ℕ → ℤ) (ks : List ℕ) (i : ℕ) → i < length ks
    → signed_sum weight (take (i + 1) ks) ≡ signed_sum weight (take i ks) +ℤ weight (get_or ks i 0)
signed_sum_more weight ks i less =
    ap (signed_sum weight) (take_more ks i 0 less)
    ∙ (signed_sum-append weight (take i ks) (get_or ks i 0 ∷ []) ∙ omega (arith, ints))

pub shortfall-le : (z : ℤ) → shortfall z ≤ unsigned_abs z
shortfall-le z = step (is_negative z)
  where
    step : (b : Bool) → (if b then unsigned_abs z else 0) ≤ unsigned_abs z
    step true = omega arith
    step false = omega arith
