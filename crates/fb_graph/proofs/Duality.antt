-- Weak duality: every correction crosses every odd cut, so feasible odd cuts add up to at most its weight.
use Rattle.std.proofs.Common.{ℕ, ◌≤◌, ◌≡◌, true, cond, List, get_or, All, sum_by, ◌∙◌, le_trans, le_of_eq, arith}
use Rattle.fb_graph.specs.Parity.{is_odd_count}
use Rattle.fb_graph.specs.Problem.{Problem, Flips, edge_at, no_edge, touches, crosses, weight_of}
use Rattle.fb_graph.specs.Certificate.{AreDistinct, IsOddCut, IsPacking, IsCertified, load_of}
use Rattle.fb_graph.specs.Laws.{WeakDuality, LeastWeight, EqualWeights}
use Rattle.fb_graph.specs.declared.parts.Cut.{Cut}
use Rattle.fb_graph.proofs.ParitySums.{odd_same, odd_agree, odd_exchange}
use Rattle.fb_graph.proofs.Sums.{le-sum_of_odd, sum_le, sum_exchange}
use Rattle.fb_graph.proofs.Sets.{crosses_as_touches}

-- the chosen edges cross a distinct set of real vertices an odd number of times if and only if it has an odd number of
-- defects
pub odd-crosses : (p : Problem) (chosen set : List ℕ) → Flips p chosen → AreDistinct set
    → All (λ v. p.is_real v ≡ true) set
    → is_odd_count (λ k. crosses set (edge_at p.edges k)) chosen ≡ is_odd_count p.is_defect set
odd-crosses p chosen set flips distinct real =
    odd_same (λ k. crosses set (edge_at p.edges k)) (λ k. is_odd_count (λ v. touches v (edge_at p.edges k)) set)
    (λ k. crosses_as_touches set (edge_at p.edges k) distinct) chosen
    ∙ (odd_exchange (λ k v. touches v (edge_at p.edges k)) chosen set
    ∙ odd_agree (λ v. is_odd_count (λ k. touches v (edge_at p.edges k)) chosen) p.is_defect set
    (λ k d less. flips (get_or set k d) (real k d less)))

-- what the chosen edges add to a cut's value
crossings : Problem → List ℕ → Cut → ℕ
crossings p chosen c = sum_by (λ k. cond (crosses c.vertices (edge_at p.edges k)) c.value 0) chosen

value-le-crossings : (p : Problem) (chosen : List ℕ) (c : Cut) → Flips p chosen → IsOddCut p c
    → c.value ≤ crossings p chosen c
unfolding crossings
value-le-crossings p chosen c flips odd =
    le-sum_of_odd (λ k. crosses c.vertices (edge_at p.edges k)) c.value chosen
    (odd-crosses p chosen c.vertices flips odd.distinct odd.real ∙ odd.odd)

-- the cuts of a certificate are a packing
pub packing_of_certified : (p : Problem) (chosen : List ℕ) (weight : ℕ) (cuts : List Cut) → IsCertified p chosen weight cuts
    → IsPacking p cuts
packing_of_certified p chosen weight cuts best =
    record { odd = λ k d less. (best.printed k d less).odd; fits = best.fits }

pub weak_duality : WeakDuality
unfolding crossings
weak_duality p cuts chosen packing within flips =
    le_trans
    (sum_le (λ c. c.value) (crossings p chosen) cuts
    (λ k d less. value-le-crossings p chosen (get_or cuts k d) flips (packing.odd k d less)))
    (le_trans
    (le_of_eq
    (sum_exchange (λ c k. cond (crosses c.vertices (edge_at p.edges k)) c.value 0) cuts chosen))
    (sum_le (λ k. load_of cuts (edge_at p.edges k)) (λ k. (edge_at p.edges k).weight) chosen
    (λ i d less. packing.fits (get_or chosen i d) no_edge (within i d less))))

pub least_weight : LeastWeight
least_weight p chosen weight cuts best other edge_set flips =
    le_trans (le_of_eq best.total) (weak_duality p cuts other (packing_of_certified p chosen weight cuts best) edge_set.within flips)

pub equal_weights : EqualWeights
equal_weights p chosen other weight other_weight cuts other_cuts best other_best =
    let less : weight ≤ weight_of p other =
    least_weight p chosen weight cuts best other other_best.edge_set other_best.flips in
    let more : other_weight ≤ weight_of p chosen =
    least_weight p other other_weight other_cuts other_best chosen best.edge_set best.flips in
    omega (arith, best.weighs, other_best.weighs)
