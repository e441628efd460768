-- Shifted defects and signed weights.
use Rattle.std.proofs.Common.{ℕ, ◌≡◌, ◌+◌, ◌*◌, ◌≤◌, ◌<◌, ◌==◌, ◌&&◌, Bool, true, false, cond, List, length, All, Option, Some, None, filter, sum_by, get_or, refl, sym, ap, ◌∙◌, subst, arith}
use Rattle.std.proofs.Math.Bool.{and-true, and_comm}
use Rattle.std.specs.List.{range_with_len}
use Rattle.std.proofs.lemmas.Bool.{eqb-true}
use Rattle.std.proofs.lemmas.List.Elements.{All-filter}
use Rattle.std.proofs.lemmas.List.Kept.{IsStrictlyIncreasing-filter}
use Rattle.fb_graph.specs.Parity.{differ, is_odd_count, is_in}
use Rattle.fb_graph.specs.Problem.{Problem, Flips, edge_at, touches, crosses, weight_of, no_edge}
use Rattle.fb_graph.specs.Certificate.{AreDistinct, total_value}
use Rattle.fb_graph.specs.Components.{IsJoined, IsOddAt, IsFirstOdd}
use Rattle.fb_graph.specs.Counts.{as_count}
use Rattle.fb_graph.proofs.ParitySums.{differ_assoc, differ_self, differ-false, odd_same, odd_agree, odd_none, odd_exchange, odd-differ, odd-filter}
use Rattle.fb_graph.proofs.Sums.{sum_same, sum_add, sum_exchange, sum-filter, sum_of_count}
use Rattle.fb_graph.proofs.Sets.{equal_sym, count_equal, crosses_as_touches, odd_meet, distinct_from_rising, range_rises, range_below, is_in-range}
use Rattle.fb_graph.proofs.Duality.{weak_duality}
use Rattle.fb_graph.proofs.OddComponents.{component_uncrossed}
use Rattle.fb_graph.proofs.Walks.{walk_same}
use Rattle.fb_graph.specs.Signed.{negative_edges, shifted_problem, added_weight, taken_weight, taken_by_all, unshifted_edges, SignedDuality, SignedSolved, SignedLeast, ShiftedFirstOdd, ShiftedNoOddClosed}
use Rattle.fb_graph.proofs.OddOnes.{range_distinct}

one_times : (b : Bool) (n : ℕ) → as_count b * n ≡ cond b n 0
one_times true n = omega arith
one_times false n = omega arith

-- of the numbers below n just j is j
pub sum_at_one : (n j : ℕ) (f : ℕ → ℕ) → j < n → sum_by (λ k. cond (j == k) (f k) 0) (range_with_len 0 n) ≡ f j
sum_at_one n j f less =
    sum_same (λ k. cond (j == k) (f k) 0) (λ k. cond (k == j) (f j) 0) (range_with_len 0 n)
    (λ i d below. same (get_or (range_with_len 0 n) i d))
    ∙ (sum_of_count (λ k. k == j) (f j) (range_with_len 0 n)
    ∙ (ap (λ m. m * f j) (count_equal (range_with_len 0 n) j (range_distinct n) ∙ ap as_count (is_in-range n j less))
    ∙ one_times true (f j)))
  where
    same : (k : ℕ) → cond (j == k) (f k) 0 ≡ cond (k == j) (f j) 0
    same k = step (k == j) refl
      where
        step : (b : Bool) → (k == j) ≡ b → cond (j == k) (f k) 0 ≡ cond (k == j) (f j) 0
        step true e = ap (λ b. cond b (f k) 0) (equal_sym j k) ∙ ap (λ i. cond (k == j) (f i) 0) (eqb-true k j e)
        step false e = ap (λ b. cond b (f k) 0) (equal_sym j k ∙ e) ∙ ap (λ b. cond b (f j) 0) (sym e)

-- a sum over distinct numbers below n is one over all of these that are among them
pub sum_of_set : (n : ℕ) (set : List ℕ) (f : ℕ → ℕ) → AreDistinct set → All (λ k. k < n) set
    → sum_by f set ≡ sum_by (λ k. cond (is_in set k) (f k) 0) (range_with_len 0 n)
sum_of_set n set f distinct within =
    sum_same f (λ j. sum_by (λ k. cond (j == k) (f k) 0) (range_with_len 0 n)) set
    (λ i d less. sym (sum_at_one n (get_or set i d) f (within i d less)))
    ∙ (sum_exchange (λ j k. cond (j == k) (f k) 0) set (range_with_len 0 n)
    ∙ sum_same (λ k. sum_by (λ j. cond (j == k) (f k) 0) set) (λ k. cond (is_in set k) (f k) 0) (range_with_len 0 n)
    (λ i d less. each (get_or (range_with_len 0 n) i d)))
  where
    each : (k : ℕ) → sum_by (λ j. cond (j == k) (f k) 0) set ≡ cond (is_in set k) (f k) 0
    each k =
        sum_of_count (λ j. j == k) (f k) set
        ∙ (ap (λ m. m * f k) (count_equal set k distinct) ∙ one_times (is_in set k) (f k))

-- the parity of a set, over all numbers below n
pub odd_of_set : (n : ℕ) (set : List ℕ) (test : ℕ → Bool) → AreDistinct set → All (λ k. k < n) set
    → is_odd_count (λ k. is_in set k && test k) (range_with_len 0 n) ≡ is_odd_count test set
odd_of_set n set test distinct within =
    odd_same (λ k. is_in set k && test k) (λ k. test k && is_in set k) (λ k. and_comm (is_in set k) (test k)) (range_with_len 0 n)
    ∙ (odd_meet test (range_with_len 0 n) set (range_distinct n) distinct
    ∙ odd_agree (λ k. test k && is_in (range_with_len 0 n) k) test set
    (λ i d less.
    ap (λ b. test (get_or set i d) && b) (is_in-range n (get_or set i d) (within i d less)) ∙ and-true (test (get_or set i d))))

pub and_differ : (a b t : Bool) → (differ a b && t) ≡ differ (a && t) (b && t)
and_differ true true true = refl
and_differ true true false = refl
and_differ true false true = refl
and_differ true false false = refl
and_differ false true true = refl
and_differ false true false = refl
and_differ false false true = refl
and_differ false false false = refl

module _ (p : Problem) (is_negative : ℕ → Bool) where
  all_edges : List ℕ
  all_edges = range_with_len 0 (length p.edges)

  weight : ℕ → ℕ
  weight k = (edge_at p.edges k).weight

  -- the edges chosen or negative, but not both, have the sum of the parities
  odd_unshifted : (chosen : List ℕ) (test : ℕ → Bool) → AreDistinct chosen → All (λ k. k < length p.edges) chosen
      → is_odd_count test (unshifted_edges p is_negative chosen)
      ≡ differ (is_odd_count test chosen) (is_odd_count test (negative_edges p is_negative))
  unfolding all_edges
  odd_unshifted chosen test distinct within =
      odd-filter (λ k. differ (is_in chosen k) (is_negative k)) test all_edges
      ∙ (odd_same (λ k. differ (is_in chosen k) (is_negative k) && test k)
      (λ k. differ (is_in chosen k && test k) (is_negative k && test k))
      (λ k. and_differ (is_in chosen k) (is_negative k) (test k)) all_edges
      ∙ (odd-differ (λ k. is_in chosen k && test k) (λ k. is_negative k && test k) all_edges
      ∙ (ap (λ b. differ b (is_odd_count (λ k. is_negative k && test k) all_edges))
      (odd_of_set (length p.edges) chosen test distinct within)
      ∙ ap (differ (is_odd_count test chosen)) (sym (odd-filter is_negative test all_edges)))))

  shifted_defects : (chosen : List ℕ) → AreDistinct chosen → All (λ k. k < length p.edges) chosen → Flips p chosen
      → Flips (shifted_problem p is_negative) (unshifted_edges p is_negative chosen)
  shifted_defects chosen distinct within flips v real =
      odd_unshifted chosen (λ k. touches v (edge_at p.edges k)) distinct within
      ∙ ap (λ b. differ b (is_odd_count (λ k. touches v (edge_at p.edges k)) (negative_edges p is_negative))) (flips v real)

  unshifted_defects : (chosen : List ℕ) → AreDistinct chosen → All (λ k. k < length p.edges) chosen
      → Flips (shifted_problem p is_negative) chosen → Flips p (unshifted_edges p is_negative chosen)
  unshifted_defects chosen distinct within flips v real =
      let shift : Bool = is_odd_count (λ k. touches v (edge_at p.edges k)) (negative_edges p is_negative) in
      odd_unshifted chosen (λ k. touches v (edge_at p.edges k)) distinct within
      ∙ (ap (λ b. differ b shift) (flips v real)
      ∙ (differ_assoc (p.is_defect v) shift shift ∙ (ap (differ (p.is_defect v)) (differ_self shift) ∙ differ-false (p.is_defect v))))

  within_all : (test : ℕ → Bool) → All (λ k. k < length p.edges) (filter test (range_with_len 0 (length p.edges)))
  within_all test = All-filter test (λ k. k < length p.edges) (range_with_len 0 (length p.edges)) (range_below (length p.edges))

  -- what a choice with the negative edges weighs, beside what it takes off
  weight_unshifted : (chosen : List ℕ) → AreDistinct chosen → All (λ k. k < length p.edges) chosen
      → weight_of p (unshifted_edges p is_negative chosen) + taken_weight p is_negative chosen
      ≡ added_weight p is_negative chosen + taken_by_all p is_negative
  unfolding all_edges weight
  weight_unshifted chosen distinct within =
      let taken : ℕ → ℕ = λ k. cond (is_negative k) (weight k) 0 in
      let added : ℕ → ℕ = λ k. cond (is_negative k) 0 (weight k) in
      omega (
        arith,
        sum-filter (λ k. differ (is_in chosen k) (is_negative k)) weight all_edges,
        sum-filter is_negative weight all_edges,
        sum_of_set (length p.edges) chosen taken distinct within,
        sum_of_set (length p.edges) chosen added distinct within,
        sum_add (λ k. cond (differ (is_in chosen k) (is_negative k)) (weight k) 0) (λ k. cond (is_in chosen k) (taken k) 0) all_edges,
        sum_add (λ k. cond (is_in chosen k) (added k) 0) (λ k. cond (is_negative k) (weight k) 0) all_edges,
        sum_same
            (λ k. cond (differ (is_in chosen k) (is_negative k)) (weight k) 0 + cond (is_in chosen k) (taken k) 0)
            (λ k. cond (is_in chosen k) (added k) 0 + cond (is_negative k) (weight k) 0) all_edges
            (λ i d less. each (is_in chosen (get_or all_edges i d)) (is_negative (get_or all_edges i d)) (weight (get_or all_edges i d))),
      )
    where
      each : (c n : Bool) (w : ℕ) → cond (differ c n) w 0 + cond c (cond n w 0) 0 ≡ cond c (cond n 0 w) 0 + cond n w 0
      each true true w = omega arith
      each true false w = omega arith
      each false true w = omega arith
      each false false w = omega arith

  -- the same of a choice that has them already
  weight_back : (chosen : List ℕ) → AreDistinct chosen → All (λ k. k < length p.edges) chosen
      → added_weight p is_negative (unshifted_edges p is_negative chosen) + taken_by_all p is_negative
      ≡ weight_of p chosen + taken_weight p is_negative (unshifted_edges p is_negative chosen)
  unfolding all_edges weight
  weight_back chosen distinct within =
      let taken : ℕ → ℕ = λ k. cond (is_negative k) (weight k) 0 in
      let added : ℕ → ℕ = λ k. cond (is_negative k) 0 (weight k) in
      omega (
        arith,
        sum-filter (λ k. differ (is_in chosen k) (is_negative k)) taken all_edges,
        sum-filter (λ k. differ (is_in chosen k) (is_negative k)) added all_edges,
        sum-filter is_negative weight all_edges,
        sum_of_set (length p.edges) chosen weight distinct within,
        sum_add (λ k. cond (differ (is_in chosen k) (is_negative k)) (added k) 0) (λ k. cond (is_negative k) (weight k) 0) all_edges,
        sum_add (λ k. cond (is_in chosen k) (weight k) 0) (λ k. cond (differ (is_in chosen k) (is_negative k)) (taken k) 0) all_edges,
        sum_same
            (λ k. cond (differ (is_in chosen k) (is_negative k)) (added k) 0 + cond (is_negative k) (weight k) 0)
            (λ k. cond (is_in chosen k) (weight k) 0 + cond (differ (is_in chosen k) (is_negative k)) (taken k) 0) all_edges
            (λ i d less. each (is_in chosen (get_or all_edges i d)) (is_negative (get_or all_edges i d)) (weight (get_or all_edges i d))),
      )
    where
      each : (c n : Bool) (w : ℕ) → cond (differ c n) (cond n 0 w) 0 + cond n w 0 ≡ cond c w 0 + cond (differ c n) (cond n w 0) 0
      each true true w = omega arith
      each true false w = omega arith
      each false true w = omega arith
      each false false w = omega arith

pub signed_duality : SignedDuality
signed_duality p is_negative cuts chosen packing distinct within flips =
    let least : total_value cuts ≤ weight_of p (unshifted_edges p is_negative chosen) =
    weak_duality (shifted_problem p is_negative) cuts (unshifted_edges p is_negative chosen) packing
    (within_all p is_negative (λ k. differ (is_in chosen k) (is_negative k)))
    (shifted_defects p is_negative chosen distinct within flips) in
    omega (arith, least, weight_unshifted p is_negative chosen distinct within)

pub signed_solved : SignedSolved
signed_solved p is_negative cuts chosen solved = record {
  edge_set = record {
    rising =
        IsStrictlyIncreasing-filter (λ k. differ (is_in chosen k) (is_negative k)) (range_with_len 0 (length p.edges))
        (range_rises 0 (length p.edges));
    within = within_all p is_negative (λ k. differ (is_in chosen k) (is_negative k));
  };
  flips = unshifted_defects p is_negative chosen distinct solved.edge_set.within solved.flips;
  weighs = omega (arith, weight_back p is_negative chosen distinct solved.edge_set.within, solved.weighs);
}
  where
    distinct : AreDistinct chosen
    distinct = distinct_from_rising chosen solved.edge_set.rising

pub signed_least : SignedLeast
signed_least p is_negative cuts chosen other packing solved edge_set flips =
    omega (
      arith,
      solved.weighs,
      signed_duality p is_negative cuts other packing (distinct_from_rising other edge_set.rising) edge_set.within flips,
    )

-- the shift changes no set's parity that no edge crosses
odd_shifted : (p : Problem) (is_negative : ℕ → Bool) (set : List ℕ) → AreDistinct set
    → ((k : ℕ) → k < length p.edges → crosses set (edge_at p.edges k) ≡ false)
    → is_odd_count (shifted_problem p is_negative).is_defect set ≡ is_odd_count p.is_defect set
odd_shifted p is_negative set distinct uncrossed =
    odd-differ p.is_defect (λ v. is_odd_count (λ k. touches v (edge_at p.edges k)) (negative_edges p is_negative)) set
    ∙ (ap (differ (is_odd_count p.is_defect set))
    (odd_exchange (λ v k. touches v (edge_at p.edges k)) set (negative_edges p is_negative)
    ∙ (odd_agree (λ k. is_odd_count (λ v. touches v (edge_at p.edges k)) set) (λ k. false) (negative_edges p is_negative)
    (λ i d less.
    sym (crosses_as_touches set (edge_at p.edges (get_or (negative_edges p is_negative) i d)) distinct)
    ∙ uncrossed (get_or (negative_edges p is_negative) i d) (within_all p is_negative is_negative i d less))
    ∙ odd_none (negative_edges p is_negative)))
    ∙ differ-false (is_odd_count p.is_defect set))

-- components and odd components are those of the edges
pub joined_same : (p q : Problem) → p.edges ≡ q.edges → (a b : ℕ) → IsJoined p a b → IsJoined q a b
joined_same p q edges a b (ks, walk) = (ks, walk_same p q edges ks a b walk)

odd_at_same : (p q : Problem) → p.edges ≡ q.edges → p.vertices ≡ q.vertices
    → ((v : ℕ) → p.is_real v ≡ true → q.is_real v ≡ true)
    → ((set : List ℕ) → AreDistinct set → ((k : ℕ) → k < length p.edges → crosses set (edge_at p.edges k) ≡ false)
    → is_odd_count q.is_defect set ≡ is_odd_count p.is_defect set)
    → (v : ℕ) → IsOddAt p v → IsOddAt q v
odd_at_same p q edges vertices real parity v odd = record {
  below = subst (λ n. v < n) vertices odd.below;
  members = odd.members;
  component = record {
    distinct = odd.component.distinct;
    inside = λ u h. joined_same p q edges v u (odd.component.inside u h);
    whole = λ u h. odd.component.whole u (joined_same q p (sym edges) v u h);
  };
  real = λ u h. real u (odd.real u h);
  odd = parity odd.members odd.component.distinct (component_uncrossed p v odd.members odd.component) ∙ odd.odd;
}

pub first_odd_same : (p q : Problem) → ((v : ℕ) → IsOddAt p v → IsOddAt q v) → ((v : ℕ) → IsOddAt q v → IsOddAt p v)
    → (r : Option ℕ) → IsFirstOdd p r → IsFirstOdd q r
first_odd_same p q there back None first = λ v odd. first v (back v odd)
first_odd_same p q there back (Some v) (odd, least) = (there v odd, λ u less other. least u less (back u other))

pub shifted_first_odd : ShiftedFirstOdd
shifted_first_odd p is_negative r =
    (first_odd_same p (shifted_problem p is_negative) there back r, first_odd_same (shifted_problem p is_negative) p back there r)
  where
    there : (v : ℕ) → IsOddAt p v → IsOddAt (shifted_problem p is_negative) v
    there = odd_at_same p (shifted_problem p is_negative) refl refl (λ v h. h) (odd_shifted p is_negative)

    back : (v : ℕ) → IsOddAt (shifted_problem p is_negative) v → IsOddAt p v
    back =
        odd_at_same (shifted_problem p is_negative) p refl refl (λ v h. h)
        (λ set distinct uncrossed. sym (odd_shifted p is_negative set distinct uncrossed))

pub shifted_no_odd_closed : ShiftedNoOddClosed
shifted_no_odd_closed p is_negative = (
  λ none set closed.
      odd_shifted p is_negative set closed.distinct (λ k less. closed.uncrossed k no_edge less)
      ∙ none set (record { distinct = closed.distinct; real = closed.real; uncrossed = closed.uncrossed }),
  λ none set closed.
      sym (odd_shifted p is_negative set closed.distinct (λ k less. closed.uncrossed k no_edge less))
      ∙ none set (record { distinct = closed.distinct; real = closed.real; uncrossed = closed.uncrossed }),
)
