-- The numbers that stand in a list an odd number of times.
use Rattle.std.proofs.Common.{ℕ, ◌<◌, ◌≤◌, ◌≡◌, ◌==◌, ◌&&◌, Bool, true, false, cond, get_or, sum_by, refl, sym, ap, ◌∙◌, le_trans, le_of_eq, zero-le}
use Rattle.std.proofs.Math.Bool.{and-true, and-false, and_comm}
use Rattle.std.specs.List.{range_with_len}
use Rattle.std.proofs.lemmas.Bool.{eqb-true, cond_both}
use Rattle.std.proofs.lemmas.List.Elements.{All-filter}
use Rattle.std.proofs.lemmas.List.Kept.{IsStrictlyIncreasing-filter}
use Rattle.fb_graph.specs.Parity.{is_odd_count}
use Rattle.fb_graph.specs.Certificate.{AreDistinct}
use Rattle.fb_graph.specs.Laws.{OddOnesRise, OddOnesCount, OddOnesWeigh}
use Rattle.fb_graph.proofs.ParitySums.{odd_same, odd_agree, odd_exchange, odd-and, odd-filter}
use Rattle.fb_graph.proofs.Sums.{sum_le, sum_same, sum_exchange, sum-filter, le-sum_of_odd, sum_of_once}
use Rattle.fb_graph.proofs.Sets.{equal_sym, odd_equal, count_equal-le, distinct_from_rising, range_rises, range_below, is_in-range}

pub odd_ones_rise : OddOnesRise
odd_ones_rise n ks = (
  IsStrictlyIncreasing-filter (λ k. is_odd_count (λ j. j == k) ks) (range_with_len 0 n) (range_rises 0 n),
  All-filter (λ k. is_odd_count (λ j. j == k) ks) (λ k. k < n) (range_with_len 0 n) (range_below n),
)

-- a test of the one of two equal numbers is one of the other
and_equal : (test : ℕ → Bool) (j k : ℕ) → (test k && (j == k)) ≡ ((j == k) && test j)
and_equal test j k = step (j == k) refl
  where
    step : (b : Bool) → (j == k) ≡ b → (test k && (j == k)) ≡ ((j == k) && test j)
    step true e = rw e (and-true (test k) ∙ ap test (sym (eqb-true j k e)))
    step false e = rw e (and-false (test k))

pub range_distinct : (n : ℕ) → AreDistinct (range_with_len 0 n)
range_distinct n = distinct_from_rising (range_with_len 0 n) (range_rises 0 n)

-- of the numbers below n just j is j
odd_of_one : (n j : ℕ) (test : ℕ → Bool) → j < n
    → is_odd_count (λ k. (j == k) && test j) (range_with_len 0 n) ≡ test j
odd_of_one n j test below =
    odd_same (λ k. (j == k) && test j) (λ k. test j && (k == j))
    (λ k. ap (λ b. b && test j) (equal_sym j k) ∙ and_comm (k == j) (test j)) (range_with_len 0 n)
    ∙ (odd-and (test j) (λ k. k == j) (range_with_len 0 n)
    ∙ (ap (λ b. test j && b) (odd_equal (range_with_len 0 n) j (range_distinct n) ∙ is_in-range n j below)
    ∙ and_comm (test j) true))

pub odd_ones_count : OddOnesCount
odd_ones_count n ks within test =
    odd-filter (λ k. is_odd_count (λ j. j == k) ks) test (range_with_len 0 n)
    ∙ (odd_same (λ k. is_odd_count (λ j. j == k) ks && test k) (λ k. is_odd_count (λ j. (j == k) && test j) ks)
    (λ k. and_comm (is_odd_count (λ j. j == k) ks) (test k)
    ∙ (sym (odd-and (test k) (λ j. j == k) ks)
    ∙ odd_same (λ j. test k && (j == k)) (λ j. (j == k) && test j) (λ j. and_equal test j k) ks))
    (range_with_len 0 n)
    ∙ (odd_exchange (λ k j. (j == k) && test j) (range_with_len 0 n) ks
    ∙ odd_agree (λ j. is_odd_count (λ k. (j == k) && test j) (range_with_len 0 n)) test ks
    (λ i d less. odd_of_one n (get_or ks i d) test (within i d less))))

sum_of_one : (n j : ℕ) (weight : ℕ → ℕ) → sum_by (λ k. cond (j == k) (weight k) 0) (range_with_len 0 n) ≤ weight j
sum_of_one n j weight =
    le_trans
    (le_of_eq
    (sum_same (λ k. cond (j == k) (weight k) 0) (λ k. cond (k == j) (weight j) 0) (range_with_len 0 n)
    (λ i d less. same (get_or (range_with_len 0 n) i d))))
    (sum_of_once (λ k. k == j) (weight j) (range_with_len 0 n)
    (count_equal-le (range_with_len 0 n) j (range_distinct n)))
  where
    same : (k : ℕ) → cond (j == k) (weight k) 0 ≡ cond (k == j) (weight j) 0
    same k = step (k == j) refl
      where
        step : (b : Bool) → (k == j) ≡ b → cond (j == k) (weight k) 0 ≡ cond (k == j) (weight j) 0
        step true e =
            ap (λ b. cond b (weight k) 0) (equal_sym j k)
            ∙ ap (λ i. cond (k == j) (weight i) 0) (eqb-true k j e)
        step false e =
            ap (λ b. cond b (weight k) 0) (equal_sym j k ∙ e) ∙ ap (λ b. cond b (weight j) 0) (sym e)

pub odd_ones_weigh : OddOnesWeigh
odd_ones_weigh n ks within weight =
    le_trans (le_of_eq (sum-filter (λ k. is_odd_count (λ j. j == k) ks) weight (range_with_len 0 n)))
    (le_trans
    (sum_le (λ k. cond (is_odd_count (λ j. j == k) ks) (weight k) 0)
    (λ k. sum_by (λ j. cond (j == k) (weight k) 0) ks) (range_with_len 0 n)
    (λ i d less. each (get_or (range_with_len 0 n) i d)))
    (le_trans
    (le_of_eq (sum_exchange (λ k j. cond (j == k) (weight k) 0) (range_with_len 0 n) ks))
    (sum_le (λ j. sum_by (λ k. cond (j == k) (weight k) 0) (range_with_len 0 n)) weight ks
    (λ i d less. sum_of_one n (get_or ks i d) weight))))
  where
    each : (k : ℕ) → cond (is_odd_count (λ j. j == k) ks) (weight k) 0 ≤ sum_by (λ j. cond (j == k) (weight k) 0) ks
    each k =
        cond_both {A = ℕ} (is_odd_count (λ j. j == k) ks) (weight k) 0
        (λ x. x ≤ sum_by (λ j. cond (j == k) (weight k) 0) ks)
        (λ odd. le-sum_of_odd (λ j. j == k) (weight k) ks odd) (λ even. zero-le)
