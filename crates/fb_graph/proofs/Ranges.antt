-- The numbers below n that pass a test.
use Rattle.std.proofs.Common.{◌≡◌, ◌≢◌, ℕ, zero, suc, ◌+◌, ◌<◌, ◌≤◌, ◌||◌, Bool, true, false, not, cond, List, [], ◌∷◌, ◌++◌, length, get_or, All, filter, eqb, refl, sym, ap, ◌∙◌, inl, inr, arith, add-one}
use Rattle.std.proofs.Math.Bool.{or-false}
use Rattle.std.specs.List.{range_with_len}
use Rattle.std.specs.List.Sorted.{IsStrictlyIncreasing}
use Rattle.std.proofs.lemmas.Bool.{cases_eq, eq-eqb, ne_eqb}
use Rattle.std.proofs.lemmas.List.Elements.{All-filter}
use Rattle.std.proofs.lemmas.List.Filters.{length-filter_both}
use Rattle.std.proofs.lemmas.List.Folds.{list_any-append, list_any_none}
use Rattle.std.proofs.lemmas.List.FromFn.{get_or-range_with_len, length-range_with_len}
use Rattle.std.proofs.lemmas.List.Kept.{IsStrictlyIncreasing-filter}
use Rattle.fb_graph.specs.Parity.{is_in}
use Rattle.fb_graph.proofs.BuildSteps.{range_more}
use Rattle.fb_graph.proofs.Sets.{range_below}

-- tests that agree below n keep the same numbers
pub filter-range_same : (p q : ℕ → Bool) (n : ℕ) → ((k : ℕ) → k < n → p k ≡ q k)
    → filter p (range_with_len 0 n) ≡ filter q (range_with_len 0 n)
filter-range_same p q zero same = refl
filter-range_same p q (suc n) same =
    let here : p n ≡ q n = same n (omega arith) in
    ap (λ m. filter p (range_with_len 0 m)) (sym (add-one n))
    ∙ range_more p n
    ∙ ap (λ xs. xs ++ cond (p n) (n ∷ []) []) (filter-range_same p q n (λ k lt. same k (omega arith)))
    ∙ ap (λ b. filter q (range_with_len 0 n) ++ cond b (n ∷ []) []) here
    ∙ sym (range_more q n)
    ∙ ap (λ m. filter q (range_with_len 0 m)) (add-one n)

pub filter-range_below : (p : ℕ → Bool) (n : ℕ) → All (λ v. v < n) (filter p (range_with_len 0 n))
filter-range_below p n = All-filter p (λ v. v < n) (range_with_len 0 n) (range_below n)

pub range_rises : (n : ℕ) → IsStrictlyIncreasing (range_with_len 0 n)
range_rises n k lt =
    let next : k + 1 < n = omega (arith, length-range_with_len 0 n) in
    let this : k < n = omega arith in
    omega (arith, get_or-range_with_len 0 n k 0 this, get_or-range_with_len 0 n (k + 1) 0 next)

pub filter-range_rises : (p : ℕ → Bool) (n : ℕ) → IsStrictlyIncreasing (filter p (range_with_len 0 n))
filter-range_rises p n = IsStrictlyIncreasing-filter p (range_with_len 0 n) (range_rises n)

-- a list of numbers below n does not hold n
pub not_in_below : (xs : List ℕ) (n : ℕ) → All (λ v. v < n) xs → is_in xs n ≡ false
not_in_below xs n below =
    list_any_none (λ u. eqb u n) xs (λ k d lt. ne_eqb (get_or xs k d) n (λ e. absurd (omega (arith, below k d lt))))

is_in-one : (b : Bool) (n v : ℕ) → is_in (cond b (n ∷ []) []) v ≡ cond b (eqb n v) false
is_in-one true n v = or-false (eqb n v)
is_in-one false n v = refl

-- the kept numbers are those that pass
pub is_in-filter-range : (p : ℕ → Bool) (n v : ℕ) → v < n → is_in (filter p (range_with_len 0 n)) v ≡ p v
is_in-filter-range p zero v lt = absurd (omega arith)
is_in-filter-range p (suc n) v lt =
    ap (λ m. is_in (filter p (range_with_len 0 m)) v) (sym (add-one n))
    ∙ ap (λ xs. is_in xs v) (range_more p n)
    ∙ list_any-append (λ u. eqb u v) (filter p (range_with_len 0 n)) (cond (p n) (n ∷ []) [])
    ∙ ap (λ b. is_in (filter p (range_with_len 0 n)) v || b) (is_in-one (p n) n v)
    ∙ elim (cases_eq n v) [
      | inl same ↦
          ap (λ b. b || cond (p n) (eqb n v) false)
          (ap (λ u. is_in (filter p (range_with_len 0 n)) u) (sym same) ∙ not_in_below _ n (filter-range_below p n))
          ∙ ap (λ b. cond (p n) b false) (eq-eqb n v same)
          ∙ cond-self (p n)
          ∙ ap p same
      | inr other ↦
          ap (λ b. is_in (filter p (range_with_len 0 n)) v || cond (p n) b false) (ne_eqb n v other)
          ∙ ap (λ b. is_in (filter p (range_with_len 0 n)) v || b) (cond-same (p n))
          ∙ or-false (is_in (filter p (range_with_len 0 n)) v)
          ∙ is_in-filter-range p n v (let ne : ◌≢◌ n v = other in omega arith)
    ]
  where
    cond-self : (b : Bool) → cond b true false ≡ b
    cond-self true = refl
    cond-self false = refl

    cond-same : (b : Bool) → cond b false false ≡ false
    cond-same true = refl
    cond-same false = refl

pub length-filter-range : (p : ℕ → Bool) (n : ℕ) → length (filter p (range_with_len 0 n)) ≤ n
length-filter-range p n =
    omega (arith, length-filter_both p (λ v. not (p v)) (λ v. refl) (range_with_len 0 n), length-range_with_len 0 n)
