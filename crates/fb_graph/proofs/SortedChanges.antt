-- What a bisection finds among changed weights that rise by edge.
use Rattle.std.proofs.Common.{ℕ, ℤ, pos, zero, suc, ◌+◌, ◌<◌, ◌≤◌, ◌≡◌, ◌≢◌, List, [], ◌∷◌, map, length, get_or, Some, None, arith, refl, sym, ap, ◌∙◌, inl, inr, Bor}
use Rattle.std.specs.List.Sorted.{IsNonDecreasingBy, IsPartitionPoint, IsStrictlyIncreasing}
use Rattle.std.specs.Slice.{IsItemAt}
use Rattle.std.proofs.lemmas.Bool.{cases_lt}
use Rattle.std.proofs.lemmas.Bool.Decides.{nat_tests}
use Rattle.std.proofs.lemmas.List.{get_or-map, length-map}
use Rattle.std.proofs.lemmas.List.Sorted.{IsNonDecreasingBy-from_all_adjacent}
use Rattle.fb_graph.specs.ShotGraphs.{weight_by}

-- changes that rise by edge never fall
pub never_fall : (changes : List (ℕ × ℤ)) → IsStrictlyIncreasing (map (λ (c : ℕ × ℤ). c.0) changes)
    → IsNonDecreasingBy (λ (c : ℕ × ℤ). c.0) changes
never_fall changes rising =
    let edge : ℕ × ℤ → ℕ = λ (c : ℕ × ℤ). c.0 in
    IsNonDecreasingBy-from_all_adjacent edge changes
    (λ k d less. omega (
      arith,
      rising k (omega (arith, less, length-map changes edge)),
      get_or-map edge changes k d 0 (omega (arith, less)),
      get_or-map edge changes (k + 1) d 0 less,
    ))

-- an edge without a change weighs what it did
weight_by-absent : (changes : List (ℕ × ℤ)) (e : ℕ) (w : ℤ) → ((k : ℕ) → k < length changes → (get_or changes k (0, pos 0)).0 ≢ e)
    → weight_by changes e w ≡ w
weight_by-absent [] e w none = refl
weight_by-absent (c ∷ cs) e w none =
    grind (arith, nat_tests, none 0 (omega arith), weight_by-absent cs e w (λ k within. none (suc k) (omega arith)))

-- without changes every edge weighs what it did
pub weight_by-none : (changes : List (ℕ × ℤ)) (e : ℕ) (w : ℤ) → length changes ≡ 0 → w ≡ weight_by changes e w
weight_by-none [] e w none = refl
weight_by-none (c ∷ cs) e w none = absurd (omega arith)

-- the first change of an edge gives its weight
weight_by-first : (changes : List (ℕ × ℤ)) (e : ℕ) (w : ℤ) (i : ℕ) → ((k : ℕ) → k < i → (get_or changes k (0, pos 0)).0 ≢ e)
    → i < length changes → (get_or changes i (0, pos 0)).0 ≡ e → (get_or changes i (0, pos 0)).1 ≡ weight_by changes e w
weight_by-first [] e w i none within has = absurd (omega arith)
weight_by-first (c ∷ cs) e w zero none within has = grind (arith, nat_tests, has)
weight_by-first (c ∷ cs) e w (suc i) none within has =
    grind (arith, nat_tests, none 0 (omega arith), weight_by-first cs e w i (λ k below. none (suc k) (omega arith)) (omega arith) has)

module _ (changes : List (ℕ × ℤ)) (e : ℕ) (w : ℤ) (i : ℕ) (rises : IsNonDecreasingBy (λ (c : ℕ × ℤ). c.0) changes)
    (point : IsPartitionPoint (λ (c : ℕ × ℤ). c.0 < e) (λ (c : ℕ × ℤ). e ≤ c.0) changes i) where
  below : (k : ℕ) → k < i → (get_or changes k (0, pos 0)).0 < e
  below k before = point.0 k (0, pos 0) (omega arith) before

  -- where the change at the place is the edge's
  pub found_weight : (x : Bor (ℕ × ℤ)) → IsItemAt changes i (Some x) → x.now.0 ≡ e → x.now.1 ≡ weight_by changes e w
  found_weight x at has =
      let is = at.3.1 (0, pos 0) in
      ap (λ (q : ℕ × ℤ). q.1) is
      ∙ weight_by-first changes e w i (λ k before. omega (arith, below k before)) at.3.0 (ap (λ (q : ℕ × ℤ). q.0) (sym is) ∙ has)

  -- where it is another edge's
  pub kept_weight : (x : Bor (ℕ × ℤ)) → IsItemAt changes i (Some x) → x.now.0 ≢ e → w ≡ weight_by changes e w
  kept_weight x at other = sym (weight_by-absent changes e w none)
    where
      above : e < (get_or changes i (0, pos 0)).0
      above =
          let is = ap (λ (q : ℕ × ℤ). q.0) (at.3.1 (0, pos 0)) in
          omega (arith, is, other, point.1 i (0, pos 0) (omega arith) at.3.0)

      none : (k : ℕ) → k < length changes → (get_or changes k (0, pos 0)).0 ≢ e
      none k inside =
          elim (cases_lt k i) [
            | inl before ↦ λ same. omega (arith, below k before)
            | inr after ↦ λ same. omega (arith, above, rises i k (0, pos 0) after inside)
          ]

  -- where there is none
  pub kept_past : IsItemAt changes i None → w ≡ weight_by changes e w
  kept_past past = sym (weight_by-absent changes e w (λ k inside same. omega (arith, below k (omega (arith, past.3)))))
