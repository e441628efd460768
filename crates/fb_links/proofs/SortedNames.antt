-- Pairs in the order of their old numbers: what a stable sort keeps, and what a bisection finds.
use Rattle.std.proofs.Common.{ℕ, zero, suc, ◌<◌, ◌≤◌, ◌≡◌, ◌≢◌, ◌==◌, Bool, List, [], ◌∷◌, length, get_or, filter, Some, None, arith, refl, sym, ap, ◌∙◌, inl, inr, Bor}
use Rattle.std.specs.List.Sorted.{IsNonDecreasingBy, IsPartitionPoint, IsStableByKey, ties}
use Rattle.std.specs.Slice.{IsItemAt}
use Rattle.std.specs.Ordering.{nat_cmp, is_lt}
use Rattle.std.proofs.lemmas.Bool.{cases_lt}
use Rattle.std.proofs.lemmas.Bool.Decides.{nat_tests}
use Rattle.fb_links.specs.Names.{name_by}

-- a number is looked up among its own pairs
name_by-filter : (test : ℕ × ℕ → Bool) (a : ℕ) → ((p : ℕ × ℕ) → test p ≡ (p.0 == a)) → (pairs : List (ℕ × ℕ))
    → name_by (filter test pairs) a ≡ name_by pairs a
name_by-filter test a own [] = refl
name_by-filter test a own (p ∷ ps) = grind (arith, nat_tests, own p, name_by-filter test a own ps)

-- pairs tie where they have the same old number
ties-number : (a : ℕ) (p : ℕ × ℕ) → ties (λ (x y : ℕ × ℕ). is_lt (nat_cmp x.0 y.0)) (a, 0) p ≡ (p.0 == a)
ties-number a p = grind (arith, nat_tests)

-- a stable sort by the old numbers keeps all names
pub name_by-stable : (pairs sorted : List (ℕ × ℕ)) → IsStableByKey (λ (p : ℕ × ℕ). p.0) nat_cmp pairs sorted
    → (a : ℕ) → name_by sorted a ≡ name_by pairs a
name_by-stable pairs sorted stable a =
    let test = ties (λ (x y : ℕ × ℕ). is_lt (nat_cmp x.0 y.0)) (a, 0) in
    sym (name_by-filter test a (ties-number a) sorted)
    ∙ (ap (λ l. name_by l a) (stable (a, 0)) ∙ name_by-filter test a (ties-number a) pairs)

-- a number that no pair has stays
name_by-absent : (pairs : List (ℕ × ℕ)) (a : ℕ) → ((k : ℕ) → k < length pairs → (get_or pairs k (0, 0)).0 ≢ a)
    → name_by pairs a ≡ a
name_by-absent [] a none = refl
name_by-absent (p ∷ ps) a none =
    grind (arith, nat_tests, none 0 (omega arith), name_by-absent ps a (λ k within. none (suc k) (omega arith)))

-- the first pair that has the number names it
name_by-first : (pairs : List (ℕ × ℕ)) (a i : ℕ) → ((k : ℕ) → k < i → (get_or pairs k (0, 0)).0 ≢ a) → i < length pairs
    → (get_or pairs i (0, 0)).0 ≡ a → (get_or pairs i (0, 0)).1 ≡ name_by pairs a
name_by-first [] a i none within has = absurd (omega arith)
name_by-first (p ∷ ps) a zero none within has = grind (arith, nat_tests, has)
name_by-first (p ∷ ps) a (suc i) none within has =
    grind (arith, nat_tests, none 0 (omega arith), name_by-first ps a i (λ k below. none (suc k) (omega arith)) (omega arith) has)

module _ (pairs : List (ℕ × ℕ)) (a i : ℕ) (rises : IsNonDecreasingBy (λ (p : ℕ × ℕ). p.0) pairs)
    (point : IsPartitionPoint (λ (p : ℕ × ℕ). p.0 < a) (λ (p : ℕ × ℕ). a ≤ p.0) pairs i) where
  below : (k : ℕ) → k < i → (get_or pairs k (0, 0)).0 < a
  below k before = point.0 k (0, 0) (omega arith) before

  -- where the pair at the place has the number
  pub found_name : (x : Bor (ℕ × ℕ)) → IsItemAt pairs i (Some x) → x.now.0 ≡ a → x.now.1 ≡ name_by pairs a
  found_name x at has =
      let is = at.3.1 (0, 0) in
      ap (λ (q : ℕ × ℕ). q.1) is
      ∙ name_by-first pairs a i (λ k before. omega (arith, below k before)) at.3.0 (ap (λ (q : ℕ × ℕ). q.0) (sym is) ∙ has)

  -- where it has another one
  pub kept_name : (x : Bor (ℕ × ℕ)) → IsItemAt pairs i (Some x) → x.now.0 ≢ a → a ≡ name_by pairs a
  kept_name x at other = sym (name_by-absent pairs a none)
    where
      above : a < (get_or pairs i (0, 0)).0
      above =
          let is = ap (λ (q : ℕ × ℕ). q.0) (at.3.1 (0, 0)) in
          omega (arith, is, other, point.1 i (0, 0) (omega arith) at.3.0)

      none : (k : ℕ) → k < length pairs → (get_or pairs k (0, 0)).0 ≢ a
      none k inside =
          elim (cases_lt k i) [
            | inl before ↦ λ same. omega (arith, below k before)
            | inr after ↦ λ same. omega (arith, above, rises i k (0, 0) after inside)
          ]

  -- where there is no pair
  pub kept_past : IsItemAt pairs i None → a ≡ name_by pairs a
  kept_past past = sym (name_by-absent pairs a (λ k inside same. omega (arith, below k (omega (arith, past.3)))))
