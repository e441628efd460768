-- Entries of which one is brought to the end of the first few.
use Rattle.std.proofs.Common.{◌≡◌, ◌||◌, ℕ, zero, suc, ◌<◌, ◌≤◌, ◌+◌, List, [], ◌∷◌, ◌++◌, length, length-append, take, get_or, set, map, Some, None, Bool, true, false, refl, sym, ap, subst, ◌∙◌, arith, cond, true≢false, All, if◌then◌else◌}
use Rattle.std.specs.Prelude.{nat_eq, nat_lt}
use Rattle.std.specs.List.{swap, list_any, IsDistinct}
use Rattle.std.specs.Cmp.{IsEquivalence}
use Rattle.std.specs.Map.{keys_of, values_of, lookup}
use Rattle.std.proofs.lemmas.List.{take-append-le, take-map, take-set-le, length-set, get_or-set_same}
use Rattle.std.proofs.lemmas.List.Elements.{All-push, All-set}
use Rattle.std.proofs.lemmas.List.Sorted.{All-permutation, IsPermutation-swap}
use Rattle.std.proofs.lemmas.Map.Steps.{length-le_from_distinct_below}
use Rattle.std.proofs.lemmas.Map.Keys.{IsDistinct-push}
use Rattle.std.proofs.lemmas.Bool.Decides.{nat_tests}
use Rattle.indexmap.specs.IndexMap.{set_value_at}
use Rattle.indexmap.proofs.ReorderLemmas.{map-swap}
use Rattle.fb_obstacles.proofs.FirstEntries.{length-keys, length-values, same, swapped_in}

same_numbers : IsEquivalence nat_eq
same_numbers = record { refl = λ x. grind (arith, nat_tests); symm = λ x y. grind (arith, nat_tests); congr = λ x y z e. grind (arith, nat_tests) }

none-some : {X : Type 0} (x : X) → Some x ≡ None → ⊥
none-some x e = cc

-- a number that no key is
absent_step : (e : ℕ × ℕ) (es : List (ℕ × ℕ)) (q : ℕ) → (lookup (nat_eq q) es ≡ None → list_any (nat_eq q) (keys_of es) ≡ false)
    → (b : Bool) → nat_eq q e.0 ≡ b → cond b (Some e.1) (lookup (nat_eq q) es) ≡ None → (b || list_any (nat_eq q) (keys_of es)) ≡ false
absent_step e es q rest true is none = absurd (none-some e.1 none)
absent_step e es q rest false is none = rest none

pub absent_key : (es : List (ℕ × ℕ)) (q : ℕ) → lookup (nat_eq q) es ≡ None → list_any (nat_eq q) (keys_of es) ≡ false
absent_key [] q none = refl
absent_key (e ∷ es) q none = absent_step e es q (absent_key es q) (nat_eq q e.0) refl none

below_step : (k : ℕ) (ks : List ℕ) (n q : ℕ) → k < n → (list_any (nat_eq q) ks ≡ true → q < n) → (b : Bool) → nat_eq q k ≡ b
    → (b || list_any (nat_eq q) ks) ≡ true → q < n
below_step k ks n q here rest true is any = subst (λ x. x < n) (sym (same q k is)) here
below_step k ks n q here rest false is any = rest any

pub list_below : (ks : List ℕ) (n q : ℕ) → All (λ k. k < n) ks → list_any (nat_eq q) ks ≡ true → q < n
list_below [] n q all any = absurd (true≢false (sym any))
list_below (k ∷ ks) n q all any =
    below_step k ks n q (all 0 0 (omega arith)) (list_below ks n q (λ i d less. all (suc i) d (omega arith))) (nat_eq q k) refl any

-- keys below n that lack one number are fewer
pub fewer_keys : (es : List (ℕ × ℕ)) (n q : ℕ) → IsDistinct nat_eq (keys_of es) → All (λ k. k < n) (keys_of es) → q < n
    → lookup (nat_eq q) es ≡ None → length es < n
fewer_keys es n q distinct all less none =
    let absent = absent_key es q none in
    let more : All (λ k. k < n) (keys_of es ++ q ∷ []) = All-push (λ k. k < n) (keys_of es) q all less in
    omega (
      arith,
      length-le_from_distinct_below (keys_of es ++ q ∷ []) n (IsDistinct-push same_numbers (keys_of es) q distinct absent)
          (λ k any. list_below (keys_of es ++ q ∷ []) n k more any),
      length-append (keys_of es) (q ∷ []),
      length-keys es,
    )

pub values_set_value_at : (es : List (ℕ × ℕ)) (i w : ℕ) → values_of (set_value_at es i w) ≡ set (values_of es) i w
values_set_value_at [] i w = refl
values_set_value_at (e ∷ es) zero w = refl
values_set_value_at (e ∷ es) (suc i) w = ap (λ l. e.1 ∷ l) (values_set_value_at es i w)

keys_set_value_at : (es : List (ℕ × ℕ)) (i w : ℕ) → keys_of (set_value_at es i w) ≡ keys_of es
keys_set_value_at [] i w = refl
keys_set_value_at (e ∷ es) zero w = refl
keys_set_value_at (e ∷ es) (suc i) w = ap (λ l. e.0 ∷ l) (keys_set_value_at es i w)

pub keys_push : (es : List (ℕ × ℕ)) (q : ℕ) → keys_of (es ++ (q, 0) ∷ []) ≡ keys_of es ++ q ∷ []
keys_push [] q = refl
keys_push (e ∷ es) q = ap (λ l. e.0 ∷ l) (keys_push es q)

values_push : (es : List (ℕ × ℕ)) (q : ℕ) → values_of (es ++ (q, 0) ∷ []) ≡ values_of es ++ 0 ∷ []
values_push [] q = refl
values_push (e ∷ es) q = ap (λ l. e.1 ∷ l) (values_push es q)

-- the entries before place p are as they were, whether or not one was put at the end
module _ (es more last : List (ℕ × ℕ)) (p q n b : ℕ) (grown : more ≡ (if nat_lt p (length es) then es else es ++ (q, 0) ∷ []))
    (brought : last ≡ swap (set_value_at more p b) p n) (behind : n ≤ p) (within : p < length more) (most : n ≤ length es) where
  first_same : take n more ≡ take n es
  first_same = by (nat_lt p (length es)) grown
    where
      by : (t : Bool) → more ≡ (if t then es else es ++ (q, 0) ∷ []) → take n more ≡ take n es
      by true e = ap (take n) e
      by false e = ap (take n) e ∙ take-append-le n es ((q, 0) ∷ []) most

  keys_last : keys_of last ≡ swap (keys_of more) p n
  keys_last = ap keys_of brought ∙ (map-swap (λ e. e.0) (set_value_at more p b) p n ∙ ap (λ ks. swap ks p n) (keys_set_value_at more p b))

  values_last : values_of last ≡ swap (set (values_of more) p b) p n
  values_last =
      ap values_of brought ∙ (map-swap (λ e. e.1) (set_value_at more p b) p n ∙ ap (λ vs. swap vs p n) (values_set_value_at more p b))

  pub keys_brought : get_or (keys_of more) p 0 ≡ q → take (n + 1) (keys_of last) ≡ take n (keys_of es) ++ q ∷ []
  keys_brought found =
      ap (take (n + 1)) keys_last
      ∙ (swapped_in 0 (keys_of more) p n behind (omega (arith, within, length-keys more))
      ∙ ((λ j. take-map (λ e. e.0) n more j ++ found j ∷ [])
      ∙ (ap (λ l. map (λ e. e.0) l ++ q ∷ []) first_same ∙ ap (λ l. l ++ q ∷ []) (sym (take-map (λ e. e.0) n es)))))

  pub values_brought : take (n + 1) (values_of last) ≡ take n (values_of es) ++ b ∷ []
  values_brought =
      ap (take (n + 1)) values_last
      ∙ (swapped_in 0 (set (values_of more) p b) p n behind (omega (arith, within, length-values more, length-set (values_of more) p b))
      ∙ ((λ j. take-set-le n (values_of more) p b behind j
      ++ get_or-set_same (values_of more) p b 0 (omega (arith, within, length-values more)) j ∷ [])
      ∙ (ap (λ l. l ++ b ∷ []) (take-map (λ e. e.1) n more)
      ∙ (ap (λ l. map (λ e. e.1) l ++ b ∷ []) first_same ∙ ap (λ l. l ++ b ∷ []) (sym (take-map (λ e. e.1) n es))))))

  pub below_brought : (m : ℕ) → All (λ k. k < m) (keys_of es) → q < m → All (λ k. k < m) (keys_of last)
  below_brought m all less = by (nat_lt p (length es)) grown
    where
      moved : All (λ k. k < m) (keys_of more) → All (λ k. k < m) (keys_of last)
      moved =
          All-permutation (λ k. k < m) (keys_of more) (keys_of last)
          (IsPermutation-swap (keys_of more) (keys_of last) p n (omega (arith, within, length-keys more))
          (omega (arith, within, behind, length-keys more)) keys_last)

      by : (t : Bool) → more ≡ (if t then es else es ++ (q, 0) ∷ []) → All (λ k. k < m) (keys_of last)
      by true e = moved (subst (λ l. All (λ k. k < m) (keys_of l)) (sym e) all)
      by false e = moved (subst (λ l. All (λ k. k < m) (keys_of l)) (sym e)
          (subst (λ l. All (λ k. k < m) l) (sym (keys_push es q)) (All-push (λ k. k < m) (keys_of es) q all less)))

  pub small_brought : (m : ℕ) → All (λ v. v < m) (values_of es) → b < m → All (λ v. v < m) (values_of last)
  small_brought m all less = by (nat_lt p (length es)) grown
    where
      moved : All (λ v. v < m) (values_of more) → All (λ v. v < m) (values_of last)
      moved before =
          All-permutation (λ v. v < m) (set (values_of more) p b) (values_of last)
          (IsPermutation-swap (set (values_of more) p b) (values_of last) p n
          (omega (arith, within, length-values more, length-set (values_of more) p b))
          (omega (arith, within, behind, length-values more, length-set (values_of more) p b)) values_last)
          (All-set (λ v. v < m) (values_of more) p b less before)

      by : (t : Bool) → more ≡ (if t then es else es ++ (q, 0) ∷ []) → All (λ v. v < m) (values_of last)
      by true e = moved (subst (λ l. All (λ v. v < m) (values_of l)) (sym e) all)
      by false e = moved (subst (λ l. All (λ v. v < m) (values_of l)) (sym e)
          (subst (λ l. All (λ v. v < m) l) (sym (values_push es q)) (All-push (λ v. v < m) (values_of es) 0 all (omega (arith, less)))))
