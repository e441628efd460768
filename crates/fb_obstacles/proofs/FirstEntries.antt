-- The first few elements of a list, and where a number is in it.
use Rattle.std.proofs.Common.{◌≡◌, ◌||◌, ℕ, zero, suc, ◌<◌, ◌≤◌, ◌+◌, ◌-◌, List, [], ◌∷◌, ◌++◌, length, take, get_or, set, map, Some, None, Bool, true, false, refl, sym, ap, ◌∙◌, arith, cond, not}
use Rattle.std.specs.Prelude.{nat_eq, ◌==◌, nat_lt}
use Rattle.std.specs.List.{swap, swap_remove, position, position_or_len}
use Rattle.std.proofs.lemmas.List.{take_more_set, take-set-le, length-take-le, get_or-take, take-take}
use Rattle.std.proofs.Math.Seq.{take-set-lt}
use Rattle.std.specs.List.{AllByRecursion, IsDistinct}
use Rattle.std.proofs.lemmas.Bool.{false_from_ne_true}
use Rattle.std.proofs.lemmas.List.Elements.{All-from_recursion, All-take}
use Rattle.std.proofs.lemmas.Map.Keys.{IsDistinct-head, IsDistinct-tail}
use Rattle.fb_graph.specs.Certificate.{AreDistinct}
use Rattle.fb_graph.proofs.Sets.{is_in-All}
use Rattle.std.proofs.lemmas.List.Quantifiers.{position-Some}
use Rattle.std.proofs.lemmas.List.Sums.{position_or_len_is}
use Rattle.std.proofs.lemmas.Bool.Decides.{nat_tests}
use Rattle.std.proofs.lemmas.Grind.{common_steps}
use Rattle.std.specs.Map.{keys_of, values_of}
use Rattle.fb_graph.specs.Parity.{is_in}

pub same : (q x : ℕ) → nat_eq q x ≡ true → q ≡ x
same q x e = grind arith

-- the place that was found
pub found_at : (xs : List ℕ) (q i : ℕ) → Some i ≡ position (nat_eq q) xs
    → (i ≡ position_or_len (nat_eq q) xs) × (i < length xs) × (get_or xs i 0 ≡ q)
found_at xs q i e =
    let at = position-Some (nat_eq q) xs i 0 (sym e) in
    (sym (position_or_len_is (nat_eq q) xs i 0 (omega (arith, at.0)) at.2 (λ less. at.1)), at.0, sym (same q _ at.1))

none-some : {X : Type 0} (x : X) → Some x ≡ None → ⊥
none-some x e = cc

-- a number that isn't found has no place
pub found_nowhere : (xs : List ℕ) (q : ℕ) → None ≡ position (nat_eq q) xs → length xs ≤ position_or_len (nat_eq q) xs
found_nowhere xs q e = by (nat_lt (position_or_len (nat_eq q) xs) (length xs)) refl
  where
    by : (b : Bool) → nat_lt (position_or_len (nat_eq q) xs) (length xs) ≡ b → length xs ≤ position_or_len (nat_eq q) xs
    by true less = absurd (none-some _ (sym (ap (λ b. cond b (Some (position_or_len (nat_eq q) xs)) None) less) ∙ sym e))
    by false more = grind (arith, nat_tests)

-- a number is among the first n exactly if its place is
among_step : (x : ℕ) (xs : List ℕ) (q n : ℕ) → is_in (take n xs) q ≡ nat_lt (position_or_len (nat_eq q) xs) n
    → (b : Bool) → nat_eq q x ≡ b → is_in (take (suc n) (x ∷ xs)) q ≡ nat_lt (position_or_len (nat_eq q) (x ∷ xs)) (suc n)
among_step x xs q n rest true e =
    let here : (x == q) ≡ true = grind (arith, nat_tests) in
    let place = position_or_len (nat_eq q) xs in
    let first : nat_lt 0 (suc n) ≡ true = grind (arith, nat_tests) in
    ap (λ b. b || is_in (take n xs) q) here ∙ sym (ap (λ b. nat_lt (cond (not b) (1 + place) 0) (suc n)) e ∙ first)
among_step x xs q n rest false e =
    let other : (x == q) ≡ false = grind (arith, nat_tests) in
    let place = position_or_len (nat_eq q) xs in
    let next : nat_lt (1 + place) (suc n) ≡ nat_lt place n = grind (arith, nat_tests) in
    ap (λ b. b || is_in (take n xs) q) other
    ∙ (rest ∙ sym (ap (λ b. nat_lt (cond (not b) (1 + place) 0) (suc n)) e ∙ next))

pub among_first : (xs : List ℕ) (q n : ℕ) → n ≤ length xs → is_in (take n xs) q ≡ nat_lt (position_or_len (nat_eq q) xs) n
among_first [] q zero le = refl
among_first [] q (suc n) le = absurd (omega arith)
among_first (x ∷ xs) q zero le = grind (arith, nat_tests)
among_first (x ∷ xs) q (suc n) le = among_step x xs q n (among_first xs q n (omega arith)) (nat_eq q x) refl

-- the first few of distinct numbers
absent_first : (k : ℕ) (ks : List ℕ) (n : ℕ) → AllByRecursion (λ y. nat_eq k y ≡ false) ks → is_in (take n ks) k ≡ false
absent_first k ks n apart =
    false_from_ne_true (is_in (take n ks) k)
    (λ within.
    let differs : nat_eq k k ≡ false =
    is_in-All (λ u. nat_eq k u ≡ false) (take n ks)
    (All-take (λ u. nat_eq k u ≡ false) n ks (All-from_recursion (λ u. nat_eq k u ≡ false) ks apart)) k within in
    absurd (grind (arith, nat_tests)))

pub distinct_first : (ks : List ℕ) (n : ℕ) → IsDistinct nat_eq ks → AreDistinct (take n ks)
distinct_first [] zero distinct = tt
distinct_first [] (suc n) distinct = tt
distinct_first (k ∷ ks) zero distinct = tt
distinct_first (k ∷ ks) (suc n) distinct =
    (absent_first k ks n (IsDistinct-head nat_eq k ks distinct), distinct_first ks n (IsDistinct-tail nat_eq k ks distinct))

-- entries, as many as their keys
pub length-keys : (es : List (ℕ × ℕ)) → length (keys_of es) ≡ length es
length-keys [] = refl
length-keys (e ∷ es) = ap suc (length-keys es)

pub length-values : (es : List (ℕ × ℕ)) → length (values_of es) ≡ length es
length-values [] = refl
length-values (e ∷ es) = ap suc (length-values es)

default_same : (zs : List ℕ) (k d e : ℕ) → k < length zs → get_or zs k d ≡ get_or zs k e
default_same [] k d e less = absurd (omega arith)
default_same (z ∷ zs) zero d e less = refl
default_same (z ∷ zs) (suc k) d e less = default_same zs k d e (omega arith)

pub length-lowered : (vs : List ℕ) (k : ℕ) → length (map (λ b. b - k) vs) ≡ length vs
length-lowered [] k = refl
length-lowered (v ∷ vs) k = ap suc (length-lowered vs k)

-- the element at a place behind the first n comes to their end
pub swapped_in : {X : Type 0} (d : X) (xs : List X) (i n : ℕ) → n ≤ i → i < length xs
    → take (n + 1) (swap xs i n) ≡ take n xs ++ get_or xs i d ∷ []
swapped_in d [] i n le lt = absurd (omega arith)
swapped_in {X} d (x ∷ ys) i n le lt =
    take_more_set (set (x ∷ ys) i (get_or (x ∷ ys) n x)) n (get_or (x ∷ ys) i x) (grind (arith, common_steps))
    ∙ (ap (λ l. l ++ get_or (x ∷ ys) i x ∷ []) (take-set-le n (x ∷ ys) i (get_or (x ∷ ys) n x) le)
    ∙ ap (λ y. take n (x ∷ ys) ++ y ∷ []) (same_default (x ∷ ys) i lt))
  where
    same_default : (zs : List X) (k : ℕ) → k < length zs → get_or zs k x ≡ get_or zs k d
    same_default [] k less = absurd (omega arith)
    same_default (z ∷ zs) zero less = refl
    same_default (z ∷ zs) (suc k) less = same_default zs k (omega arith)

-- the last of the first n in the place of another of them
pub swapped_out : (xs : List ℕ) (i n : ℕ) → i < n → n ≤ length xs
    → take (n - 1) (swap xs i (n - 1)) ≡ swap_remove (take n xs) i 0
swapped_out xs i zero less most = absurd (omega arith)
swapped_out [] i (suc m) less most = absurd (omega arith)
swapped_out (x ∷ ys) i (suc m) less most =
    let count : length (take (suc m) (x ∷ ys)) ≡ suc m = length-take-le (suc m) (x ∷ ys) most in
    let last : length (take (suc m) (x ∷ ys)) - 1 ≡ m = omega (arith, count) in
    let here : get_or (take (suc m) (x ∷ ys)) m 0 ≡ get_or (x ∷ ys) m x =
    get_or-take (suc m) (x ∷ ys) m 0 (omega arith) ∙ default_same (x ∷ ys) m 0 x most in
    let front : suc m - 1 ≡ m = omega arith in
    ap (λ k. take k (swap (x ∷ ys) i k)) front
    ∙ (take-set-le m (set (x ∷ ys) i (get_or (x ∷ ys) m x)) m (get_or (x ∷ ys) i x) (omega arith)
    ∙ sym (ap (λ k. take k (set (take (suc m) (x ∷ ys)) i (get_or (take (suc m) (x ∷ ys)) k 0))) last
    ∙ (ap (λ y. take m (set (take (suc m) (x ∷ ys)) i y)) here
    ∙ (ap (take m) (sym (take-set-lt (suc m) (x ∷ ys) i (get_or (x ∷ ys) m x) less))
    ∙ take-take m (suc m) (set (x ∷ ys) i (get_or (x ∷ ys) m x)) (omega arith)))))
