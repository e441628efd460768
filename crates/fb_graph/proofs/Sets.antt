-- Sets of numbers as lists, and the edges that cross them.
use Rattle.std.proofs.Common.{ℕ, ◌+◌, ◌<◌, ◌≤◌, ◌≡◌, ◌==◌, ◌||◌, ◌&&◌, filter, Bool, true, false, List, [], ◌∷◌, length, get_or, All, zero, suc, ◌⊎◌, inl, inr, subst, cond, sum_by, count_by, le_trans, le_of_eq, lt_irrefl, refl, sym, ap, ◌∙◌, arith}
use Rattle.std.proofs.Math.Bool.{and-true, and-false}
use Rattle.std.proofs.lemmas.Bool.{eqb-true, eqb-false, eq-eqb, ne_eqb, or_cases, or_left, or_right, cond_both, false≢true, false_from_ne_true, cases_lt, cases_eq, cases_Bool}
use Rattle.std.proofs.lemmas.List.Elements.{All-head, All-tail}
use Rattle.std.proofs.lemmas.List.Folds.{list_any_at}
use Rattle.std.proofs.lemmas.List.FromFn.{length-range_with_len, get_or-range_with_len}
use Rattle.std.proofs.lemmas.List.Sums.{sum_by-cons}
use Rattle.std.specs.List.{range_with_len}
use Rattle.std.specs.List.Sorted.{IsStrictlyIncreasing}
use Rattle.fb_graph.specs.Parity.{differ, is_odd_count, is_in}
use Rattle.fb_graph.specs.Problem.{touches, crosses}
use Rattle.fb_graph.specs.Certificate.{AreDistinct}
use Rattle.fb_graph.specs.declared.parts.Edge.{Edge}
use Rattle.fb_graph.specs.Counts.{as_count}
use Rattle.fb_graph.proofs.Sums.{sum_le, sum_same, sum_ones, sum_exchange}
use Rattle.fb_graph.proofs.ParitySums.{odd_same, odd_agree, odd_exchange, odd-and, odd-differ, false-differ}

pub equal_sym : (j k : ℕ) → (j == k) ≡ (k == j)
equal_sym j k = step (k == j) refl
  where
    step : (b : Bool) → (k == j) ≡ b → (j == k) ≡ b
    step true e = eq-eqb j k (sym (eqb-true k j e))
    step false e = ne_eqb j k (λ same. eqb-false k j e (sym same))

-- a number occurs an odd number of times in a distinct list if and only if it occurs at all
pub odd_equal : (vs : List ℕ) (v : ℕ) → AreDistinct vs → is_odd_count (λ u. u == v) vs ≡ is_in vs v
odd_equal [] v distinct = refl
odd_equal (w ∷ vs) v distinct = step (w == v) refl (odd_equal vs v distinct.1)
  where
    here : (a b : Bool) → a ≡ false → b ≡ a → differ true b ≡ (true || a)
    here a b e f = ap (differ true) (f ∙ e)

    there : (a b : Bool) → b ≡ a → differ false b ≡ (false || a)
    there true b f = ap (differ false) f
    there false b f = ap (differ false) f

    step : (t : Bool) → (w == v) ≡ t → is_odd_count (λ u. u == v) vs ≡ is_in vs v
        → differ (w == v) (is_odd_count (λ u. u == v) vs) ≡ ((w == v) || is_in vs v)
    step true e ih =
        rw e (here (is_in vs v) (is_odd_count (λ u. u == v) vs) (ap (is_in vs) (sym (eqb-true w v e)) ∙ distinct.0) ih)
    step false e ih = rw e (there (is_in vs v) (is_odd_count (λ u. u == v) vs) ih)

-- and once exactly there
pub count_equal : (vs : List ℕ) (v : ℕ) → AreDistinct vs → count_by (λ u. u == v) vs ≡ as_count (is_in vs v)
count_equal [] v distinct = refl
count_equal (w ∷ vs) v distinct = step (w == v) refl (count_equal vs v distinct.1)
  where
    one : ℕ → ℕ
    one u = as_count (u == v)

    absent : (w == v) ≡ true → as_count (is_in vs v) ≡ 0
    absent e = ap as_count (ap (is_in vs) (sym (eqb-true w v e)) ∙ distinct.0)

    step : (t : Bool) → (w == v) ≡ t → count_by (λ u. u == v) vs ≡ as_count (is_in vs v)
        → count_by (λ u. u == v) (w ∷ vs) ≡ as_count ((w == v) || is_in vs v)
    step true e ih =
        sum_by-cons one w vs
        ∙ omega (arith, ap as_count e, ap (λ b. as_count (b || is_in vs v)) e, ih, absent e)
    step false e ih =
        sum_by-cons one w vs ∙ omega (arith, ap as_count e, ap (λ b. as_count (b || is_in vs v)) e, ih)

pub count_equal-le : (vs : List ℕ) (v : ℕ) → AreDistinct vs → count_by (λ u. u == v) vs ≤ 1
count_equal-le vs v distinct =
    le_trans (le_of_eq (count_equal vs v distinct))
    (cond_both {A = ℕ} (is_in vs v) 1 0 (λ x. x ≤ 1) (λ e. omega arith) (λ e. omega arith))

-- an edge crosses a set if and only if it touches an odd number of the set's members
pub crosses_as_touches : (set : List ℕ) (e : Edge) → AreDistinct set
    → crosses set e ≡ is_odd_count (λ v. touches v e) set
crosses_as_touches set e distinct =
    sym (odd-differ (λ v. v == e.first) (λ v. v == e.second) set
    ∙ (ap (λ a. differ a (is_odd_count (λ v. v == e.second) set)) (odd_equal set e.first distinct)
    ∙ ap (differ (is_in set e.first)) (odd_equal set e.second distinct)))

-- each entry of a list is in it
pub is_in_at : (set : List ℕ) (k d : ℕ) → k < length set → is_in set (get_or set k d) ≡ true
is_in_at set k d less = list_any_at (λ u. u == get_or set k d) set k d less (eq-eqb _ _ refl)

pub All-from_is_in : (P : ℕ → Type 0) (set : List ℕ) → ((v : ℕ) → is_in set v ≡ true → P v) → All P set
All-from_is_in P set each k d less = each (get_or set k d) (is_in_at set k d less)

pub is_in-cases : (w : ℕ) (ws : List ℕ) (v : ℕ) → is_in (w ∷ ws) v ≡ true → (w ≡ v) ⊎ (is_in ws v ≡ true)
is_in-cases w ws v h = elim (or_cases (w == v) (is_in ws v) h) [ inl e ↦ inl (eqb-true w v e) | inr e ↦ inr e ]

pub is_in-head : (w : ℕ) (ws : List ℕ) → is_in (w ∷ ws) w ≡ true
is_in-head w ws = or_left (w == w) (is_in ws w) (eq-eqb w w refl)

pub is_in-tail : (w : ℕ) (ws : List ℕ) (v : ℕ) → is_in ws v ≡ true → is_in (w ∷ ws) v ≡ true
is_in-tail w ws v h = or_right (w == v) (is_in ws v) h

pub is_in-All : (P : ℕ → Type 0) (set : List ℕ) → All P set → (v : ℕ) → is_in set v ≡ true → P v
is_in-All P [] all v h = absurd (false≢true h)
is_in-All P (w ∷ ws) all v h = step (is_in-cases w ws v h) (is_in-All P ws (All-tail P w ws all) v)
  where
    step : (w ≡ v) ⊎ (is_in ws v ≡ true) → (is_in ws v ≡ true → P v) → P v
    step (inl e) rest = subst P e (All-head P w ws all)
    step (inr e) rest = rest e

-- an odd number of members that pass the test is at least one
pub member_of_odd : (test : ℕ → Bool) (set : List ℕ) → is_odd_count test set ≡ true
    → (v : ℕ) × (is_in set v ≡ true) × (test v ≡ true)
member_of_odd test [] odd = absurd (false≢true odd)
member_of_odd test (w ∷ ws) odd = step (test w) refl (member_of_odd test ws)
  where
    step : (b : Bool) → test w ≡ b
        → (is_odd_count test ws ≡ true → (v : ℕ) × (is_in ws v ≡ true) × (test v ≡ true))
        → (v : ℕ) × (is_in (w ∷ ws) v ≡ true) × (test v ≡ true)
    step true e rest = (w, is_in-head w ws, e)
    step false e rest =
        let (v, within, passes) =
        rest (sym (false-differ (is_odd_count test ws)) ∙ (ap (λ b. differ b (is_odd_count test ws)) (sym e) ∙ odd)) in
        (v, is_in-tail w ws v within, passes)

-- the least member of a set that isn't empty
pub least_member : (set : List ℕ) (v : ℕ) → is_in set v ≡ true
    → (m : ℕ) × (is_in set m ≡ true) × ((u : ℕ) → is_in set u ≡ true → m ≤ u)
least_member [] v within = absurd (false≢true within)
least_member (w ∷ []) v within = (w, is_in-head w [], λ u h. le_of_eq (only u (is_in-cases w [] u h)))
  where
    only : (u : ℕ) → (w ≡ u) ⊎ (is_in [] u ≡ true) → w ≡ u
    only u (inl e) = e
    only u (inr e) = absurd (false≢true e)
least_member (w ∷ x ∷ xs) v within = step (least_member (x ∷ xs) x (is_in-head x xs))
  where
    pick : (m : ℕ) → is_in (x ∷ xs) m ≡ true → ((u : ℕ) → is_in (x ∷ xs) u ≡ true → m ≤ u) → (w < m) ⊎ (m ≤ w)
        → (m : ℕ) × (is_in (w ∷ x ∷ xs) m ≡ true) × ((u : ℕ) → is_in (w ∷ x ∷ xs) u ≡ true → m ≤ u)
    pick m in' least (inl less) = (w, is_in-head w (x ∷ xs), λ u h. bound u (is_in-cases w (x ∷ xs) u h))
      where
        bound : (u : ℕ) → (w ≡ u) ⊎ (is_in (x ∷ xs) u ≡ true) → w ≤ u
        bound u (inl e) = le_of_eq e
        bound u (inr e) = let f : m ≤ u = least u e in omega arith
    pick m in' least (inr more) = (m, is_in-tail w (x ∷ xs) m in', λ u h. bound u (is_in-cases w (x ∷ xs) u h))
      where
        bound : (u : ℕ) → (w ≡ u) ⊎ (is_in (x ∷ xs) u ≡ true) → m ≤ u
        bound u (inl e) = omega arith
        bound u (inr e) = least u e

    step : (m : ℕ) × (is_in (x ∷ xs) m ≡ true) × ((u : ℕ) → is_in (x ∷ xs) u ≡ true → m ≤ u)
        → (m : ℕ) × (is_in (w ∷ x ∷ xs) m ≡ true) × ((u : ℕ) → is_in (w ∷ x ∷ xs) u ≡ true → m ≤ u)
    step (m, in', least) = pick m in' least (cases_lt w m)

-- rising lists, from the front
pub rising-nil : IsStrictlyIncreasing []
rising-nil k less = absurd (omega arith)

pub rising-one : (v : ℕ) → IsStrictlyIncreasing (v ∷ [])
rising-one v k less = absurd (omega arith)

pub rising-cons : (v w : ℕ) (ws : List ℕ) → v < w → IsStrictlyIncreasing (w ∷ ws) → IsStrictlyIncreasing (v ∷ w ∷ ws)
rising-cons v w ws before rising zero less = before
rising-cons v w ws before rising (suc k) less =
    let e : suc k + 1 ≡ suc (k + 1) = omega arith in
    rw e (rising k (omega arith))

pub rising-tail : (v : ℕ) (ws : List ℕ) → IsStrictlyIncreasing (v ∷ ws) → IsStrictlyIncreasing ws
rising-tail v ws rising k less =
    let e : suc k + 1 ≡ suc (k + 1) = omega arith in
    rw e at (rising (suc k) (omega arith))

-- what follows the first entry of a rising list is above it
pub rising_above : (v : ℕ) (ws : List ℕ) → IsStrictlyIncreasing (v ∷ ws) → (u : ℕ) → is_in ws u ≡ true → v < u
rising_above v [] rising u within = absurd (false≢true within)
rising_above v (w ∷ ws) rising u within =
    step (is_in-cases w ws u within) (rising_above w ws (rising-tail v (w ∷ ws) rising) u)
  where
    first : v < w
    first = rising 0 (omega arith)

    step : (w ≡ u) ⊎ (is_in ws u ≡ true) → (is_in ws u ≡ true → w < u) → v < u
    step (inl e) rest = omega (arith, first)
    step (inr e) rest = omega (arith, first, rest e)

pub distinct_from_rising : (vs : List ℕ) → IsStrictlyIncreasing vs → AreDistinct vs
distinct_from_rising [] rising = tt
distinct_from_rising (v ∷ vs) rising = (
  false_from_ne_true (is_in vs v) (λ within. lt_irrefl v (rising_above v vs rising v within)),
  distinct_from_rising vs (rising-tail v vs rising),
)

pub range_rises : (a n : ℕ) → IsStrictlyIncreasing (range_with_len a n)
range_rises a n k less =
    let after : k + 1 < n = omega (arith, length-range_with_len a n) in
    omega (arith, get_or-range_with_len a n k 0 (omega arith), get_or-range_with_len a n (k + 1) 0 after)

pub range_below : (n : ℕ) → All (λ k. k < n) (range_with_len 0 n)
range_below n k d less =
    let below : k < n = omega (arith, length-range_with_len 0 n) in
    omega (arith, get_or-range_with_len 0 n k d below)

pub is_in-range : (n v : ℕ) → v < n → is_in (range_with_len 0 n) v ≡ true
is_in-range n v below =
    let at_v : get_or (range_with_len 0 n) v 0 ≡ v = omega (arith, get_or-range_with_len 0 n v 0 below) in
    ap (is_in (range_with_len 0 n)) (sym at_v)
    ∙ is_in_at (range_with_len 0 n) v 0 (omega (arith, length-range_with_len 0 n))

-- distinct sets that are met by a test in the members that they share
pub odd_meet : (test : ℕ → Bool) (xs ys : List ℕ) → AreDistinct xs → AreDistinct ys
    → is_odd_count (λ x. test x && is_in ys x) xs ≡ is_odd_count (λ y. test y && is_in xs y) ys
odd_meet test xs ys first second =
    odd_same (λ x. test x && is_in ys x) (λ x. is_odd_count (λ y. test x && (y == x)) ys)
    (λ x. ap (λ b. test x && b) (sym (odd_equal ys x second)) ∙ sym (odd-and (test x) (λ y. y == x) ys)) xs
    ∙ (odd_exchange (λ x y. test x && (y == x)) xs ys
    ∙ odd_same (λ y. is_odd_count (λ x. test x && (y == x)) xs) (λ y. test y && is_in xs y)
    (λ y. odd_same (λ x. test x && (y == x)) (λ x. test y && (x == y)) (λ x. swapped x y) xs
    ∙ (odd-and (test y) (λ x. x == y) xs ∙ ap (λ b. test y && b) (odd_equal xs y first))) ys)
  where
    swapped : (x y : ℕ) → (test x && (y == x)) ≡ (test y && (x == y))
    swapped x y = step (y == x) refl
      where
        step : (b : Bool) → (y == x) ≡ b → (test x && (y == x)) ≡ (test y && (x == y))
        step true e =
            let same : x ≡ y = sym (eqb-true y x e) in
            ap (λ z. test z && (y == z)) same ∙ ap (λ z. test y && (z == y)) (sym same)
        step false e =
            ap (λ b. test x && b) e
            ∙ (and-false (test x) ∙ (sym (and-false (test y)) ∙ ap (λ b. test y && b) (sym (equal_sym x y ∙ e))))

-- distinct lists with the same members have the same parity for every test
pub odd_same_set : (test : ℕ → Bool) (xs ys : List ℕ) → AreDistinct xs → AreDistinct ys
    → ((v : ℕ) → is_in xs v ≡ is_in ys v) → is_odd_count test xs ≡ is_odd_count test ys
odd_same_set test xs ys first second same =
    sym (inside xs ys (λ v h. sym (same v) ∙ h))
    ∙ (odd_meet test xs ys first second ∙ inside ys xs (λ v h. same v ∙ h))
  where
    inside : (us vs : List ℕ) → ((v : ℕ) → is_in us v ≡ true → is_in vs v ≡ true)
        → is_odd_count (λ u. test u && is_in vs u) us ≡ is_odd_count test us
    inside us vs within =
        odd_agree (λ u. test u && is_in vs u) test us
        (λ k d less.
        ap (λ b. test (get_or us k d) && b) (within (get_or us k d) (is_in_at us k d less))
        ∙ and-true (test (get_or us k d)))

-- a distinct list whose members are all in another distinct one is no longer than it
pub length-le_from_within : (xs ys : List ℕ) → AreDistinct xs → AreDistinct ys
    → ((v : ℕ) → is_in xs v ≡ true → is_in ys v ≡ true) → length xs ≤ length ys
length-le_from_within xs ys first second within =
    le_trans (le_of_eq (sym (sum_ones xs)))
    (le_trans
    (sum_le (λ x. 1) (λ x. sum_by (λ y. as_count (y == x)) ys) xs
    (λ k d less. le_of_eq (sym (count_equal ys (get_or xs k d) second
    ∙ ap as_count (within (get_or xs k d) (is_in_at xs k d less))))))
    (le_trans (le_of_eq (sum_exchange (λ x y. as_count (y == x)) xs ys))
    (le_trans
    (sum_le (λ y. sum_by (λ x. as_count (y == x)) xs) (λ y. 1) ys (λ k d less. each (get_or ys k d)))
    (le_of_eq (sum_ones ys)))))
  where
    each : (y : ℕ) → sum_by (λ x. as_count (y == x)) xs ≤ 1
    each y =
        le_trans
        (le_of_eq
        (sum_same (λ x. as_count (y == x)) (λ x. as_count (x == y)) xs
        (λ k d less. ap as_count (equal_sym y (get_or xs k d)))))
        (count_equal-le xs y first)

pub is_in-filter : (test : ℕ → Bool) (xs : List ℕ) (v : ℕ) → is_in (filter test xs) v ≡ (is_in xs v && test v)
is_in-filter test [] v = refl
is_in-filter test (x ∷ xs) v = step (test x) refl (is_in-filter test xs v)
  where
    kept : (a i t : Bool) → (a ≡ true → t ≡ true) → (a || (i && t)) ≡ ((a || i) && t)
    kept true i true h = refl
    kept true i false h = absurd (false≢true (h refl))
    kept false i t h = refl

    dropped : (a i t : Bool) → (a ≡ true → t ≡ false) → (i && t) ≡ ((a || i) && t)
    dropped true i true h = absurd (false≢true (sym (h refl)))
    dropped true i false h = and-false i
    dropped false i t h = refl

    step : (b : Bool) → test x ≡ b → is_in (filter test xs) v ≡ (is_in xs v && test v)
        → is_in (cond b (x ∷ filter test xs) (filter test xs)) v ≡ (((x == v) || is_in xs v) && test v)
    step true e ih =
        ap (λ b. (x == v) || b) ih
        ∙ kept (x == v) (is_in xs v) (test v) (λ h. ap test (sym (eqb-true x v h)) ∙ e)
    step false e ih =
        ih ∙ dropped (x == v) (is_in xs v) (test v) (λ h. ap test (sym (eqb-true x v h)) ∙ e)

pub distinct-filter : (test : ℕ → Bool) (xs : List ℕ) → AreDistinct xs → AreDistinct (filter test xs)
distinct-filter test [] distinct = tt
distinct-filter test (x ∷ xs) distinct = step (test x) (distinct-filter test xs distinct.1)
  where
    step : (b : Bool) → AreDistinct (filter test xs) → AreDistinct (cond b (x ∷ filter test xs) (filter test xs))
    step true ih = (is_in-filter test xs x ∙ ap (λ b. b && test x) distinct.0, ih)
    step false ih = ih

-- of two distinct lists, as many members of the one stand in the other as the other way round
pub odd_shared : (xs ys : List ℕ) → AreDistinct xs → AreDistinct ys
    → is_odd_count (is_in ys) xs ≡ is_odd_count (is_in xs) ys
odd_shared xs ys first second = odd_meet (λ x. true) xs ys first second

-- strictly rising lists with the same members are the same
pub rising_same : (xs ys : List ℕ) → IsStrictlyIncreasing xs → IsStrictlyIncreasing ys → ((v : ℕ) → is_in xs v ≡ is_in ys v) → xs ≡ ys
rising_same [] [] rx ry same = refl
rising_same [] (y ∷ ys) rx ry same = absurd (let here = is_in-head y ys in let none = same y in cc)
rising_same (x ∷ xs) [] rx ry same = absurd (let here = is_in-head x xs in let none = same x in cc)
rising_same (x ∷ xs) (y ∷ ys) rx ry same = elim (cases_eq x y) [
  | inl e ↦ ap (λ (v : ℕ). v ∷ xs) e ∙ ap (λ (l : List ℕ). y ∷ l) (rising_same xs ys (rising-tail x xs rx) (rising-tail y ys ry) (tails x y xs ys rx ry e same))
  | inr other ↦ absurd (
      let under : y < x = above y ys x ry (sym (same x) ∙ is_in-head x xs) (λ (z : y ≡ x). other (sym z)) in
      let over : x < y = above x xs y rx (same y ∙ is_in-head y ys) other in
      omega arith)
]
  where
    above : (x : ℕ) (xs : List ℕ) (v : ℕ) → IsStrictlyIncreasing (x ∷ xs) → is_in (x ∷ xs) v ≡ true → (x ≡ v → ⊥) → x < v
    above x xs v rises held other = elim (is_in-cases x xs v held) [
      | inl here ↦ absurd (other here)
      | inr later ↦ rising_above x xs rises v later
    ]

    not_head : (x : ℕ) (xs : List ℕ) → IsStrictlyIncreasing (x ∷ xs) → is_in xs x ≡ false
    not_head x xs rises = elim (cases_Bool (is_in xs x)) [
      | inl held ↦ absurd (omega (arith, rising_above x xs rises x held))
      | inr none ↦ none
    ]

    tails : (x y : ℕ) (xs ys : List ℕ) → IsStrictlyIncreasing (x ∷ xs) → IsStrictlyIncreasing (y ∷ ys) → x ≡ y → ((v : ℕ) → is_in (x ∷ xs) v ≡ is_in (y ∷ ys) v) → (v : ℕ) → is_in xs v ≡ is_in ys v
    tails x y xs ys rx ry e same v = elim (cases_eq x v) [
      | inl here ↦ subst (λ (u : ℕ). is_in xs u ≡ false) here (not_head x xs rx) ∙ sym (subst (λ (u : ℕ). is_in ys u ≡ false) (sym e ∙ here) (not_head y ys ry))
      | inr other ↦
          let left : is_in (x ∷ xs) v ≡ is_in xs v = ap (λ (b : Bool). b || is_in xs v) (ne_eqb x v other) in
          let right : is_in (y ∷ ys) v ≡ is_in ys v = ap (λ (b : Bool). b || is_in ys v) (ne_eqb y v (λ (z : y ≡ v). other (e ∙ z))) in
          sym left ∙ same v ∙ right
    ]
