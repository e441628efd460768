-- Numbers that are stored in a list, with the place of each.
use Rattle.std.proofs.Common.{ℕ, zero, suc, ◌≡◌, ◌+◌, ◌-◌, ◌≤◌, ◌<◌, ◌^◌, ◌==◌, ◌&&◌, ◌⊎◌, inl, inr, Bool, true, false, not, ◌||◌, sum_by, subst, List, [], ◌∷◌, ◌++◌, length, length-append, get_or, set, All, refl, sym, ap, ◌∙◌, arith}
use Rattle.std.proofs.Math.Bool.{and-true, and-false}
use Rattle.std.proofs.lemmas.Bool.{both_ways, cases_eq, cases_lt, eq-eqb, eqb-true, false_from_ne_true}
use Rattle.std.proofs.lemmas.List.{get_or-set_same, get_or-set_other, get_or-take, get_or_append_left, get_or_default, get_or_push, length-set, length-take-le}
use Rattle.std.proofs.lemmas.List.Elements.{All-from_get_or, All-push}
use Rattle.std.specs.List.{range_with_len, swap_remove}
use Rattle.std.specs.List.Sorted.{IsPermutation}
use Rattle.std.proofs.lemmas.List.FromFn.{length-range_with_len}
use Rattle.std.proofs.lemmas.List.Sorted.{IsPermutation-swap_remove, list_any-IsPermutation, sum_by_popped}
use Rattle.std.proofs.lemmas.List.Sums.{get_or-le-sum_by}
use Rattle.std.proofs.lemmas.Grind.{get_or_default_zero}
use Rattle.fb_graph.specs.Parity.{is_in}
use Rattle.fb_graph.specs.Certificate.{AreDistinct}
use Rattle.fb_graph.specs.Counts.{as_count}
use Rattle.fb_graph.proofs.Sets.{count_equal-le, equal_sym, is_in-All, is_in_at, is_in-range, length-le_from_within, distinct_from_rising, range_rises}
use Rattle.fb_regions.specs.InternalSparse.{IsStored}

-- a list is distinct whose members have its places, counted from c on
pub distinct_from_places : (place : ℕ → ℕ) (c : ℕ) (xs : List ℕ)
    → ((i : ℕ) → i < length xs → place (get_or xs i 0) ≡ i + c) → AreDistinct xs
distinct_from_places place c [] at = tt
distinct_from_places place c (x ∷ xs) at = (
  false_from_ne_true (is_in xs x)
      (λ within.
      let later : c < place x = is_in-All (λ u. c < place u) xs
      (All-from_get_or (λ u. c < place u) xs 0 (λ i less. let h = at (suc i) (omega arith) in omega (arith, h))) x within in
      let first : place x ≡ 0 + c = at 0 (omega arith) in
      absurd (omega arith)),
  distinct_from_places place (c + 1) xs (λ i less. let h = at (suc i) (omega arith) in omega (arith, h)),
)

-- distinct numbers below n that lack one of them are fewer
pub fewer_than_all : (xs : List ℕ) (n e : ℕ) → AreDistinct xs → All (λ k. k < n) xs → e < n → is_in xs e ≡ false
    → length xs < n
fewer_than_all xs n e distinct below within absent =
    omega (
      arith,
      length-le_from_within (e ∷ xs) (range_with_len 0 n) (absent, distinct) (distinct_from_rising (range_with_len 0 n) (range_rises 0 n))
          (λ v inside. is_in-range n v
          (is_in-All (λ k. k < n) (e ∷ xs) (All-from_get_or (λ k. k < n) (e ∷ xs) 0 each) v inside)),
      length-range_with_len 0 n,
    )
  where
    each : (i : ℕ) → i < length (e ∷ xs) → get_or (e ∷ xs) i 0 < n
    each zero less = within
    each (suc i) less = below i 0 (omega arith)

-- a number that is taken out of a distinct list stands in the rest no more
pub absent_rest : (x : ℕ) (xs ys : List ℕ) → AreDistinct xs → IsPermutation xs (x ∷ ys) → is_in ys x ≡ false
absent_rest x xs ys distinct moved =
    false_from_ne_true (is_in ys x)
    (λ within.
    both_ways (x == x)
    (is_in-All (λ u. (u == x) ≡ false) ys
    (λ i d less.
    false_from_ne_true (get_or ys i d == x)
    (λ same.
    let part : one (get_or ys i d) ≤ sum_by one ys = get_or-le-sum_by one ys i d less in
    let count : sum_by one ys + one x ≡ sum_by one xs = sum_by_popped one x xs ys moved in
    let few : sum_by one xs ≤ 1 = count_equal-le xs x distinct in
    absurd (omega (arith, part, count, few, ap as_count same, ap as_count (eq-eqb x x refl)))))
    x within)
    (eq-eqb x x refl))
  where
    one : ℕ → ℕ
    one u = as_count (u == x)

-- which numbers are left when one is taken out of a distinct list
pub is_in_removed : (xs : List ℕ) (i x : ℕ) → i < length xs → get_or xs i 0 ≡ x → AreDistinct xs
    → (e : ℕ) → is_in (swap_remove xs i x) e ≡ (is_in xs e && not (e == x))
is_in_removed xs i x less at distinct e =
    step (is_in xs e) (e == x) refl
    (ap (λ b. b || is_in (swap_remove xs i x) e) (equal_sym e x) ∙ sym (list_any-IsPermutation (λ u. u == e) xs (x ∷ swap_remove xs i x) moved))
  where
    moved : IsPermutation xs (x ∷ swap_remove xs i x)
    moved = IsPermutation-swap_remove xs i x less (sym at ∙ sym (get_or_default_zero xs i x less))

    step : (whole same : Bool) → (e == x) ≡ same → (same || is_in (swap_remove xs i x) e) ≡ whole
        → is_in (swap_remove xs i x) e ≡ (whole && not same)
    step whole true is all =
        let same : x ≡ e = sym (eqb-true e x is) in
        ap (is_in (swap_remove xs i x)) (sym same) ∙ (absent_rest x xs (swap_remove xs i x) distinct moved ∙ sym (and-false whole))
    step whole false is all = all ∙ sym (and-true whole)

-- the same of what is left by a call that gives the number back
pub is_in_taken : (xs rest : List ℕ) (i taken x : ℕ) → i < length xs → get_or xs i 0 ≡ x → AreDistinct xs
    → taken ≡ get_or xs i taken → rest ≡ swap_remove xs i taken
    → (e : ℕ) → is_in rest e ≡ (is_in xs e && not (e == x))
is_in_taken xs rest i taken x less at distinct gives left e =
    let same : taken ≡ x = gives ∙ (get_or_default_zero xs i taken less ∙ at) in
    ap (λ ys. is_in ys e) (left ∙ ap (swap_remove xs i) same) ∙ is_in_removed xs i x less at distinct e

pub length-swapped : {X : Type 0} (xs : List X) (i : ℕ) (d : X) → i < length xs → length (swap_remove xs i d) + 1 ≡ length xs
length-swapped xs i d less =
    let last = get_or xs (length xs - 1) d in
    omega (
      arith,
      less,
      length-set xs i last,
      length-take-le (length xs - 1) (set xs i last) (omega (arith, length-set xs i last)),
    )

-- the other elements stay where they are
pub swapped_other : {X : Type 0} (xs : List X) (i j : ℕ) (d e : X) → (j ≡ i → ⊥) → j + 1 < length xs
    → get_or (swap_remove xs i d) j e ≡ get_or xs j e
swapped_other xs i j d e other less =
    let last = get_or xs (length xs - 1) d in
    get_or-take (length xs - 1) (set xs i last) j e (omega (arith, less)) ∙ get_or-set_other xs i j last e other

-- the last one stands in the place of the one that was taken
pub swapped_here : {X : Type 0} (xs : List X) (i : ℕ) (d e : X) → i + 1 < length xs
    → get_or (swap_remove xs i d) i e ≡ get_or xs (length xs - 1) e
swapped_here xs i d e less =
    let last = get_or xs (length xs - 1) d in
    get_or-take (length xs - 1) (set xs i last) i e (omega (arith, less))
    ∙ (get_or-set_same xs i last e (omega (arith, less)) ∙ get_or_default xs (length xs - 1) d e (omega (arith, less)))

module _ (places keys : List ℕ) (count keys_room values_room : ℕ) (stored : IsStored places keys count keys_room values_room) where
  pub stored_distinct : AreDistinct keys
  stored_distinct =
      distinct_from_places (λ k. get_or places k 0) 0 keys (λ i less. let h = stored.placed i less in omega (arith, h))

  -- a key stands at its place
  pub stored_place : (key : ℕ) → is_in keys key ≡ true → (get_or places key 0 < length keys) × (get_or keys (get_or places key 0) 0 ≡ key)
  stored_place key within =
      is_in-All (λ u. (get_or places u 0 < length keys) × (get_or keys (get_or places u 0) 0 ≡ u)) keys
      (All-from_get_or (λ u. (get_or places u 0 < length keys) × (get_or keys (get_or places u 0) 0 ≡ u)) keys 0
      (λ i less. let h = stored.placed i less in (omega (arith, h, less), ap (λ j. get_or keys j 0) h)))
      key within

  -- a number is no key where its place has another key, or none
  pub absent_elsewhere : (key place : ℕ) → place ≡ get_or places key 0 → (place < length keys → get_or keys place 0 ≡ key → ⊥)
      → is_in keys key ≡ false
  absent_elsewhere key place at other =
      false_from_ne_true (is_in keys key)
      (λ within.
      let (less, there) = stored_place key within in
      other (omega (arith, less, at)) (ap (λ i. get_or keys i 0) at ∙ there))

  -- a number without a place is no key
  pub absent_past : (key : ℕ) → length places ≤ key → is_in keys key ≡ false
  absent_past key past =
      false_from_ne_true (is_in keys key)
      (λ within. let below = is_in-All (λ k. k < length places) keys stored.within key within in absurd (omega (arith, below, past)))

  -- there are no more keys than places
  pub shorter_than_places : length keys ≤ length places
  shorter_than_places =
      omega (
        arith,
        length-le_from_within keys (range_with_len 0 (length places)) stored_distinct
            (distinct_from_rising (range_with_len 0 (length places)) (range_rises 0 (length places)))
            (λ v inside. is_in-range (length places) v (is_in-All (λ k. k < length places) keys stored.within v inside)),
        length-range_with_len 0 (length places),
      )

  -- a number that is no key finds room
  pub fewer_than_room : (key : ℕ) → key < length places → is_in keys key ≡ false → length keys < length places
  fewer_than_room key below absent = fewer_than_all keys (length places) key stored_distinct stored.within below absent

  -- the key put at the end
  pub stored_entered : (key n more keys_more values_more : ℕ) (longer : List ℕ) → key < length places → is_in keys key ≡ false
      → n ≡ length keys → longer ≡ keys ++ key ∷ [] → more ≡ count + 1 → keys_more ≡ keys_room → values_more ≡ values_room
      → IsStored (set places key n) longer more keys_more values_more
  stored_entered key n more keys_more values_more longer below absent at_end is counted keys_fit values_fit = record {
    placed = λ i less. ap (λ l. get_or (set places key n) (get_or l i 0) 0) is
        ∙ step i (omega (arith, less, ap length is)) (cases_lt i (length keys));
    within = subst (All (λ k. k < length (set places key n))) (sym is)
        (All-push (λ k. k < length (set places key n)) keys key
        (λ i d less. omega (arith, stored.within i d less, length-set places key n))
        (omega (arith, below, length-set places key n)));
    values = omega (arith, counted, stored.values, ap length is, length-append keys (key ∷ []));
    keys_fit = omega (arith, stored.keys_fit, keys_fit, length-set places key n);
    values_fit = omega (arith, stored.values_fit, values_fit, length-set places key n);
    few = omega (arith, stored.few, length-set places key n);
  }
    where
      step : (i : ℕ) → i < length (keys ++ key ∷ []) → (i < length keys) ⊎ (length keys ≤ i)
          → get_or (set places key n) (get_or (keys ++ key ∷ []) i 0) 0 ≡ i
      step i less (inl before) =
          ap (λ x. get_or (set places key n) x 0) (get_or_append_left keys (key ∷ []) 0 i before)
          ∙ (get_or-set_other places key (get_or keys i 0) n 0
          (λ same. both_ways (is_in keys key) absent (subst (λ x. is_in keys x ≡ true) same (is_in_at keys i 0 before)))
          ∙ stored.placed i before)
      step i less (inr last) =
          let here : length keys ≡ i = omega (arith, less, last, length-append keys (key ∷ [])) in
          ap (λ x. get_or (set places key n) x 0) (get_or_push keys key 0 i here)
          ∙ (get_or-set_same places key n 0 below ∙ omega (arith, at_end, here))

  -- a key taken out, with the last one in its place
  module _ (i taken fewer keys_more values_more : ℕ) (rest : List ℕ) (less : i < length keys) (left : rest ≡ swap_remove keys i taken)
      (counted : fewer ≡ count - 1) (keys_fit : keys_more ≡ keys_room) (values_fit : values_more ≡ values_room) where
    long : length rest + 1 ≡ length keys
    long = omega (arith, ap length left, length-swapped keys i taken less)

    stays : (j : ℕ) → (j ≡ i → ⊥) → j < length rest → get_or rest j 0 ≡ get_or keys j 0
    stays j other short = ap (λ l. get_or l j 0) left ∙ swapped_other keys i j taken 0 other (omega (arith, short, long))

    moves : i < length rest → get_or rest i 0 ≡ get_or keys (length keys - 1) 0
    moves short = ap (λ l. get_or l i 0) left ∙ swapped_here keys i taken 0 (omega (arith, short, long))

    pub rest_within : All (λ k. k < length places) rest
    rest_within =
        All-from_get_or (λ k. k < length places) rest 0
        (λ j short. by j short (cases_eq j i))
      where
        by : (j : ℕ) → j < length rest → (j ≡ i) ⊎ (j ≡ i → ⊥) → get_or rest j 0 < length places
        by j short (inl same) =
            let last = stored.within (length keys - 1) 0 (omega (arith, long)) in
            omega (arith, last, moves (omega (arith, short, same)), ap (λ x. get_or rest x 0) same)
        by j short (inr other) =
            let old = stored.within j 0 (omega (arith, short, long)) in
            omega (arith, old, stays j other short)

    pub stored_moved : (moved : ℕ) → i < length rest → moved ≡ get_or rest i moved
        → IsStored (set places moved i) rest fewer keys_more values_more
    stored_moved moved short is = record {
      placed = λ j below. by j below (cases_eq j i);
      within = λ j d below. omega (arith, rest_within j d below, length-set places moved i);
      values = omega (arith, counted, stored.values, long);
      keys_fit = omega (arith, stored.keys_fit, keys_fit, length-set places moved i);
      values_fit = omega (arith, stored.values_fit, values_fit, length-set places moved i);
      few = omega (arith, stored.few, length-set places moved i);
    }
      where
        here : moved ≡ get_or keys (length keys - 1) 0
        here = is ∙ (get_or_default_zero rest i moved short ∙ moves short)

        own : get_or places moved 0 ≡ length keys - 1
        own = ap (λ u. get_or places u 0) here ∙ stored.placed (length keys - 1) (omega (arith, long))

        below_all : moved < length places
        below_all =
            let last = stored.within (length keys - 1) 0 (omega (arith, long)) in
            omega (arith, last, here)

        by : (j : ℕ) → j < length rest → (j ≡ i) ⊎ (j ≡ i → ⊥) → get_or (set places moved i) (get_or rest j 0) 0 ≡ j
        by j below (inl same) =
            ap (λ x. get_or (set places moved i) (get_or rest x 0) 0) same
            ∙ (ap (λ u. get_or (set places moved i) u 0) (sym (is ∙ get_or_default_zero rest i moved short))
            ∙ (get_or-set_same places moved i 0 below_all ∙ sym same))
        by j below (inr other) =
            let at : get_or places (get_or keys j 0) 0 ≡ j = stored.placed j (omega (arith, below, long)) in
            ap (λ u. get_or (set places moved i) u 0) (stays j other below)
            ∙ (get_or-set_other places moved (get_or keys j 0) i 0
            (λ e. absurd (omega (arith, at, own, below, long, ap (λ u. get_or places u 0) e)))
            ∙ at)

    pub stored_last : length rest ≤ i → IsStored places rest fewer keys_more values_more
    stored_last past = record {
      placed = λ j below.
          ap (λ u. get_or places u 0) (stays j (λ e. absurd (omega (arith, e, below, past))) below)
          ∙ stored.placed j (omega (arith, below, long));
      within = rest_within;
      values = omega (arith, counted, stored.values, long);
      keys_fit = omega (arith, stored.keys_fit, keys_fit);
      values_fit = omega (arith, stored.values_fit, values_fit);
      few = stored.few;
    }

pub rest_distinct : (places keys : List ℕ) (count keys_room values_room : ℕ) → IsStored places keys count keys_room values_room
    → (i taken : ℕ) (rest : List ℕ) → i < length keys → rest ≡ swap_remove keys i taken → AreDistinct rest
rest_distinct places keys count keys_room values_room stored i taken rest less left = by (cases_lt i (length rest))
  where
    by : (i < length rest) ⊎ (length rest ≤ i) → AreDistinct rest
    by (inl short) =
        stored_distinct (set places (get_or rest i 0) i) rest (count - 1) keys_room values_room
        (stored_moved places keys count keys_room values_room stored i taken (count - 1) keys_room values_room rest less left refl refl refl (get_or rest i 0)
        short (get_or_default rest i 0 (get_or rest i 0) short))
    by (inr past) =
        stored_distinct places rest (count - 1) keys_room values_room
        (stored_last places keys count keys_room values_room stored i taken (count - 1) keys_room values_room rest less left refl refl refl past)

-- a table without keys
pub stored_none : (places keys : List ℕ) (count keys_room values_room : ℕ) → keys ≡ [] → count ≡ 0 → length places ≤ keys_room
    → length places ≤ values_room → length places < 2 ^ 32 → IsStored places keys count keys_room values_room
stored_none places keys count keys_room values_room none empty fit suffice few =
    rw none
    (record {
      placed = λ i less. absurd (omega arith);
      within = λ k d less. absurd (omega arith);
      values = empty;
      keys_fit = fit;
      values_fit = suffice;
      few = few;
    })
