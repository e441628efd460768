-- The places of the elements that pass a test, in order: the elements there are those that a filter keeps.
use Rattle.std.proofs.Common.{ℕ, suc, ◌≡◌, ◌+◌, ◌<◌, ◌==◌, ◌++◌, ◌⊎◌, inl, inr, Bool, true, false, List, [], ◌∷◌, cond, eqb, map, length, get_or, take, Contains, IfSome, Option, Some, None, option_to_list, refl, sym, ap, ◌∙◌, subst, arith}
use Rattle.std.specs.List.{dedup, filter, range_with_len}
use Rattle.std.specs.List.Sorted.{IsPermutation, IsStrictlyIncreasing}
use Rattle.std.proofs.lemmas.List.{get_or_default, map-append, take_more}
use Rattle.std.proofs.lemmas.List.Kept.{Contains-dedup_nat, Contains-from_dedup, IsStrictlyIncreasing-filter}
use Rattle.std.proofs.lemmas.List.Sorted.{Contains-permutation, IsPermutation-sym}
use Rattle.std.proofs.lemmas.Bool.{and_from, and_parts, eq-eqb, eqb-true, false≢true, or_cases, or_left}
use Rattle.fb_graph.specs.Parity.{is_in}
use Rattle.fb_half.specs.declared.matches.Match.{Match}
use Rattle.fb_half.specs.InternalStandings.{has_name, no_match}
use Rattle.fb_half.proofs.Lookups.{in_at, place_in}
use Rattle.fb_graph.proofs.Booleans.{same_bool}
use Rattle.fb_graph.proofs.Floods.{is_in-left}
use Rattle.fb_graph.proofs.Members.{is_in-append, is_in_push, is_in_pushed}
use Rattle.fb_graph.proofs.Sets.{is_in-All, is_in-cases, is_in-filter, is_in-range, range_below, range_rises, rising_same}

-- the numbers from k on whose elements pass, by the elements themselves
pub filter_by_place : {X : Type 0} (f : X → ℕ) (at : ℕ → X) (test : X → Bool) (d : X) (xs : List X) (k : ℕ)
    → ((j : ℕ) → j < length xs → at (k + j) ≡ get_or xs j d)
    → map (λ i. f (at i)) (filter (λ i. test (at i)) (range_with_len k (length xs))) ≡ map f (filter test xs)
filter_by_place f at test d [] k same = refl
filter_by_place {X} f at test d (x ∷ xs) k same =
    step (test x) (test (at k)) (ap test first) refl
    (filter_by_place f at test d xs (k + 1) (λ j less. ap at (omega arith) ∙ same (suc j) (omega (arith, less))))
  where
    first : at k ≡ x
    first = ap at (omega arith) ∙ same 0 (omega arith)

    after : List ℕ
    after = filter (λ i. test (at i)) (range_with_len (k + 1) (length xs))

    step : (a b : Bool) → b ≡ test x → test x ≡ a → map (λ i. f (at i)) after ≡ map f (filter test xs)
        → map (λ i. f (at i)) (cond b (k ∷ after) after) ≡ map f (cond (test x) (x ∷ filter test xs) (filter test xs))
    step true b e is rest = rw (e, is) (λ i. f (first i) ∷ rest i)
    step false b e is rest = rw (e, is) rest

-- rising places that are those of the elements that pass
pub places_are : {X : Type 0} (test : X → Bool) (xs : List X) (d : X) (places : List ℕ) → IsStrictlyIncreasing places
    → ((i : ℕ) → is_in places i ≡ true → (i < length xs) × (test (get_or xs i d) ≡ true))
    → ((i : ℕ) → i < length xs → test (get_or xs i d) ≡ true → is_in places i ≡ true)
    → places ≡ filter (λ i. test (get_or xs i d)) (range_with_len 0 (length xs))
places_are test xs d places rising pass all =
    rising_same places (filter (λ i. test (get_or xs i d)) (range_with_len 0 (length xs))) rising
    (IsStrictlyIncreasing-filter (λ i. test (get_or xs i d)) (range_with_len 0 (length xs)) (range_rises 0 (length xs))) same
  where
    range : List ℕ
    range = range_with_len 0 (length xs)

    passes : ℕ → Bool
    passes i = test (get_or xs i d)

    within : (v : ℕ) → is_in (filter passes range) v ≡ true → is_in places v ≡ true
    within v h =
        let both = and_parts (is_in range v) (passes v) (sym (is_in-filter passes range v) ∙ h) in
        all v (is_in-All (λ k. k < length xs) range (range_below (length xs)) v both.0) both.1

    back : (v : ℕ) → is_in places v ≡ true → is_in (filter passes range) v ≡ true
    back v h =
        let (less, is) = pass v h in
        is_in-filter passes range v ∙ and_from (is_in range v) (passes v) (is_in-range (length xs) v less) is

    same : (v : ℕ) → is_in places v ≡ is_in (filter passes range) v
    same v = same_bool (is_in places v) (is_in (filter passes range) v) (back v) (within v)

-- so the elements there are those that a filter keeps
pub placed : {X : Type 0} (f : X → ℕ) (test : X → Bool) (xs : List X) (d : X) (places : List ℕ) → IsStrictlyIncreasing places
    → ((i : ℕ) → is_in places i ≡ true → (i < length xs) × (test (get_or xs i d) ≡ true))
    → ((i : ℕ) → i < length xs → test (get_or xs i d) ≡ true → is_in places i ≡ true)
    → map (λ i. f (get_or xs i d)) places ≡ map f (filter test xs)
placed f test xs d places rising pass all =
    ap (map (λ i. f (get_or xs i d))) (places_are test xs d places rising pass all)
    ∙ filter_by_place f (λ i. get_or xs i d) test d xs 0 (λ j less. ap (λ i. get_or xs i d) (omega arith))

-- The places are of matches that pass, and those of the listed names' matches are among them.
abbrev pub AreFound : (Match → Bool) → List Match → List ℕ → List ℕ → Type 0
AreFound test matches listed places =
    ((i : ℕ) → is_in places i ≡ true → (i < length matches) × (test (get_or matches i no_match) ≡ true))
    × ((i : ℕ) → i < length matches → test (get_or matches i no_match) ≡ true → is_in listed (get_or matches i no_match).first ≡ true
    → is_in places i ≡ true)

in_more : (had now : List ℕ) (found : Option ℕ) (k : ℕ) → now ≡ had ++ option_to_list found → is_in had k ≡ true → is_in now k ≡ true
in_more had now found k is h = ap (λ l. is_in l k) is ∙ is_in-left had (option_to_list found) k h

-- the next name's match, if it passes
pub found_more : (test : Match → Bool) (matches : List Match) (listed had now : List ℕ) (i name : ℕ) (found : Option ℕ) → i < length listed
    → name ≡ get_or listed i 0 → IfSome found (λ k. (k < length matches) × (test (get_or matches k no_match) ≡ true))
    → ((k : ℕ) → k < length matches → has_name matches k name ≡ true → test (get_or matches k no_match) ≡ true → found ≡ Some k)
    → now ≡ had ++ option_to_list found → AreFound test matches (take i listed) had → AreFound test matches (take (i + 1) listed) now
found_more test matches listed had now i name found less named some all is (pass, each) = (
  λ k h. by k found some (or_cases (is_in had k) (is_in (option_to_list found) k) (sym (is_in-append had (option_to_list found) k) ∙ (sym (ap (λ l. is_in l k) is) ∙ h))),
  λ k within passes h. next k within passes (is_in-cases-push k h),
)
  where
    by : (k : ℕ) (o : Option ℕ) → IfSome o (λ k. (k < length matches) × (test (get_or matches k no_match) ≡ true))
        → (is_in had k ≡ true) ⊎ (is_in (option_to_list o) k ≡ true) → (k < length matches) × (test (get_or matches k no_match) ≡ true)
    by k o some (inl h) = pass k h
    by k None some (inr h) = absurd (false≢true h)
    by k (Some j) some (inr h) = step (is_in-cases j [] k h)
      where
        step : (j ≡ k) ⊎ (is_in [] k ≡ true) → (k < length matches) × (test (get_or matches k no_match) ≡ true)
        step (inl same) = subst (λ n. (n < length matches) × (test (get_or matches n no_match) ≡ true)) same some
        step (inr none) = absurd (false≢true none)

    is_in-cases-push : (k : ℕ) → is_in (take (i + 1) listed) (get_or matches k no_match).first ≡ true
        → (is_in (take i listed) (get_or matches k no_match).first ≡ true) ⊎ (name ≡ (get_or matches k no_match).first)
    is_in-cases-push k h =
        let first : ℕ = (get_or matches k no_match).first in
        last first
        (or_cases (is_in (take i listed) first) (get_or listed i 0 == first)
        (sym (is_in_push (take i listed) (get_or listed i 0) first) ∙ (sym (ap (λ l. is_in l first) (take_more listed i 0 less)) ∙ h)))
      where
        last : (first : ℕ) → (is_in (take i listed) first ≡ true) ⊎ ((get_or listed i 0 == first) ≡ true)
            → (is_in (take i listed) first ≡ true) ⊎ (name ≡ first)
        last first (inl h) = inl h
        last first (inr e) = inr (named ∙ eqb-true (get_or listed i 0) first e)

    next : (k : ℕ) → k < length matches → test (get_or matches k no_match) ≡ true
        → (is_in (take i listed) (get_or matches k no_match).first ≡ true) ⊎ (name ≡ (get_or matches k no_match).first) → is_in now k ≡ true
    next k within passes (inl h) = in_more had now found k is (each k within passes h)
    next k within passes (inr same) =
        let m : Match = get_or matches k no_match in
        let own : has_name matches k name ≡ true =
        or_left (m.first == name) (is_in (option_to_list m.second) name) (eq-eqb m.first name (sym same)) in
        ap (λ l. is_in l k) (is ∙ ap (λ o. had ++ option_to_list o) (all k within own passes))
        ∙ is_in_pushed had k

in_Contains : (xs : List ℕ) (v : ℕ) → is_in xs v ≡ true → Contains xs v
in_Contains xs v h =
    let (i, less, is) = place_in xs v h in
    (i, less, get_or_default xs i v 0 less ∙ eqb-true (get_or xs i 0) v is)

Contains_in : (xs : List ℕ) (v : ℕ) → Contains xs v → is_in xs v ≡ true
Contains_in xs v (k, less, is) = in_at xs k v less (eq-eqb (get_or xs k 0) v (get_or_default xs k 0 v less ∙ is))

-- in order, and each once
pub sorted_found : (test : Match → Bool) (matches : List Match) (listed found sorted places : List ℕ) → AreFound test matches listed found
    → IsPermutation found sorted → places ≡ dedup eqb sorted → AreFound test matches listed places
sorted_found test matches listed found sorted places (pass, each) moved is = (
  λ k h. pass k (Contains_in found k (Contains-permutation sorted found k (IsPermutation-sym found sorted moved)
      (Contains-from_dedup eqb sorted k (in_Contains (dedup eqb sorted) k (sym (ap (λ l. is_in l k) is) ∙ h))))),
  λ k within passes h. ap (λ l. is_in l k) is
      ∙ Contains_in (dedup eqb sorted) k (Contains-dedup_nat sorted k (Contains-permutation found sorted k moved (in_Contains found k (each k within passes h)))),
)

-- the first node of the match at the next place
pub placed_more : (matches read : List Match) (d : Match) (places had now : List ℕ) (i : ℕ) → i < length places → read ≡ matches
    → get_or places i 0 < length read → had ≡ map (λ k. (get_or matches k no_match).first) (take i places)
    → now ≡ had ++ (get_or read (get_or places i 0) d).first ∷ []
    → now ≡ map (λ k. (get_or matches k no_match).first) (take (i + 1) places)
placed_more matches read d places had now i less same within was is =
    is
    ∙ (ap (λ l. l ++ (get_or read (get_or places i 0) d).first ∷ []) was
    ∙ (ap (λ m. map first (take i places) ++ m.first ∷ []) (get_or_default read (get_or places i 0) d no_match within ∙ ap (λ l. get_or l (get_or places i 0) no_match) same)
    ∙ (sym (map-append first (take i places) (get_or places i 0 ∷ [])) ∙ ap (map first) (sym (take_more places i 0 less)))))
  where
    first : ℕ → ℕ
    first k = (get_or matches k no_match).first
