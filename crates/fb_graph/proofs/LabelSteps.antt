-- The steps of the loops over the labels of a shot's defects.
use Rattle.std.proofs.Common.{ℕ, ◌+◌, ◌<◌, ◌≤◌, ◌≡◌, ◌==◌, Bool, true, false, not, min, List, [], ◌∷◌, length, get_or, set, take, All, Option, Some, None, refl, sym, ap, ◌∙◌, ◌⊎◌, inl, inr, le_refl, arith}
use Rattle.std.specs.List.{list_any, reduce, fold}
use Rattle.std.proofs.lemmas.Bool.{cases_eq, cases_lt, eq-eqb, ne_eqb, true≢false, false≢true, or_left, or_right}
use Rattle.std.proofs.lemmas.List.{take_more, get_or-set_same, get_or-set_other, get_or_past}
use Rattle.std.proofs.lemmas.List.Elements.{All-nil, All-cons, All-head, All-tail}
use Rattle.fb_graph.specs.Parity.{differ, is_odd_count, is_in}
use Rattle.fb_graph.specs.InternalLabelling.{AreOdd, AreOf, label_of}
use Rattle.fb_graph.proofs.ParitySums.{odd-append, differ-false}
use Rattle.fb_graph.proofs.Sets.{is_in-head, is_in-tail, is_in-cases, member_of_odd}

-- some element passes
pub any_from_is_in : (test : ℕ → Bool) (xs : List ℕ) (u : ℕ) → is_in xs u ≡ true → test u ≡ true → list_any test xs ≡ true
any_from_is_in test [] u within passes = absurd (false≢true within)
any_from_is_in test (x ∷ xs) u within passes = step (is_in-cases x xs u within) (any_from_is_in test xs u)
  where
    step : (x ≡ u) ⊎ (is_in xs u ≡ true) → (is_in xs u ≡ true → test u ≡ true → list_any test xs ≡ true)
        → list_any test (x ∷ xs) ≡ true
    step (inl same) rest = or_left (test x) (list_any test xs) (ap test same ∙ passes)
    step (inr later) rest = or_right (test x) (list_any test xs) (rest later passes)

not_as_differ : (a : Bool) → not a ≡ differ a true
not_as_differ true = refl
not_as_differ false = refl

odd_push : (labels defects : List ℕ) (i label : ℕ) → i < length defects
    → is_odd_count (λ d. label_of labels d == label) (take (i + 1) defects)
    ≡ differ (is_odd_count (λ d. label_of labels d == label) (take i defects)) (label_of labels (get_or defects i 0) == label)
odd_push labels defects i label less =
    ap (is_odd_count (λ d. label_of labels d == label)) (take_more defects i 0 less)
    ∙ (odd-append (λ d. label_of labels d == label) (take i defects) (get_or defects i 0 ∷ [])
    ∙ ap (differ (is_odd_count (λ d. label_of labels d == label) (take i defects)))
    (differ-false (label_of labels (get_or defects i 0) == label)))

-- the flag of one more defect's label, turned
pub odd_more : (labels defects : List ℕ) (odd : List Bool) (i : ℕ) → length odd ≡ length labels → i < length defects
    → label_of labels (get_or defects i 0) < length labels → AreOdd labels (take i defects) odd
    → AreOdd labels (take (i + 1) defects)
    (set odd (label_of labels (get_or defects i 0)) (not (get_or odd (label_of labels (get_or defects i 0)) false)))
odd_more labels defects odd i room less within known label below =
    elim (cases_eq label x) [
      | inl same ↦
          ap (λ r. get_or (set odd x (not (get_or odd x false))) r false) same
          ∙ (get_or-set_same odd x (not (get_or odd x false)) false (omega arith)
          ∙ (not_as_differ (get_or odd x false)
          ∙ (ap (λ r. differ (get_or odd r false) true) (sym same)
          ∙ (ap (λ b. differ b true) (known label below)
          ∙ (ap (differ (is_odd_count (λ d. label_of labels d == label) (take i defects))) (sym (eq-eqb x label (sym same)))
          ∙ sym (odd_push labels defects i label less))))))
      | inr other ↦
          get_or-set_other odd x label (not (get_or odd x false)) false other
          ∙ (known label below
          ∙ (sym (differ-false (is_odd_count (λ d. label_of labels d == label) (take i defects)))
          ∙ (ap (differ (is_odd_count (λ d. label_of labels d == label) (take i defects)))
          (sym (ne_eqb x label (λ e. other (sym e))))
          ∙ sym (odd_push labels defects i label less))))
    ]
  where
    x : ℕ
    x = label_of labels (get_or defects i 0)

-- a number that an odd number of elements pass for is that of one of them
pub of_odd : (labels defects : List ℕ) (odd : List Bool) → length odd ≡ length labels → AreOdd labels defects odd
    → AreOf labels defects odd
of_odd labels defects odd room known label is_set = step (cases_lt label (length labels))
  where
    step : (label < length labels) ⊎ (length labels ≤ label) → list_any (λ d. label_of labels d == label) defects ≡ true
    step (inl below) =
        let (d, among, here) =
        member_of_odd (λ d. label_of labels d == label) defects (sym (known label below) ∙ is_set) in
        any_from_is_in (λ d. label_of labels d == label) defects d among here
    step (inr past) = absurd (true≢false (sym is_set ∙ get_or_past odd label false (omega arith)))

-- the least of the numbers; None where there is none
abbrev pub IsLeast : List ℕ → Option ℕ → Type 0
IsLeast xs None = xs ≡ []
IsLeast xs (Some least) = (is_in xs least ≡ true) × All (λ x. least ≤ x) xs

-- the least of some numbers is one of them, and no other is below it
least_of_fold : (a : ℕ) (xs : List ℕ) → IsLeast (a ∷ xs) (Some (fold min a xs))
least_of_fold a [] = (is_in-head a [], All-cons (λ x. a ≤ x) a [] (le_refl a) (All-nil (λ x. a ≤ x)))
least_of_fold a (x ∷ xs) = step (fold min (min a x) xs) (least_of_fold (min a x) xs)
  where
    lesser : (m : ℕ) → min a x ≡ m → (a < x) ⊎ (x ≤ a) → is_in (a ∷ x ∷ xs) m ≡ true
    lesser m e (inl less) =
        let same : a ≡ m = omega arith in
        ap (is_in (a ∷ x ∷ xs)) (sym same) ∙ is_in-head a (x ∷ xs)
    lesser m e (inr more) =
        let same : x ≡ m = omega arith in
        ap (is_in (a ∷ x ∷ xs)) (sym same) ∙ is_in-tail a (x ∷ xs) x (is_in-head x xs)

    among : (m : ℕ) → (min a x ≡ m) ⊎ (is_in xs m ≡ true) → is_in (a ∷ x ∷ xs) m ≡ true
    among m (inl e) = lesser m e (cases_lt a x)
    among m (inr h) = is_in-tail a (x ∷ xs) m (is_in-tail x xs m h)

    step : (m : ℕ) → IsLeast (min a x ∷ xs) (Some m) → IsLeast (a ∷ x ∷ xs) (Some m)
    step m (within, bound) =
        let low : m ≤ min a x = All-head (λ y. m ≤ y) (min a x) xs bound in (
          among m (is_in-cases (min a x) xs m within),
          All-cons (λ y. m ≤ y) a (x ∷ xs) (omega arith)
              (All-cons (λ y. m ≤ y) x xs (omega arith) (All-tail (λ y. m ≤ y) (min a x) xs bound)),
        )

pub least_from_reduce : (xs : List ℕ) → IsLeast xs (reduce min xs)
least_from_reduce [] = refl
least_from_reduce (x ∷ xs) = least_of_fold x xs
