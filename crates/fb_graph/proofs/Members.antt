-- Sets of vertices as lists: members, distinct lists and parities of longer, shorter and mapped ones.
use Rattle.std.proofs.Common.{◌≡◌, ◌⊎◌, inl, inr, ℕ, ◌+◌, ◌<◌, ◌==◌, Bool, true, false, ◌||◌, List, [], ◌∷◌, ◌++◌, length, take, get_or, refl, sym, ◌∙◌, ap, map, subst}
use Rattle.std.proofs.Math.Bool.{or-false}
use Rattle.std.proofs.lemmas.Bool.{eq-eqb, or_from, or_parts, or_right, or_cases, eqb-true, false≢true}
use Rattle.std.proofs.lemmas.List.{take_more}
use Rattle.fb_graph.proofs.Sets.{equal_sym, is_in-head, is_in-tail, is_in-cases}
use Rattle.fb_graph.specs.Parity.{differ, is_odd_count, is_in}
use Rattle.fb_graph.specs.Certificate.{AreDistinct}

pub is_in-append : (xs ys : List ℕ) (v : ℕ) → is_in (xs ++ ys) v ≡ (is_in xs v || is_in ys v)
is_in-append [] ys v = refl
is_in-append (x ∷ xs) ys v = rw (is_in-append xs ys v) (assoc (x == v) (is_in xs v) (is_in ys v))
  where
    assoc : (a b c : Bool) → (a || (b || c)) ≡ ((a || b) || c)
    assoc true b c = refl
    assoc false b c = refl

pub is_in_push : (xs : List ℕ) (y v : ℕ) → is_in (xs ++ y ∷ []) v ≡ (is_in xs v || (y == v))
is_in_push xs y v = is_in-append xs (y ∷ []) v ∙ ap (λ b. is_in xs v || b) (or-false (y == v))

pub is_in_pushed : (xs : List ℕ) (y : ℕ) → is_in (xs ++ y ∷ []) y ≡ true
is_in_pushed xs y = is_in_push xs y y ∙ or_right (is_in xs y) (y == y) (eq-eqb y y refl)

pub AreDistinct_push : (xs : List ℕ) (y : ℕ) → AreDistinct xs → is_in xs y ≡ false → AreDistinct (xs ++ y ∷ [])
AreDistinct_push [] y d h = (refl, tt)
AreDistinct_push (x ∷ xs) y d h =
    let parts = or_parts (x == y) (is_in xs y) h in
    (is_in_push xs y x ∙ or_from (is_in xs x) (y == x) d.0 (equal_sym y x ∙ parts.0), AreDistinct_push xs y d.1 parts.1)

pub is_odd_count_push : (test : ℕ → Bool) (xs : List ℕ) (y : ℕ) → test y ≡ false → is_odd_count test (xs ++ y ∷ []) ≡ is_odd_count test xs
is_odd_count_push test [] y h = rw h refl
is_odd_count_push test (x ∷ xs) y h = ap (differ (test x)) (is_odd_count_push test xs y h)

-- tests that agree on each member have the same parity
pub is_odd_count-agree : (p q : ℕ → Bool) (xs : List ℕ) → ((v : ℕ) → is_in xs v ≡ true → p v ≡ q v) → is_odd_count p xs ≡ is_odd_count q xs
is_odd_count-agree p q [] h = refl
is_odd_count-agree p q (x ∷ xs) h =
    let here : p x ≡ q x = h x (is_in-head x xs) in
    let rest : is_odd_count p xs ≡ is_odd_count q xs = is_odd_count-agree p q xs (λ v i. h v (is_in-tail x xs v i)) in
    cc

pub distinct_left : (xs ys : List ℕ) → AreDistinct (xs ++ ys) → AreDistinct xs
distinct_left [] ys distinct = tt
distinct_left (x ∷ xs) ys distinct = (
  (or_parts (is_in xs x) (is_in ys x) (sym (is_in-append xs ys x) ∙ distinct.0)).0,
  distinct_left xs ys distinct.1,
)

-- a member of one place more
pub is_in-take_more : (xs : List ℕ) (i v : ℕ) → i < length xs → is_in (take (i + 1) xs) v ≡ true
    → (is_in (take i xs) v ≡ true) ⊎ (get_or xs i 0 ≡ v)
is_in-take_more xs i v less within =
    elim (or_cases (is_in (take i xs) v) (get_or xs i 0 == v)
    (sym (ap (λ l. is_in l v) (take_more xs i 0 less) ∙ is_in_push (take i xs) (get_or xs i 0) v) ∙ within)) [
      | inl before ↦ inl before
      | inr same ↦ inr (eqb-true (get_or xs i 0) v same)
    ]

pub is_in-map : (f : ℕ → ℕ) (xs : List ℕ) (x : ℕ) → is_in xs x ≡ true → is_in (map f xs) (f x) ≡ true
is_in-map f [] x within = absurd (false≢true within)
is_in-map f (y ∷ ys) x within = step (is_in-cases y ys x within) (is_in-map f ys x)
  where
    step : (y ≡ x) ⊎ (is_in ys x ≡ true) → (is_in ys x ≡ true → is_in (map f ys) (f x) ≡ true) → is_in (f y ∷ map f ys) (f x) ≡ true
    step (inl same) rest = subst (λ z. is_in (f y ∷ map f ys) (f z) ≡ true) same (is_in-head (f y) (map f ys))
    step (inr there) rest = is_in-tail (f y) (map f ys) (f x) (rest there)
