-- Lists of numbers: members, and lists without repetition, after one more number.
use Rattle.std.proofs.Common.{ℕ, ◌≡◌, ◌≢◌, ◌==◌, Bool, true, false, ◌||◌, List, [], ◌∷◌, ◌++◌, refl, sym, ap, ◌∙◌}
use Rattle.std.proofs.Math.Bool.{or-false}
use Rattle.std.proofs.lemmas.Bool.{eqb-true, eq-eqb, or_parts, or_right, both_ways}
use Rattle.fb_links.specs.Lists.{AreDistinct, is_in}

pub is_in-push : (xs : List ℕ) (y v : ℕ) → is_in (xs ++ y ∷ []) v ≡ (is_in xs v || (y == v))
is_in-push [] y v = or-false (y == v)
is_in-push (x ∷ xs) y v = ap (λ b. (x == v) || b) (is_in-push xs y v) ∙ assoc (x == v) (is_in xs v) (y == v)
  where
    assoc : (a b c : Bool) → (a || (b || c)) ≡ ((a || b) || c)
    assoc true b c = refl
    assoc false b c = refl

pub is_in-push_same : (xs : List ℕ) (y : ℕ) → is_in (xs ++ y ∷ []) y ≡ true
is_in-push_same xs y = is_in-push xs y y ∙ or_right (is_in xs y) (y == y) (eq-eqb y y refl)

-- different numbers differ in the test as well
pub unequal : (a b : ℕ) → a ≢ b → (a == b) ≡ false
unequal a b other = by (a == b) refl
  where
    by : (t : Bool) → (a == b) ≡ t → t ≡ false
    by true is = absurd (other (eqb-true a b is))
    by false is = refl

-- and the test tells them apart
pub differ : (a b : ℕ) → (a == b) ≡ false → a ≢ b
differ a b is same = both_ways (a == b) is (eq-eqb a b same)

pub is_in-push_other : (xs : List ℕ) (y v : ℕ) → y ≢ v → is_in (xs ++ y ∷ []) v ≡ is_in xs v
is_in-push_other xs y v other =
    is_in-push xs y v ∙ (ap (λ b. is_in xs v || b) (unequal y v other) ∙ or-false (is_in xs v))

-- a number that is not in the longer list is another one, and not in the shorter list
pub not_in-push : (xs : List ℕ) (y v : ℕ) → is_in (xs ++ y ∷ []) v ≡ false → (is_in xs v ≡ false) × (v ≢ y)
not_in-push xs y v none =
    let parts = or_parts (is_in xs v) (y == v) (sym (is_in-push xs y v) ∙ none) in
    (parts.0, λ same. differ y v parts.1 (sym same))

pub AreDistinct-push : (xs : List ℕ) (y : ℕ) → AreDistinct xs → is_in xs y ≡ false → AreDistinct (xs ++ y ∷ [])
AreDistinct-push [] y distinct none = (refl, tt)
AreDistinct-push (x ∷ xs) y distinct none =
    let parts = or_parts (x == y) (is_in xs y) none in
    (is_in-push_other xs y x (λ same. differ x y parts.0 (sym same)) ∙ distinct.0, AreDistinct-push xs y distinct.1 parts.1)
