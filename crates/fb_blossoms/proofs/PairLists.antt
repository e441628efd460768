-- Lists of names, each beside its new one.
use Rattle.std.proofs.Common.{◌≡◌, ◌⊎◌, inl, inr, ℕ, ◌+◌, ◌≤◌, ◌==◌, ◌||◌, Bool, true, false, if◌then◌else◌, List, [], ◌∷◌, ◌++◌, refl, sym, ◌∙◌, ap, arith}
use Rattle.std.proofs.Math.Bool.{or-false}
use Rattle.fb_links.specs.Names.{name_by}
use Rattle.std.specs.List.{list_any}
use Rattle.std.proofs.lemmas.Bool.{both_ways, cases_Bool, eq-eqb, eqb-true, or_cases, or_left, or_right}
use Rattle.std.proofs.lemmas.List.Folds.{list_any-append}
use Rattle.std.proofs.lemmas.List.Sums.{sum_by-cons, sum_by_push}
use Rattle.fb_blossoms.specs.Merged.{new_count, old_count}
use Rattle.fb_blossoms.specs.InternalMerged.{is_pair}

abbrev pub one_if : Bool → ℕ
one_if b = if b then 1 else 0

pub old_push : (names : List (ℕ × ℕ)) (k b a : ℕ) → old_count (names ++ (k, b) ∷ []) a ≡ old_count names a + one_if (k == a)
old_push names k b a = sum_by_push (λ p. one_if (p.0 == a)) names (k, b)

pub new_push : (names : List (ℕ × ℕ)) (k b x : ℕ) → new_count (names ++ (k, b) ∷ []) x ≡ new_count names x + one_if (b == x)
new_push names k b x = sum_by_push (λ p. one_if (p.1 == x)) names (k, b)

-- the last pair is the one, or the pair is among those before it
pub pair_cases : (names : List (ℕ × ℕ)) (k b a x : ℕ) → is_pair (names ++ (k, b) ∷ []) a x ≡ true → (is_pair names a x ≡ true) ⊎ ((k ≡ a) × (b ≡ x))
pair_cases names k b a x h =
    elim (or_cases (is_pair names a x) ((if k == a then b == x else false) || false) (sym (list_any-append (λ p. if p.0 == a then p.1 == x else false) names ((k, b) ∷ [])) ∙ h)) [
      | inl before ↦ inl before
      | inr last ↦ inr (both (k == a) refl (sym (or-false (if k == a then b == x else false)) ∙ last))
    ]
  where
    both : (t : Bool) → (k == a) ≡ t → (if t then b == x else false) ≡ true → (k ≡ a) × (b ≡ x)
    both true e f = (eqb-true k a e, eqb-true b x f)
    both false e f = absurd (both_ways false refl f)

pub pair_before : (names : List (ℕ × ℕ)) (k b a x : ℕ) → is_pair names a x ≡ true → is_pair (names ++ (k, b) ∷ []) a x ≡ true
pair_before names k b a x h =
    list_any-append (λ p. if p.0 == a then p.1 == x else false) names ((k, b) ∷ []) ∙ or_left (is_pair names a x) _ h

pub pair_last : (names : List (ℕ × ℕ)) (k b : ℕ) → is_pair (names ++ (k, b) ∷ []) k b ≡ true
pair_last names k b =
    list_any-append (λ p. if p.0 == k then p.1 == b else false) names ((k, b) ∷ []) ∙ or_right (is_pair names k b) _ here
  where
    here : ((if k == k then b == b else false) || false) ≡ true
    here = ap (λ t. (if t then b == b else false) || false) (eq-eqb k k refl) ∙ ap (λ t. t || false) (eq-eqb b b refl)

pair_head : (p : ℕ × ℕ) (ps : List (ℕ × ℕ)) → is_pair (p ∷ ps) p.0 p.1 ≡ true
pair_head p ps =
    or_left (if p.0 == p.0 then p.1 == p.1 else false) (is_pair ps p.0 p.1)
    (ap (λ t. if t then p.1 == p.1 else false) (eq-eqb p.0 p.0 refl) ∙ eq-eqb p.1 p.1 refl)

-- a new name that no pair has does not count
pub new_none : (names : List (ℕ × ℕ)) (b : ℕ) → ((a : ℕ) → is_pair names a b ≡ true → ⊥) → new_count names b ≡ 0
new_none [] b none = refl
new_none (p ∷ ps) b none =
    elim (cases_Bool (p.1 == b)) [
      | inl here ↦ absurd (none p.0 (ap (λ x. is_pair (p ∷ ps) p.0 x) (sym (eqb-true p.1 b here)) ∙ pair_head p ps))
      | inr off ↦
          let head : one_if (p.1 == b) ≡ 0 = ap one_if off in
          let rest : new_count ps b ≡ 0 = new_none ps b (λ a h. none a (or_right (if p.0 == a then p.1 == b else false) (is_pair ps a b) h)) in
          omega (arith, sum_by-cons (λ p. one_if (p.1 == b)) p ps, head, rest)
    ]

-- a name that is listed is beside its new one
pub pair_by : (names : List (ℕ × ℕ)) (a : ℕ) → old_count names a ≡ 1 → is_pair names a (name_by names a) ≡ true
pair_by [] a h = absurd (omega (arith, h))
pair_by (p ∷ ps) a h =
    elim (cases_Bool (p.0 == a)) [
      | inl here ↦
          let name : name_by (p ∷ ps) a ≡ p.1 = ap (λ t. if t then p.1 else name_by ps a) here in
          ap (λ y. is_pair (p ∷ ps) a y) name ∙ (ap (λ y. is_pair (p ∷ ps) y p.1) (sym (eqb-true p.0 a here)) ∙ pair_head p ps)
      | inr off ↦
          let name : name_by (p ∷ ps) a ≡ name_by ps a = ap (λ t. if t then p.1 else name_by ps a) off in
          let head : one_if (p.0 == a) ≡ 0 = ap one_if off in
          let rest : old_count ps a ≡ 1 = omega (arith, sum_by-cons (λ p. one_if (p.0 == a)) p ps, head, h) in
          ap (λ y. is_pair (p ∷ ps) a y) name ∙ or_right (if p.0 == a then p.1 == name_by ps a else false) (is_pair ps a (name_by ps a)) (pair_by ps a rest)
    ]

-- a pair of which the one is listed once
pub old_listed : (names : List (ℕ × ℕ)) (a b : ℕ) → is_pair names a b ≡ true → 1 ≤ old_count names a
old_listed [] a b h = absurd (both_ways false refl h)
old_listed (p ∷ ps) a b h =
    elim (cases_Bool (p.0 == a)) [
      | inl here ↦
          let head : one_if (p.0 == a) ≡ 1 = ap one_if here in
          omega (arith, sum_by-cons (λ p. one_if (p.0 == a)) p ps, head)
      | inr off ↦
          let later : is_pair ps a b ≡ true = ap (λ t. (if t then p.1 == b else false) || is_pair ps a b) (sym off) ∙ h in
          omega (arith, sum_by-cons (λ p. one_if (p.0 == a)) p ps, old_listed ps a b later)
    ]

-- where each name is listed at most once, a pair has the name's new one
pub pair_is : (names : List (ℕ × ℕ)) (a b : ℕ) → old_count names a ≤ 1 → is_pair names a b ≡ true → name_by names a ≡ b
pair_is [] a b once h = absurd (both_ways false refl h)
pair_is (p ∷ ps) a b once h =
    elim (cases_Bool (p.0 == a)) [
      | inl here ↦
          let head : one_if (p.0 == a) ≡ 1 = ap one_if here in
          elim (or_cases (p.1 == b) (is_pair ps a b) (ap (λ t. (if t then p.1 == b else false) || is_pair ps a b) (sym here) ∙ h)) [
            | inl same ↦ ap (λ t. if t then p.1 else name_by ps a) here ∙ eqb-true p.1 b same
            | inr later ↦ absurd (omega (arith, sum_by-cons (λ p. one_if (p.0 == a)) p ps, head, old_listed ps a b later, once))
          ]
      | inr off ↦
          let later : is_pair ps a b ≡ true = ap (λ t. (if t then p.1 == b else false) || is_pair ps a b) (sym off) ∙ h in
          let rest : old_count ps a ≤ 1 = omega (arith, sum_by-cons (λ p. one_if (p.0 == a)) p ps, once) in
          ap (λ t. if t then p.1 else name_by ps a) off ∙ pair_is ps a b rest later
    ]

-- a pair with a new name
pub new_listed : (names : List (ℕ × ℕ)) (a b : ℕ) → is_pair names a b ≡ true → list_any (λ p. p.1 == b) names ≡ true
new_listed [] a b h = h
new_listed (p ∷ ps) a b h =
    elim (or_cases (if p.0 == a then p.1 == b else false) (is_pair ps a b) h) [
      | inl here ↦ or_left (p.1 == b) (list_any (λ p. p.1 == b) ps) (both (p.0 == a) here)
      | inr later ↦ or_right (p.1 == b) (list_any (λ p. p.1 == b) ps) (new_listed ps a b later)
    ]
  where
    both : (t : Bool) → (if t then p.1 == b else false) ≡ true → (p.1 == b) ≡ true
    both true e = e
    both false e = absurd (both_ways false refl e)

pub new_pair : (names : List (ℕ × ℕ)) (b : ℕ) → list_any (λ p. p.1 == b) names ≡ true → (a : ℕ) × (is_pair names a b ≡ true)
new_pair [] b h = absurd (both_ways false refl h)
new_pair (p ∷ ps) b h =
    elim (or_cases (p.1 == b) (list_any (λ p. p.1 == b) ps) h) [
      | inl here ↦ (p.0, ap (λ x. is_pair (p ∷ ps) p.0 x) (sym (eqb-true p.1 b here)) ∙ pair_head p ps)
      | inr later ↦
          let r : (a : ℕ) × (is_pair ps a b ≡ true) = new_pair ps b later in
          (r.0, or_right (if p.0 == r.0 then p.1 == b else false) (is_pair ps r.0 b) r.1)
    ]

-- a new name among the pairs counts
pub new_counted : (names : List (ℕ × ℕ)) (b : ℕ) → list_any (λ p. p.1 == b) names ≡ true → 1 ≤ new_count names b
new_counted [] b h = absurd (both_ways false refl h)
new_counted (p ∷ ps) b h =
    elim (cases_Bool (p.1 == b)) [
      | inl here ↦
          let head : one_if (p.1 == b) ≡ 1 = ap one_if here in
          omega (arith, sum_by-cons (λ p. one_if (p.1 == b)) p ps, head)
      | inr off ↦
          let later : list_any (λ p. p.1 == b) ps ≡ true = ap (λ t. t || list_any (λ p. p.1 == b) ps) (sym off) ∙ h in
          omega (arith, sum_by-cons (λ p. one_if (p.1 == b)) p ps, new_counted ps b later)
    ]

-- with each new name at most once, two names of one new name are one
pub pair_same : (names : List (ℕ × ℕ)) (a c b : ℕ) → new_count names b ≤ 1 → is_pair names a b ≡ true → is_pair names c b ≡ true → a ≡ c
pair_same [] a c b once h k = absurd (both_ways false refl h)
pair_same (p ∷ ps) a c b once h k =
    elim (cases_Bool (p.1 == b)) [
      | inl here ↦
          let head : one_if (p.1 == b) ≡ 1 = ap one_if here in
          let none : list_any (λ p. p.1 == b) ps ≡ true → ⊥ =
          λ later. omega (arith, sum_by-cons (λ p. one_if (p.1 == b)) p ps, head, new_counted ps b later, once) in
          elim (or_cases (if p.0 == a then p.1 == b else false) (is_pair ps a b) h) [
            | inr later ↦ absurd (none (new_listed ps a b later))
            | inl first ↦ elim (or_cases (if p.0 == c then p.1 == b else false) (is_pair ps c b) k) [
              | inr later ↦ absurd (none (new_listed ps c b later))
              | inl second ↦ sym (its (p.0 == a) a refl first) ∙ its (p.0 == c) c refl second
            ]
          ]
      | inr off ↦
          let rest : new_count ps b ≤ 1 = omega (arith, sum_by-cons (λ p. one_if (p.1 == b)) p ps, once) in
          pair_same ps a c b rest (skip a off h) (skip c off k)
    ]
  where
    its : (t : Bool) (y : ℕ) → (p.0 == y) ≡ t → (if t then p.1 == b else false) ≡ true → p.0 ≡ y
    its true y e f = eqb-true p.0 y e
    its false y e f = absurd (both_ways false refl f)

    skip : (y : ℕ) → (p.1 == b) ≡ false → is_pair (p ∷ ps) y b ≡ true → is_pair ps y b ≡ true
    skip y off h = at (p.0 == y) (ap (λ t. (if p.0 == y then t else false) || is_pair ps y b) (sym off) ∙ h)
      where
        at : (t : Bool) → ((if t then false else false) || is_pair ps y b) ≡ true → is_pair ps y b ≡ true
        at true e = e
        at false e = e
