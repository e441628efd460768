-- Names in a list where some are replaced by one new name.
use Rattle.std.proofs.Common.{ℕ, ◌≡◌, ◌==◌, ◌||◌, cond, Bool, true, false, List, [], ◌∷◌, map, refl, sym, ap, ◌∙◌, subst}
use Rattle.std.proofs.lemmas.Bool.{both_ways, eq-eqb, false_from_ne_true, ne_eqb}
use Rattle.fb_graph.specs.Parity.{is_in}
use Rattle.fb_graph.specs.Certificate.{AreDistinct}
use Rattle.fb_graph.proofs.Sets.{is_in-head, is_in-tail}
use Rattle.fb_laws.specs.SearchBlossoms.{renamed_name}

-- the new name is none of the list, and at most one name of the list is replaced
pub record IsRenaming (joined : ℕ → Bool) (name base : ℕ) (names : List ℕ) : Type 0 where
  pub fresh : is_in names name ≡ false
  pub base_in : joined base ≡ true
  pub alone : (n : ℕ) → is_in names n ≡ true → joined n ≡ true → n ≡ base

renaming_tail : (joined : ℕ → Bool) (name base n : ℕ) (names : List ℕ) → IsRenaming joined name base (n ∷ names)
    → IsRenaming joined name base names
renaming_tail joined name base n names is = record {
  fresh =
      false_from_ne_true (is_in names name)
      (λ within. both_ways (is_in (n ∷ names) name) is.fresh (is_in-tail n names name within));
  base_in = is.base_in;
  alone = λ m within. is.alone m (is_in-tail n names m within);
}

-- names that are neither replaced nor new stay
pub renamed_other : (joined : ℕ → Bool) (name n : ℕ) (names : List ℕ) → joined n ≡ false → (n ≡ name → ⊥)
    → is_in (map (renamed_name joined name) names) n ≡ is_in names n
renamed_other joined name n [] out other = refl
renamed_other joined name n (x ∷ xs) out other =
    ap (λ b. b || is_in (map (renamed_name joined name) xs) n) (step (joined x) refl)
    ∙ ap (λ b. (x == n) || b) (renamed_other joined name n xs out other)
  where
    step : (b : Bool) → joined x ≡ b → (cond b name x == n) ≡ (x == n)
    step true e =
        ne_eqb name n (λ same. other (sym same))
        ∙ sym (ne_eqb x n (λ same. both_ways (joined n) out (ap joined (sym same) ∙ e)))
    step false e = refl

-- replaced names are gone
pub renamed_gone : (joined : ℕ → Bool) (name n : ℕ) (names : List ℕ) → joined n ≡ true → (n ≡ name → ⊥)
    → is_in (map (renamed_name joined name) names) n ≡ false
renamed_gone joined name n [] within other = refl
renamed_gone joined name n (x ∷ xs) within other =
    ap (λ b. b || is_in (map (renamed_name joined name) xs) n) (step (joined x) refl)
    ∙ renamed_gone joined name n xs within other
  where
    step : (b : Bool) → joined x ≡ b → (cond b name x == n) ≡ false
    step true e = ne_eqb name n (λ same. other (sym same))
    step false e = ne_eqb x n (λ same. both_ways (joined x) e (ap joined same ∙ within))

-- the new name is there where the replaced one was
pub renamed_new : (joined : ℕ → Bool) (name base : ℕ) (names : List ℕ) → IsRenaming joined name base names
    → is_in (map (renamed_name joined name) names) name ≡ is_in names base
renamed_new joined name base [] is = refl
renamed_new joined name base (x ∷ xs) is =
    ap (λ b. b || is_in (map (renamed_name joined name) xs) name) (step (joined x) refl)
    ∙ ap (λ b. (x == base) || b) (renamed_new joined name base xs (renaming_tail joined name base x xs is))
  where
    step : (b : Bool) → joined x ≡ b → (cond b name x == name) ≡ (x == base)
    step true e = eq-eqb name name refl ∙ sym (eq-eqb x base (is.alone x (is_in-head x xs) e))
    step false e =
        ne_eqb x name
        (λ same. both_ways (is_in (x ∷ xs) name) is.fresh (subst (λ m. is_in (x ∷ xs) m ≡ true) same (is_in-head x xs)))
        ∙ sym (ne_eqb x base (λ same. both_ways (joined x) e (ap joined same ∙ is.base_in)))

pub renamed_distinct : (joined : ℕ → Bool) (name base : ℕ) (names : List ℕ) → IsRenaming joined name base names
    → AreDistinct names → AreDistinct (map (renamed_name joined name) names)
renamed_distinct joined name base [] is distinct = tt
renamed_distinct joined name base (x ∷ xs) is (new, distinct) = (
  step (joined x) refl,
  renamed_distinct joined name base xs (renaming_tail joined name base x xs is) distinct,
)
  where
    step : (b : Bool) → joined x ≡ b → is_in (map (renamed_name joined name) xs) (cond b name x) ≡ false
    step true e =
        renamed_new joined name base xs (renaming_tail joined name base x xs is)
        ∙ (ap (is_in xs) (sym (is.alone x (is_in-head x xs) e)) ∙ new)
    step false e =
        renamed_other joined name x xs e
        (λ same. both_ways (is_in (x ∷ xs) name) is.fresh (subst (λ m. is_in (x ∷ xs) m ≡ true) same (is_in-head x xs)))
        ∙ new
