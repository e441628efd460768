-- The new numbers of the links that move, as a function of their old ones.
use Rattle.std.proofs.Common.{ℕ, ◌≡◌, ◌⊎◌, ◌==◌, Bool, true, false, ◌||◌, cond, List, [], ◌∷◌, Option, Some, None, All, refl, sym, ap, ◌∙◌, subst, inl, inr}
use Rattle.std.specs.Prelude.{is_some}
use Rattle.std.proofs.lemmas.Bool.{eqb-true, eq-eqb, or_cases, or_left, or_right, false≢true}
use Rattle.std.proofs.lemmas.Option.{none-some}
use Rattle.std.proofs.lemmas.List.Elements.{All-head, All-tail}
use Rattle.fb_links.specs.Lists.{AreDistinct, is_in}
use Rattle.fb_links.specs.declared.walk.Step.{Step}
use Rattle.fb_links.specs.Table.{is_live, link_at}
use Rattle.fb_links.specs.Merged.{AreMerged, IsMoved, old_numbers, new_numbers}
use Rattle.fb_links.specs.Names.{name_by}
use Rattle.fb_links.specs.Laws.{IsRenamed}
use Rattle.fb_links.proofs.Lists.{unequal}

-- what holds of each pair holds of a listed number and its new one
pair_of : (P : ℕ × ℕ → Type 0) (pairs : List (ℕ × ℕ)) (id : ℕ) → is_in (old_numbers pairs) id ≡ true → All P pairs
    → P (id, name_by pairs id)
pair_of P [] id is all = absurd (false≢true is)
pair_of P (p ∷ ps) id is all =
    by (p.0 == id) refl (λ there. pair_of P ps id there (All-tail P p ps all)) is
  where
    by : (t : Bool) → (p.0 == id) ≡ t → (is_in (old_numbers ps) id ≡ true → P (id, name_by ps id))
        → (t || is_in (old_numbers ps) id) ≡ true → P (id, cond t p.1 (name_by ps id))
    by true same rest there = subst (λ k. P (k, p.1)) (eqb-true p.0 id same) (All-head P p ps all)
    by false other rest there = rest there

renamed_in : (pairs : List (ℕ × ℕ)) (id : ℕ) → is_in (old_numbers pairs) id ≡ true
    → is_in (new_numbers pairs) (name_by pairs id) ≡ true
renamed_in [] id is = absurd (false≢true is)
renamed_in (p ∷ ps) id is = by (p.0 == id) (renamed_in ps id) is
  where
    by : (t : Bool) → (is_in (old_numbers ps) id ≡ true → is_in (new_numbers ps) (name_by ps id) ≡ true)
        → (t || is_in (old_numbers ps) id) ≡ true → is_in (new_numbers (p ∷ ps)) (cond t p.1 (name_by ps id)) ≡ true
    by true rest there = or_left (p.1 == p.1) (is_in (new_numbers ps) p.1) (eq-eqb p.1 p.1 refl)
    by false rest there = or_right (p.1 == name_by ps id) (is_in (new_numbers ps) (name_by ps id)) (rest there)

renamed_apart : (pairs : List (ℕ × ℕ)) (a b : ℕ) → AreDistinct (new_numbers pairs) → is_in (old_numbers pairs) a ≡ true
    → is_in (old_numbers pairs) b ≡ true → name_by pairs a ≡ name_by pairs b → a ≡ b
renamed_apart [] a b apart first second same = absurd (false≢true first)
renamed_apart (p ∷ ps) a b apart first second same =
    by (p.0 == a) (p.0 == b) refl refl (renamed_apart ps a b apart.1) first second same
  where
    clash : (k : ℕ) → is_in (old_numbers ps) k ≡ true → p.1 ≡ name_by ps k → ⊥
    clash k there is = false≢true (sym apart.0 ∙ (ap (is_in (new_numbers ps)) is ∙ renamed_in ps k there))

    by : (s t : Bool) → (p.0 == a) ≡ s → (p.0 == b) ≡ t
        → (is_in (old_numbers ps) a ≡ true → is_in (old_numbers ps) b ≡ true → name_by ps a ≡ name_by ps b → a ≡ b)
        → (s || is_in (old_numbers ps) a) ≡ true
        → (t || is_in (old_numbers ps) b) ≡ true → cond s p.1 (name_by ps a) ≡ cond t p.1 (name_by ps b) → a ≡ b
    by true true at_a at_b rest in_a in_b is = sym (eqb-true p.0 a at_a) ∙ eqb-true p.0 b at_b
    by true false at_a at_b rest in_a in_b is = absurd (clash b in_b is)
    by false true at_a at_b rest in_a in_b is = absurd (clash a in_a (sym is))
    by false false at_a at_b rest in_a in_b is = rest in_a in_b is

old_of : (pairs : List (ℕ × ℕ)) (id : ℕ) → AreDistinct (old_numbers pairs) → is_in (new_numbers pairs) id ≡ true
    → (old : ℕ) × (is_in (old_numbers pairs) old ≡ true) × (name_by pairs old ≡ id)
old_of [] id once is = absurd (false≢true is)
old_of (p ∷ ps) id once is =
    elim (or_cases (p.1 == id) (is_in (new_numbers ps) id) is) [ inl here ↦ head here | inr there ↦ tail (old_of ps id once.1 there) ]
  where
    head : (p.1 == id) ≡ true → (old : ℕ) × (is_in (old_numbers (p ∷ ps)) old ≡ true) × (name_by (p ∷ ps) old ≡ id)
    head here =
        let self = eq-eqb p.0 p.0 refl in (
          p.0,
          or_left (p.0 == p.0) (is_in (old_numbers ps) p.0) self,
          ap (λ t. cond t p.1 (name_by ps p.0)) self ∙ eqb-true p.1 id here,
        )

    tail : (old : ℕ) × (is_in (old_numbers ps) old ≡ true) × (name_by ps old ≡ id)
        → (old : ℕ) × (is_in (old_numbers (p ∷ ps)) old ≡ true) × (name_by (p ∷ ps) old ≡ id)
    tail (old, there, names) =
        let other = unequal p.0 old (λ same. false≢true (sym once.0 ∙ (ap (is_in (old_numbers ps)) same ∙ there))) in
        (old, or_right (p.0 == old) (is_in (old_numbers ps) old) there, ap (λ t. cond t p.1 (name_by ps old)) other ∙ names)

none_of : (left : List (Option (List Step))) (pairs : List (ℕ × ℕ)) (id : ℕ) → All (λ p. link_at left p.1 ≡ None) pairs
    → is_in (new_numbers pairs) id ≡ true → link_at left id ≡ None
none_of left [] id fresh is = absurd (false≢true is)
none_of left (p ∷ ps) id fresh is =
    elim (or_cases (p.1 == id) (is_in (new_numbers ps) id) is) [
      | inl here ↦
          ap (link_at left) (sym (eqb-true p.1 id here)) ∙ All-head (λ (p : ℕ × ℕ). link_at left p.1 ≡ None) p ps fresh
      | inr there ↦ none_of left ps id (All-tail (λ (p : ℕ × ℕ). link_at left p.1 ≡ None) p ps fresh) there
    ]

pub left_stays : (left right : List (Option (List Step))) (pairs : List (ℕ × ℕ)) (new : List (Option (List Step)))
    → AreMerged left right pairs new → (id : ℕ) (walk : List Step) → link_at left id ≡ Some walk → link_at new id ≡ Some walk
left_stays left right pairs new merged id walk is = by (is_in (new_numbers pairs) id) refl
  where
    by : (t : Bool) → is_in (new_numbers pairs) id ≡ t → link_at new id ≡ Some walk
    by true among = absurd (none-some walk (sym (none_of left pairs id merged.fresh among) ∙ is))
    by false among = merged.others id among ∙ is

pub right_renamed : (left right : List (Option (List Step))) (pairs : List (ℕ × ℕ)) (new : List (Option (List Step)))
    → AreMerged left right pairs new → (id : ℕ) → is_live right id ≡ true → IsRenamed left right pairs new id
right_renamed left right pairs new merged id live =
    let among = merged.listed id ∙ live in
    record {
      moved = (pair_of (IsMoved right new) pairs id among merged.moved).1;
      fresh = pair_of (λ (p : ℕ × ℕ). link_at left p.1 ≡ None) pairs id among merged.fresh;
      listed = renamed_in pairs id among;
    }

pub right_apart : (left right : List (Option (List Step))) (pairs : List (ℕ × ℕ)) (new : List (Option (List Step)))
    → AreMerged left right pairs new → (a b : ℕ) → is_live right a ≡ true → is_live right b ≡ true
    → name_by pairs a ≡ name_by pairs b → a ≡ b
right_apart left right pairs new merged a b first second same =
    renamed_apart pairs a b merged.apart (merged.listed a ∙ first) (merged.listed b ∙ second) same

pub either_one : (left right : List (Option (List Step))) (pairs : List (ℕ × ℕ)) (new : List (Option (List Step)))
    → AreMerged left right pairs new → (id : ℕ) → is_live new id ≡ true
    → (is_live left id ≡ true) ⊎ ((old : ℕ) × (is_live right old ≡ true) × (name_by pairs old ≡ id))
either_one left right pairs new merged id live = by (is_in (new_numbers pairs) id) refl
  where
    by : (t : Bool) → is_in (new_numbers pairs) id ≡ t
        → (is_live left id ≡ true) ⊎ ((old : ℕ) × (is_live right old ≡ true) × (name_by pairs old ≡ id))
    by true among =
        let found = old_of pairs id merged.once among in
        inr (found.0, sym (merged.listed found.0) ∙ found.1, found.2)
    by false among = inl (sym (ap is_some (merged.others id among)) ∙ live)
