-- Items that are put into free slots, one after another.
use Rattle.std.proofs.Common.{◌≡◌, ◌≢◌, inl, inr, ℕ, ◌+◌, ◌<◌, ◌≤◌, ◌==◌, Bool, true, false, if◌then◌else◌, List, [], ◌∷◌, ◌++◌, nat_lt, Option, Some, None, is_some, option_map, refl, sym, ◌∙◌, ap, subst, arith}
use Rattle.std.proofs.lemmas.Bool.{both_ways, cases_Bool, cases_eq, eq-eqb, le-ltb, lt-ltb, ltb-true, ltb-false, ne_eqb}
use Rattle.slab.specs.Slab.{Slab, Updates, get}
use Rattle.fb_blossoms.specs.InternalItems.{Item}
use Rattle.fb_blossoms.specs.InternalForest.{is_kept, item_at}
use Rattle.fb_blossoms.specs.Merged.{new_count, old_count}
use Rattle.fb_blossoms.specs.InternalMerged.{AreTaken, IsStepOver, is_pair, shifted_item}
use Rattle.fb_blossoms.proofs.PairLists.{new_none, new_push, old_push, one_if, pair_before, pair_cases, pair_last}

abbrev among : Bool → Bool → ℕ
among b c = if b then (if c then 1 else 0) else 0

bound_more : (a key : ℕ) → (a ≡ key → ⊥) → nat_lt a (key + 1) ≡ nat_lt a key
bound_more a key n =
    elim (cases_Bool (nat_lt a key)) [
      | inl below ↦ let less : a < key = ltb-true a key below in lt-ltb a (key + 1) (omega (arith, less)) ∙ sym below
      | inr above ↦ let more : key ≤ a = ltb-false a key above in le-ltb a (key + 1) (omega (arith, more, n)) ∙ sym above
    ]

kept_some : (o : Option Item) (i : Item) → o ≡ Some i → is_some o ≡ true
kept_some o i e = ap (λ (o : Option Item). is_some o) e

kept_none : (o : Option Item) → o ≡ None → is_some o ≡ true → ⊥
kept_none o e h = both_ways (is_some o) (ap (λ (o : Option Item). is_some o) e) h

none_kept : (o : Option Item) → (is_some o ≡ true → ⊥) → o ≡ None
none_kept None h = refl
none_kept (Some i) h = absurd (h refl)

module _ (old right new new' : Slab Item) (more key : ℕ) (names names' : List (ℕ × ℕ)) (before : AreTaken old.slots right.slots new.slots more key names) where
  -- a number without an item takes nothing
  over_none : get right key ≡ None → new' ≡ new → names' ≡ names → AreTaken old.slots right.slots new'.slots more (key + 1) names'
  over_none gone same list =
      let P : Slab Item → Type 0 = λ s. AreTaken old.slots right.slots s.slots more (key + 1) names in
      let Q : List (ℕ × ℕ) → Type 0 = λ l. AreTaken old.slots right.slots new'.slots more (key + 1) l in
      subst Q (sym list) (subst P (sym same) record {
        listed = λ a. before.listed a ∙ still a;
        distinct = before.distinct;
        taken = before.taken;
        alive = before.alive;
        fresh = before.fresh;
        stays = before.stays;
        only = before.only;
      })
    where
      off : is_kept right.slots key ≡ false
      off = ap (λ (o : Option Item). is_some o) gone

      still : (a : ℕ) → among (is_kept right.slots a) (nat_lt a key) ≡ among (is_kept right.slots a) (nat_lt a (key + 1))
      still a =
          elim (cases_eq a key) [
            | inl e ↦
                let none : is_kept right.slots a ≡ false = ap (is_kept right.slots) e ∙ off in
                ap (λ t. among t (nat_lt a key)) none ∙ sym (ap (λ t. among t (nat_lt a (key + 1))) none)
            | inr n ↦ ap (among (is_kept right.slots a)) (sym (bound_more a key n))
          ]

  module _ (i : Item) (here : get right key ≡ Some i) (b : ℕ) (list : names' ≡ names ++ (key, b) ∷ []) (free : get new b ≡ None)
      (updates : Updates new new' b (Some (shifted_item more i))) where
    kept_key : is_kept right.slots key ≡ true
    kept_key = kept_some (get right key) i here

    not_before : (a x : ℕ) → is_pair names a x ≡ true → x ≢ b
    not_before a x h e =
        kept_none (get new x) (ap (get new) e ∙ free)
        (ap (λ (o : Option Item). is_some o) (before.taken a x h) ∙ some (item_at right.slots a) (before.alive a x h))
      where
        some : (o : Option Item) → is_some o ≡ true → is_some (option_map (shifted_item more) o) ≡ true
        some None h = h
        some (Some i) h = refl

    count : (a : ℕ) → old_count names' a ≡ among (is_kept right.slots a) (nat_lt a (key + 1))
    count a =
        ap (λ l. old_count l a) list ∙ (old_push names key b a ∙
        elim (cases_eq a key) [
          | inl e ↦
              let was : old_count names a ≡ 0 = before.listed a ∙ (ap (among (is_kept right.slots a)) (le-ltb a key (omega (arith, e))) ∙ zero_if (is_kept right.slots a)) in
              let now : (if key == a then 1 else 0) ≡ 1 = ap one_if (eq-eqb key a (sym e)) in
              let goal : among (is_kept right.slots a) (nat_lt a (key + 1)) ≡ 1 =
              ap (λ t. among t (nat_lt a (key + 1))) (ap (is_kept right.slots) e ∙ kept_key) ∙ ap one_if (lt-ltb a (key + 1) (omega (arith, e))) in
              omega (arith, was, now, goal)
          | inr n ↦
              let now : (if key == a then 1 else 0) ≡ 0 = ap one_if (ne_eqb key a (λ e. n (sym e))) in
              let same : among (is_kept right.slots a) (nat_lt a key) ≡ among (is_kept right.slots a) (nat_lt a (key + 1)) =
              ap (among (is_kept right.slots a)) (sym (bound_more a key n)) in
              omega (arith, before.listed a, now, same)
        ])
      where
        zero_if : (t : Bool) → among t false ≡ 0
        zero_if true = refl
        zero_if false = refl

    over_some : AreTaken old.slots right.slots new'.slots more (key + 1) names'
    over_some = record {
      listed = count;
      distinct = λ x.
          let push : new_count names' x ≡ new_count names x + one_if (b == x) = ap (λ l. new_count l x) list ∙ new_push names key b x in
          elim (cases_eq b x) [
            | inl e ↦
                let none : new_count names x ≡ 0 = new_none names x (λ a h. not_before a x h (sym e)) in
                let one : one_if (b == x) ≡ 1 = ap one_if (eq-eqb b x e) in
                omega (arith, push, none, one)
            | inr n ↦
                let zero : one_if (b == x) ≡ 0 = ap one_if (ne_eqb b x n) in
                omega (arith, push, before.distinct x, zero)
          ];
      taken = λ a x h.
          elim (pair_cases names key b a x (ap (λ l. is_pair l a x) (sym list) ∙ h)) [
            | inl was ↦ updates.others x (not_before a x was) ∙ before.taken a x was
            | inr last ↦
                ap (get new') (sym last.1) ∙ (updates.changed ∙ (sym (ap (option_map (shifted_item more)) here) ∙ ap (λ k. option_map (shifted_item more) (get right k)) last.0))
          ];
      alive = λ a x h.
          elim (pair_cases names key b a x (ap (λ l. is_pair l a x) (sym list) ∙ h)) [
            | inl was ↦ before.alive a x was
            | inr last ↦ ap (is_kept right.slots) (sym last.0) ∙ kept_key
          ];
      fresh = λ a x h.
          elim (pair_cases names key b a x (ap (λ l. is_pair l a x) (sym list) ∙ h)) [
            | inl was ↦ before.fresh a x was
            | inr last ↦ none_kept (get old x) (λ k. kept_none (get new x) (ap (get new) (sym last.1) ∙ free) (ap (λ (o : Option Item). is_some o) (before.stays x k) ∙ k))
          ];
      stays = λ x k. updates.others x (old_off x k) ∙ before.stays x k;
      only = λ x k.
          elim (cases_eq x b) [
            | inl e ↦ inr (key, ap (λ l. is_pair l key x) list ∙ (ap (λ y. is_pair (names ++ (key, b) ∷ []) key y) e ∙ pair_last names key b))
            | inr n ↦
                elim (before.only x (ap (λ (o : Option Item). is_some o) (sym (updates.others x n)) ∙ k)) [
                  | inl left ↦ inl left
                  | inr pair ↦ inr (pair.0, ap (λ l. is_pair l pair.0 x) list ∙ pair_before names key b pair.0 x pair.1)
                ]
          ];
    }
      where
        old_off : (x : ℕ) → is_kept old.slots x ≡ true → x ≢ b
        old_off x k e = kept_none (get new x) (ap (get new) e ∙ free) (ap (λ (o : Option Item). is_some o) (before.stays x k) ∙ k)

  pub over_one : (o : Option Item) → get right key ≡ o → IsStepOver new new' names names' key more o → AreTaken old.slots right.slots new'.slots more (key + 1) names'
  over_one None e step = over_none e step.0 step.1
  over_one (Some i) e step = over_some i e step.0 step.1 step.2 step.3
