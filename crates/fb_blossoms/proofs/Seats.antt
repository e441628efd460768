-- The places of the nodes in a cycle.
use Rattle.std.proofs.Common.{◌≡◌, inl, inr, ℕ, suc, ◌+◌, ◌<◌, ◌==◌, ◌||◌, Bool, true, false, if◌then◌else◌, List, [], ◌∷◌, ◌++◌, length, length-take-le, take, Option, Some, None, option_map, refl, sym, ◌∙◌, ap, arith}
use Rattle.std.proofs.Math.Bool.{or-false}
use Rattle.std.proofs.lemmas.Bool.{both_ways, cases_Bool, eqb-true, or_cases}
use Rattle.std.proofs.lemmas.List.{take_more}
use Rattle.std.proofs.lemmas.List.Folds.{list_any-append}
use Rattle.fb_links.specs.declared.cycle.CycleStep.{CycleStep}
use Rattle.fb_blossoms.specs.InternalItems.{Item}
use Rattle.fb_blossoms.specs.Nodes.{is_on}
use Rattle.fb_blossoms.specs.Links.{step_at}
use Rattle.fb_blossoms.specs.InternalForest.{IsPlaceOf, last_place, reparented_item, with_parent}

pub last_place_is : (cycle : List CycleStep) (x : ℕ) → is_on cycle x ≡ true → IsPlaceOf cycle x (last_place cycle x)
last_place_is [] x on = absurd (both_ways false refl on)
last_place_is (s ∷ ss) x on =
    elim (cases_Bool (is_on ss x)) [
      | inl later ↦ let r : IsPlaceOf ss x (last_place ss x) = last_place_is ss x later in rw later (omega (arith, r.0), r.1)
      | inr off ↦
          elim (or_cases (s.node == x) (is_on ss x) on) [
            | inl here ↦ rw off (omega arith, eqb-true s.node x here)
            | inr later ↦ absurd (both_ways (is_on ss x) off later)
          ]
    ]

on_push : (xs : List CycleStep) (s : CycleStep) (x : ℕ) (b : Bool) → (s.node == x) ≡ b → is_on (xs ++ s ∷ []) x ≡ (is_on xs x || (b || false))
on_push xs s x b e = list_any-append (λ t. t.node == x) xs (s ∷ []) ∙ ap (λ c. is_on xs x || (c || false)) e

or_true : (b : Bool) → (b || (true || false)) ≡ true
or_true true = refl
or_true false = refl

last_here : (xs : List CycleStep) (s : CycleStep) (x : ℕ) → (s.node == x) ≡ true → last_place (xs ++ s ∷ []) x ≡ length xs
last_here [] s x e = refl
last_here (y ∷ ys) s x e = rw (on_push ys s x true e ∙ or_true (is_on ys x)) (ap suc (last_here ys s x e))

last_before : (xs : List CycleStep) (s : CycleStep) (x : ℕ) → (s.node == x) ≡ false → is_on xs x ≡ true → last_place (xs ++ s ∷ []) x ≡ last_place xs x
last_before [] s x e on = absurd (both_ways false refl on)
last_before (y ∷ ys) s x e on =
    elim (cases_Bool (is_on ys x)) [
      | inl later ↦ rw (on_push ys s x false e ∙ or-false (is_on ys x), later) (ap suc (last_before ys s x e later))
      | inr off ↦ rw (on_push ys s x false e ∙ or-false (is_on ys x), off) refl
    ]

under_twice : (b : Bool) (q : Option ℕ) (j k : ℕ) (o : Option Item)
    → option_map (with_parent q k) (if b then option_map (with_parent q j) o else o) ≡ option_map (with_parent q k) o
under_twice true q j k None = refl
under_twice true q j k (Some i) = refl
under_twice false q j k o = refl

-- one more step of the cycle puts its node under the parent
pub seated_push : (xs : List CycleStep) (s : CycleStep) (q : Option ℕ) (x : ℕ) (o : Option Item)
    → reparented_item (xs ++ s ∷ []) q x o ≡ (if s.node == x then option_map (with_parent q (length xs)) (reparented_item xs q x o) else reparented_item xs q x o)
seated_push xs s q x o =
    elim (cases_Bool (s.node == x)) [
      | inl e ↦
          rw (e, on_push xs s x true e ∙ or_true (is_on xs x), last_here xs s x e)
          (sym (under_twice (is_on xs x) q (last_place xs x) (length xs) o))
      | inr e ↦
          elim (cases_Bool (is_on xs x)) [
            | inl on ↦ rw (e, on_push xs s x false e ∙ or-false (is_on xs x), last_before xs s x e on) refl
            | inr off ↦ rw (e, on_push xs s x false e ∙ or-false (is_on xs x), off) refl
          ]
    ]

pub seated_next : (cycle : List CycleStep) (i : ℕ) (q : Option ℕ) (x : ℕ) (o : Option Item) → i < length cycle
    → reparented_item (take (i + 1) cycle) q x o
    ≡ (if (step_at cycle i).node == x then option_map (with_parent q i) (reparented_item (take i cycle) q x o) else reparented_item (take i cycle) q x o)
seated_next cycle i q x o less =
    let n : length (take i cycle) ≡ i = length-take-le i cycle (omega (arith, less)) in
    ap (λ c. reparented_item c q x o) (take_more cycle i (record { node = 0; link = 0 }) less)
    ∙ (seated_push (take i cycle) (step_at cycle i) q x o
    ∙ ap (λ j. if (step_at cycle i).node == x then option_map (with_parent q j) (reparented_item (take i cycle) q x o) else reparented_item (take i cycle) q x o) n)
