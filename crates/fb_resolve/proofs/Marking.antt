-- Marks that go up from a node to the blossoms round it.
use Rattle.std.proofs.Common.{◌≡◌, ◌≢◌, inl, inr, ℕ, ◌+◌, ◌<◌, ◌==◌, ◌⊎◌, Bool, true, false, cond, List, length, get_or, Option, Some, None, is_some, sum_by, refl, sym, ◌∙◌, ap, subst, arith}
use Rattle.std.proofs.Math.ListN.{set}
use Rattle.std.proofs.lemmas.Bool.{both_ways, cases_Bool, eqb-true, eqb-false}
use Rattle.std.proofs.lemmas.List.{get_or-set_other, get_or-set_same}
use Rattle.std.proofs.lemmas.List.Sums.{sum_by-set}
use Rattle.std.proofs.lemmas.Option.{same_Some}
use Rattle.fb_blossoms.specs.Nodes.{AreWithin, IsNested, IsParent, Node, cycle_at, cycle_of, defects_at, is_live, is_on, node_at}
use Rattle.fb_blossoms.proofs.Rounds.{child_within}
use Rattle.fb_resolve.specs.InternalMarks.{is_marked}

abbrev pub unmarked : Bool → ℕ
unmarked b = cond b 0 1

-- a mark on a node without one leaves fewer without
pub fewer_unmarked : (marks : List Bool) (y : ℕ) → y < length marks → get_or marks y false ≡ false
    → sum_by unmarked (set marks y true) < sum_by unmarked marks
fewer_unmarked marks y less none =
    let e : sum_by unmarked (set marks y true) + unmarked (get_or marks y false) ≡ sum_by unmarked marks + unmarked true =
    sum_by-set unmarked marks y true false less in
    let one : unmarked (get_or marks y false) ≡ 1 = ap unmarked none in
    omega (arith, e, one)

-- what holds on the way up, with the node next to be marked
pub record IsGoingUp (store : List (Option Node)) (old marks : List Bool) (node : ℕ) (next : Option ℕ) : Type 0 where
  pub live : (y : ℕ) → next ≡ Some y → is_live store y ≡ true
  pub closed : (p x : ℕ) → is_on (cycle_at store p) x ≡ true → is_marked marks x ≡ true
      → (is_marked marks p ≡ true) ⊎ (next ≡ Some p)
  pub reached : (is_marked marks node ≡ true) ⊎ (next ≡ Some node)
  pub kept : (x : ℕ) → is_marked old x ≡ true → is_marked marks x ≡ true
  pub only : (x : ℕ) → is_marked marks x ≡ true
      → (is_marked old x ≡ true) ⊎ AreWithin (defects_at store node) (defects_at store x)
  pub within : (y : ℕ) → next ≡ Some y → AreWithin (defects_at store node) (defects_at store y)

parent_live : (o : Option Node) (y : ℕ) → is_on (cycle_of o) y ≡ true → is_some o ≡ true
parent_live None y on = absurd (both_ways false refl on)
parent_live (Some n) y on = refl

pub going_on : (store : List (Option Node)) (old marks : List Bool) (node y : ℕ) (next : Option ℕ) → IsNested store
    → IsGoingUp store old marks node (Some y) → y < length marks → is_marked marks y ≡ false → IsParent store y next
    → IsGoingUp store old (set marks y true) node next
going_on store old marks node y next nested up less none parent = record {
  live = λ p e. parent_live (node_at store p) y (on_next p e);
  closed = closed;
  reached = inl (elim up.reached [ inl h ↦ kept node h | inr e ↦ here node (same_Some y node e) ]);
  kept = λ x h. kept x (up.kept x h);
  only = only;
  within = λ p e d h. child_within store nested p y (on_next p e) d (up.within y refl d h);
}
  where
    here : (x : ℕ) → y ≡ x → is_marked (set marks y true) x ≡ true
    here x e = ap (is_marked (set marks y true)) (sym e) ∙ get_or-set_same marks y true false less

    other : (x : ℕ) → x ≢ y → is_marked (set marks y true) x ≡ is_marked marks x
    other x differ = get_or-set_other marks y x true false differ

    kept : (x : ℕ) → is_marked marks x ≡ true → is_marked (set marks y true) x ≡ true
    kept x h = elim (cases_Bool (y == x)) [
      | inl e ↦ here x (eqb-true y x e)
      | inr e ↦ other x (λ same. eqb-false y x e (sym same)) ∙ h
    ]

    on_next : (p : ℕ) → next ≡ Some p → is_on (cycle_at store p) y ≡ true
    on_next p e = let P : Option ℕ → Type 0 = IsParent store y in subst P e parent

    is_next : (p : ℕ) (o : Option ℕ) → IsParent store y o → is_on (cycle_at store p) y ≡ true → o ≡ Some p
    is_next p None outer on = absurd (both_ways (is_on (cycle_at store p) y) (outer p) on)
    is_next p (Some q) on_q on = ap Some (nested.once q p y on_q on)

    closed : (p x : ℕ) → is_on (cycle_at store p) x ≡ true → is_marked (set marks y true) x ≡ true
        → (is_marked (set marks y true) p ≡ true) ⊎ (next ≡ Some p)
    closed p x on h = elim (cases_Bool (y == x)) [
      | inl e ↦ inr (is_next p next parent (ap (is_on (cycle_at store p)) (eqb-true y x e) ∙ on))
      | inr e ↦
          elim (up.closed p x on (sym (other x (λ same. eqb-false y x e (sym same))) ∙ h)) [
            | inl marked ↦ inl (kept p marked)
            | inr same ↦ inl (here p (same_Some y p same))
          ]
    ]

    only : (x : ℕ) → is_marked (set marks y true) x ≡ true
        → (is_marked old x ≡ true) ⊎ AreWithin (defects_at store node) (defects_at store x)
    only x h = elim (cases_Bool (y == x)) [
      | inl e ↦
          let P : ℕ → Type 0 = λ z. AreWithin (defects_at store node) (defects_at store z) in
          inr (subst P (eqb-true y x e) (up.within y refl))
      | inr e ↦ up.only x (sym (other x (λ same. eqb-false y x e (sym same))) ∙ h)
    ]
