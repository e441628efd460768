-- Which child of a blossom holds a defect.
use Rattle.std.proofs.Common.{◌≡◌, ◌≢◌, ◌⊎◌, inl, inr, ℕ, true, false, List, [], ◌∷◌, Option, Some, None, refl, sym, ◌∙◌, ap}
use Rattle.std.proofs.lemmas.Bool.{both_ways}
use Rattle.fb_links.specs.Lists.{is_in}
use Rattle.fb_links.specs.declared.cycle.CycleStep.{CycleStep}
use Rattle.fb_blossoms.specs.Nodes.{IsNested, Node, cycle_at, cycle_of, defects_at, defects_along, defects_of, is_on, leaf, node_at}
use Rattle.fb_blossoms.proofs.Nested.{is_in-one}
use Rattle.fb_blossoms.proofs.Held.{from_along}

-- a node that holds a defect is its leaf, or one of its children holds the defect
pub held_below : (store : List (Option Node)) (x d : ℕ) → IsNested store → is_in (defects_at store x) d ≡ true
    → (node_at store x ≡ Some (leaf d))
    ⊎ ((y : ℕ) × (is_on (cycle_at store x) y ≡ true) × (is_in (defects_at store y) d ≡ true))
held_below store x d nested h = at (node_at store x) refl
  where
    at : (o : Option Node) → node_at store x ≡ o
        → (node_at store x ≡ Some (leaf d))
        ⊎ ((y : ℕ) × (is_on (cycle_at store x) y ≡ true) × (is_in (defects_at store y) d ≡ true))
    at None e = absurd (both_ways false refl (sym (ap (λ o. is_in (defects_of o) d) e) ∙ h))
    at (Some n) e = elim (nested.shaped x n e) [
      | inl l ↦
          let held : is_in (l.0 ∷ []) d ≡ true = sym (ap (λ o. is_in (defects_of o) d) (e ∙ ap Some l.1)) ∙ h in
          inl (e ∙ ap Some (l.1 ∙ ap leaf (is_in-one l.0 d held)))
      | inr b ↦
          let held : is_in (defects_along store n.cycle) d ≡ true =
          sym (ap (λ ds. is_in ds d) b.defects) ∙ (sym (ap (λ o. is_in (defects_of o) d) e) ∙ h) in
          let r : (s : CycleStep) × (is_on n.cycle s.node ≡ true) × (is_in (defects_at store s.node) d ≡ true) =
          from_along (λ s. defects_at store s.node) n.cycle d held in
          inr (r.0.node, ap (λ o. is_on (cycle_of o) r.0.node) e ∙ r.1, r.2)
    ]

pub child_below : (store : List (Option Node)) (x d : ℕ) → IsNested store → cycle_at store x ≢ [] → is_in (defects_at store x) d ≡ true
    → (y : ℕ) × (is_on (cycle_at store x) y ≡ true) × (is_in (defects_at store y) d ≡ true)
child_below store x d nested some h =
    elim (held_below store x d nested h) [
      | inl e ↦ absurd (some (ap cycle_of e))
      | inr r ↦ r
    ]
