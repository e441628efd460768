-- Whose pieces a post hands out.
use Rattle.std.proofs.Common.{ℕ, ◌≡◌, Option, Some, None, [], ◌∷◌, ◌++◌, sym, ap, subst, ◌∙◌}
use Rattle.std.proofs.lemmas.Option.{same_Some}
use Rattle.atomic_table.specs.Table.{Me, rest}
use Rattle.fb_slots.specs.declared.views.Hand.{Hand}
use Rattle.fb_slots.specs.Slots.{Layout, TakesParent}

-- what the two exchanges find
module _ {P : Type 0} (IsPiece : ℕ → P → Type 0) (b : Layout) (k c : ℕ) (v : Hand)
    (w : Me (Option P) Hand) (t : TakesParent IsPiece b k c v w) where
  pub found : (left right : ℕ) (first second : P) (next : Me (Option P) Hand)
      → b.kids c ≡ Some (left, right) → w.1 ≡ (left, Some first) ∷ rest w.1
      → next.1 ≡ rest w.1 ++ (left, None) ∷ [] → next.1 ≡ (right, Some second) ∷ rest next.1
      → IsPiece left first × IsPiece right second
  found left right first second next kids one mid two =
      let pair : ◌≡◌ {A = ℕ × ℕ} (t.left, t.right) (left, right) =
      same_Some (t.left, t.right) (left, right) (sym t.kids ∙ kids) in
      let l : t.left ≡ left = ap (λ (x : ℕ × ℕ). x.0) pair in
      let r : t.right ≡ right = ap (λ (x : ℕ × ℕ). x.1) pair in
      let a : (t.left, Some t.first) ∷ (t.right, Some t.second) ∷ (c, None) ∷ [] ≡ (
        left,
        Some
            first,
      ) ∷ rest w.1 = sym t.held ∙ one in
      let a' : ◌≡◌ {A = ℕ × Option P} (t.left, Some t.first) (left, Some first) = cc in
      let f : t.first ≡ first = same_Some t.first first (ap (λ (x : ℕ × Option P). x.1) a') in
      let tail : rest w.1 ≡ (t.right, Some t.second) ∷ (c, None) ∷ [] = ap rest t.held in
      let d : (t.right, Some t.second) ∷ (c, None) ∷ (left, None) ∷ [] ≡ (right, Some second) ∷ rest
      next.1 = sym (mid ∙ ap (λ x. x ++ (left, None) ∷ []) tail) ∙ two in
      let d' : ◌≡◌ {A = ℕ × Option P} (t.right, Some t.second) (right, Some second) = cc in
      let s : t.second ≡ second = same_Some t.second second (ap (λ (x : ℕ × Option P). x.1) d') in (
        subst (λ x. IsPiece x first) l (subst (IsPiece t.left) f t.first_is),
        subst (λ x. IsPiece x second) r (subst (IsPiece t.right) s t.second_is),
      )
