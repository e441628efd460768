-- What legs become, together.
use Rattle.std.proofs.Common.{◌≡◌, List, [], ◌∷◌, ◌++◌, ℕ, Option, refl, sym, ◌∙◌, ap, subst, append_assoc}
use Rattle.std.proofs.lemmas.List.{append-nil}
use Rattle.fb_links.specs.declared.walk.Step.{Step}
use Rattle.fb_blossoms.specs.declared.legs.Leg.{Leg}
use Rattle.fb_blossoms.specs.Nodes.{Node}
use Rattle.fb_blossoms.specs.InternalLegs.{AllBecome, AreLegs, Becomes}

module _ (links : List (Option (List Step))) where
  module _ (nodes : List (Option Node)) where
    pub become_split : (xs ys : List Leg) (q : List ℕ) → AllBecome links nodes (xs ++ ys) q
        → (qx : List ℕ) × (qy : List ℕ) × (q ≡ qy ++ qx) × AllBecome links nodes xs qx × AllBecome links nodes ys qy
    become_split [] ys q h = ([], q, sym (append-nil q), refl, h)
    become_split (x ∷ xs) ys q h =
        let r = become_split xs ys h.1 h.4 in
        (r.0 ++ h.0, r.1, h.2 ∙ (ap (λ f. f ++ h.0) r.2 ∙ append_assoc r.1 r.0 h.0), (h.0, r.0, refl, h.3, r.3), r.4)

    pub become_both : (xs ys : List Leg) (qx qy : List ℕ) → AllBecome links nodes xs qx → AllBecome links nodes ys qy → AllBecome links nodes (xs ++ ys) (qy ++ qx)
    become_both [] ys qx qy g h =
        let e : qy ++ qx ≡ qy = ap (λ q. qy ++ q) g ∙ append-nil qy in
        let P : List ℕ → Type 0 = AllBecome links nodes ys in
        subst P (sym e) h
    become_both (x ∷ xs) ys qx qy g h =
        (g.0, qy ++ g.1, ap (λ q. qy ++ q) g.2 ∙ sym (append_assoc qy g.1 g.0), g.3, become_both xs ys g.1 qy g.4 h)

    pub become_one : (x : Leg) (q : List ℕ) → AllBecome links nodes (x ∷ []) q → Becomes links nodes x q
    become_one x q h =
        let e : q ≡ h.0 = h.2 ∙ ap (λ f. f ++ h.0) h.4 in
        let P : List ℕ → Type 0 = Becomes links nodes x in
        subst P (sym e) h.3

    pub one_become : (x : Leg) (q : List ℕ) → Becomes links nodes x q → AllBecome links nodes (x ∷ []) q
    one_become x q h = (q, [], refl, h, refl)

    pub legs_both : (xs ys : List Leg) → AreLegs nodes xs → AreLegs nodes ys → AreLegs nodes (xs ++ ys)
    legs_both [] ys g h = h
    legs_both (x ∷ xs) ys g h = (g.0, legs_both xs ys g.1 h)

    pub legs_split : (xs ys : List Leg) → AreLegs nodes (xs ++ ys) → AreLegs nodes xs × AreLegs nodes ys
    legs_split [] ys h = (tt, h)
    legs_split (x ∷ xs) ys h = let r = legs_split xs ys h.1 in ((h.0, r.0), r.1)
