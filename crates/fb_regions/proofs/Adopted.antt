-- A parent given to some nodes, one by one.
use Rattle.std.proofs.Common.{ℕ, ◌≡◌, ◌==◌, ◌||◌, Bool, true, false, List, [], ◌∷◌, ◌++◌, map, set, get_or, Option, Some, None, refl, sym, ap, ◌∙◌, if◌then◌else◌}
use Rattle.std.proofs.Math.Bool.{or-false}
use Rattle.std.proofs.lemmas.Bool.{eq-eqb, eqb-true, false_from_ne_true, both_ways, or_right}
use Rattle.fb_graph.specs.Parity.{is_in}
use Rattle.fb_graph.specs.Certificate.{AreDistinct}
use Rattle.fb_graph.proofs.Members.{is_in_push}
use Rattle.fb_regions.specs.declared.region.Region.{Region}
use Rattle.fb_regions.specs.InternalNodes.{reparented_region}
use Rattle.fb_regions.proofs.Climbs.{next, no_next}
use Rattle.fb_regions.proofs.ByName.{names, not_placed, placed, placed_here, placed_past}

adopted_other : (cs : List ℕ) (name : ℕ) (o : Option ℕ) (r : Region) → (r.name == name) ≡ false → reparented_region (cs ++ name ∷ []) o r ≡ reparented_region cs o r
adopted_other cs name o r other =
    ap (λ b. if b then record r { parent = o } else r)
    (is_in_push cs name r.name
    ∙ (ap (λ b. is_in cs r.name || b) (false_from_ne_true (name == r.name) (λ e. both_ways (r.name == name) other (eq-eqb r.name name (sym (eqb-true name r.name e)))))
    ∙ or-false (is_in cs r.name)))

adopted_own : (cs : List ℕ) (name : ℕ) (o : Option ℕ) (r : Region) → (r.name == name) ≡ true
    → reparented_region (cs ++ name ∷ []) o r ≡ record (reparented_region cs o r) { parent = o }
adopted_own cs name o r own =
    ap (λ b. if b then record r { parent = o } else r)
    (is_in_push cs name r.name ∙ or_right (is_in cs r.name) (name == r.name) (eq-eqb name r.name (sym (eqb-true r.name name own))))
    ∙ by (is_in cs r.name)
  where
    by : (b : Bool) → record r { parent = o } ≡ record (if b then record r { parent = o } else r) { parent = o }
    by true = refl
    by false = refl

pub adopted_no_names : (o : Option ℕ) (rs : List Region) → map (reparented_region [] o) rs ≡ rs
adopted_no_names o [] = refl
adopted_no_names o (r ∷ rs) = ap (λ l. r ∷ l) (adopted_no_names o rs)

-- no node of the name
pub adopted_none : (rs : List Region) (cs : List ℕ) (name : ℕ) (o : Option ℕ) → placed name rs ≡ None
    → map (reparented_region (cs ++ name ∷ []) o) rs ≡ map (reparented_region cs o) rs
adopted_none [] cs name o out = refl
adopted_none (r ∷ rs) cs name o out = by (r.name == name) refl (adopted_none rs cs name o)
  where
    by : (b : Bool) → (r.name == name) ≡ b → (placed name rs ≡ None → map (reparented_region (cs ++ name ∷ []) o) rs ≡ map (reparented_region cs o) rs)
        → map (reparented_region (cs ++ name ∷ []) o) (r ∷ rs) ≡ map (reparented_region cs o) (r ∷ rs)
    by true e rest = absurd (let clash : Some 0 ≡ None = sym (placed_here r rs name e) ∙ out in cc)
    by false e rest =
        ap (λ y. y ∷ map (reparented_region (cs ++ name ∷ []) o) rs) (adopted_other cs name o r e)
        ∙ ap (λ l. reparented_region cs o r ∷ l) (rest (no_next (placed name rs) (sym (placed_past r rs name e) ∙ out)))

-- the node of the name
pub adopted_at : (rs : List Region) (cs : List ℕ) (name : ℕ) (o : Option ℕ) (i : ℕ) (r : Region) → AreDistinct (names rs) → placed name rs ≡ Some i
    → r ≡ get_or (map (reparented_region cs o) rs) i r → set (map (reparented_region cs o) rs) i (record r { parent = o }) ≡ map (reparented_region (cs ++ name ∷ []) o) rs
adopted_at [] cs name o i r distinct at is = absurd (let clash : None ≡ Some i = at in cc)
adopted_at (x ∷ xs) cs name o i r distinct at is = by (x.name == name) refl (λ j. adopted_at xs cs name o j r distinct.1)
  where
    by : (b : Bool) → (x.name == name) ≡ b
        → ((j : ℕ) → placed name xs ≡ Some j → r ≡ get_or (map (reparented_region cs o) xs) j r
        → set (map (reparented_region cs o) xs) j (record r { parent = o }) ≡ map (reparented_region (cs ++ name ∷ []) o) xs)
        → set (map (reparented_region cs o) (x ∷ xs)) i (record r { parent = o }) ≡ map (reparented_region (cs ++ name ∷ []) o) (x ∷ xs)
    by true e rest =
        let zeros : Some 0 ≡ Some i = sym (placed_here x xs name e) ∙ at in
        let none : i ≡ 0 = cc in
        ap (λ j. set (map (reparented_region cs o) (x ∷ xs)) j (record r { parent = o })) none
        ∙ (ap (λ y. y ∷ map (reparented_region cs o) xs)
        (ap {A = Region} {B = Region} (λ y. record y { parent = o }) (is ∙ ap (λ j. get_or (map (reparented_region cs o) (x ∷ xs)) j r) none) ∙ sym (adopted_own cs name o x e))
        ∙ ap (λ l. reparented_region (cs ++ name ∷ []) o x ∷ l)
        (sym (adopted_none xs cs name o (not_placed xs name (ap (is_in (names xs)) (sym (eqb-true x.name name e)) ∙ distinct.0)))))
    by false e rest =
        let n = next (placed name xs) i (sym (placed_past x xs name e) ∙ at) in
        ap (λ j. set (map (reparented_region cs o) (x ∷ xs)) j (record r { parent = o })) n.is
        ∙ (ap (λ l. reparented_region cs o x ∷ l) (rest n.before n.at (is ∙ ap (λ j. get_or (map (reparented_region cs o) (x ∷ xs)) j r) n.is))
        ∙ ap (λ y. y ∷ map (reparented_region (cs ++ name ∷ []) o) xs) (sym (adopted_other cs name o x e)))
