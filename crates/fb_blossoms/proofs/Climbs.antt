-- The ways up from child to parent.
use Rattle.std.proofs.Common.{◌≡◌, ℕ, zero, suc, ◌≤◌, true, false, List, Option, Some, None, is_some, refl, sym, ◌∙◌, ap, subst, arith}
use Rattle.std.proofs.lemmas.Bool.{both_ways}
use Rattle.fb_blossoms.specs.InternalItems.{Item}
use Rattle.fb_blossoms.specs.Nodes.{is_on}
use Rattle.fb_blossoms.specs.InternalForest.{Climbs, IsForest, cycle_in, is_kept, item_at, made_at, parent_at, parent_in, steps_at}

-- a number has at most one parent
pub same_some : {X : Type 0} (o : Option X) (x y : X) → o ≡ Some x → o ≡ Some y → x ≡ y
same_some o x y e f = let g : Some x ≡ Some y = sym e ∙ f in cc

pub none_some : {X : Type 0} (o : Option X) (x : X) → o ≡ None → o ≡ Some x → ⊥
none_some o x e f = let g : None ≡ Some x = sym e ∙ f in absurd (cc)

pub kept_child : (slots : List (Option Item)) (x p : ℕ) → parent_at slots x ≡ Some p → is_kept slots x ≡ true
kept_child slots x p e = at (item_at slots x) e
  where
    at : (o : Option Item) → parent_in o ≡ Some p → is_some o ≡ true
    at None e = absurd (none_some {X = ℕ} None p refl e)
    at (Some i) e = refl

pub kept_parent : (slots : List (Option Item)) (x p : ℕ) → is_on (steps_at slots p) x ≡ true → is_kept slots p ≡ true
kept_parent slots x p e = at (item_at slots p) e
  where
    at : (o : Option Item) → is_on (cycle_in o) x ≡ true → is_some o ≡ true
    at None e = absurd (both_ways false refl e)
    at (Some i) e = refl

pub climb_more : (slots : List (Option Item)) (k x y p : ℕ) → Climbs slots k x y → parent_at slots y ≡ Some p → Climbs slots (suc k) x p
climb_more slots zero x y p c e = (p, ap (parent_at slots) c ∙ e, refl)
climb_more slots (suc k) x y p c e = (c.0, c.1, climb_more slots k c.0 y p c.2 e)

-- above a parent that is not yet the node there is one more step
pub climb_on : (slots : List (Option Item)) (k x p top : ℕ) → parent_at slots x ≡ Some p → (p ≡ top → ⊥) → Climbs slots (suc k) x top
    → (j : ℕ) × Climbs slots (suc j) p top
climb_on slots zero x p top e below c = absurd (below (same_some (parent_at slots x) p c.0 e c.1 ∙ c.2))
climb_on slots (suc k) x p top e below c =
    let same : p ≡ c.0 = same_some (parent_at slots x) p c.0 e c.1 in
    (k, (c.2.0, ap (parent_at slots) same ∙ c.2.1, c.2.2))

module _ (slots : List (Option Item)) (made : ℕ) (forest : IsForest slots made) where
  pub climb_older : (k x top : ℕ) → Climbs slots k x top → made_at slots x ≤ made_at slots top
  climb_older zero x top c = let e : made_at slots x ≡ made_at slots top = ap (made_at slots) c in omega arith
  climb_older (suc k) x top c = omega (arith, forest.older x c.0 c.1, climb_older k c.0 top c.2)

  -- two outer nodes above one leaf are one
  pub same_top : (i j l x y : ℕ) → Climbs slots i l x → Climbs slots j l y → parent_at slots x ≡ None → parent_at slots y ≡ None → x ≡ y
  same_top zero zero l x y c d e f = sym c ∙ d
  same_top zero (suc j) l x y c d e f = absurd (none_some (parent_at slots l) d.0 (ap (parent_at slots) c ∙ e) d.1)
  same_top (suc i) zero l x y c d e f = absurd (none_some (parent_at slots l) c.0 (ap (parent_at slots) d ∙ f) c.1)
  same_top (suc i) (suc j) l x y c d e f =
      let same : c.0 ≡ d.0 = same_some (parent_at slots l) c.0 d.0 c.1 d.1 in
      same_top i j c.0 x y c.2 (let P : ℕ → Type 0 = λ w. Climbs slots j w y in subst P (sym same) d.2) e f

  no_round : (j l y p : ℕ) → parent_at slots l ≡ Some p → parent_at slots y ≡ Some p → Climbs slots (suc j) l y → ⊥
  no_round j l y p e f d =
      let same : d.0 ≡ p = same_some (parent_at slots l) d.0 p d.1 e in
      let made_same : made_at slots d.0 ≡ made_at slots p = ap (made_at slots) same in
      omega (arith, climb_older j d.0 y d.2, forest.older y p f)

  -- two children of one node above one leaf are one
  pub same_child : (i j l x y p : ℕ) → Climbs slots i l x → Climbs slots j l y → parent_at slots x ≡ Some p → parent_at slots y ≡ Some p → x ≡ y
  same_child zero zero l x y p c d e f = sym c ∙ d
  same_child zero (suc j) l x y p c d e f = absurd (no_round j l y p (ap (parent_at slots) c ∙ e) f d)
  same_child (suc i) zero l x y p c d e f = absurd (no_round i l x p (ap (parent_at slots) d ∙ f) e c)
  same_child (suc i) (suc j) l x y p c d e f =
      let same : c.0 ≡ d.0 = same_some (parent_at slots l) c.0 d.0 c.1 d.1 in
      same_child i j c.0 x y p c.2 (let P : ℕ → Type 0 = λ w. Climbs slots j w y in subst P (sym same) d.2) e f
