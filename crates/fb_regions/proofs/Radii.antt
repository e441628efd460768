-- The sum of the radii of a node and of those round it, as nodes change.
use Rattle.std.proofs.Common.{ℕ, zero, suc, ◌≡◌, ◌+◌, ◌<◌, ◌==◌, ◌⊎◌, inl, inr, cond, Bool, true, false, List, [], ◌∷◌, ◌++◌, length, map, set, get_or, Option, Some, None, refl, sym, ap, ◌∙◌, arith, add-zero, if◌then◌else◌}
use Rattle.std.specs.List.{All, remove}
use Rattle.std.proofs.lemmas.Bool.{both_ways, false≢true, false_from_ne_true, eq-eqb, eqb-true, or_left, or_right}
use Rattle.std.proofs.lemmas.List.Elements.{All-head, All-tail}
use Rattle.fb_graph.specs.Parity.{is_in}
use Rattle.fb_graph.specs.Certificate.{AreDistinct}
use Rattle.fb_regions.specs.declared.region.Region.{Region}
use Rattle.fb_regions.specs.InternalNodes.{reparented_region, radii_from, root_from}
use Rattle.fb_regions.proofs.ByName.{name_known}

-- the sum for the node of this name; 0 where there is none
abbrev pub above : List Region → Option ℕ → ℕ
above rs None = 0
above rs (Some q) = radii_from rs q

above_by : (rs ss : List Region) → ((x : ℕ) → radii_from rs x ≡ radii_from ss x) → (o : Option ℕ) → above rs o ≡ above ss o
above_by rs ss h None = refl
above_by rs ss h (Some q) = h q

abbrev choose : Bool → ℕ → ℕ → ℕ → ℕ
choose b r up rest = if b then r + up else rest

radii_cons : (r s : Region) (rs ss : List Region) → r.name ≡ s.name → r.radius ≡ s.radius → above rs r.parent ≡ above ss s.parent
    → ((x : ℕ) → radii_from rs x ≡ radii_from ss x) → (x : ℕ) → radii_from (r ∷ rs) x ≡ radii_from (s ∷ ss) x
radii_cons r s rs ss names radii up rest x =
    ap (λ n. choose (n == x) r.radius (above rs r.parent) (radii_from rs x)) names
    ∙ (ap (λ n. choose (s.name == x) n (above rs r.parent) (radii_from rs x)) radii
    ∙ (ap (λ n. choose (s.name == x) s.radius n (radii_from rs x)) up
    ∙ ap (λ n. choose (s.name == x) s.radius (above ss s.parent) n) (rest x)))

pub radii_push : (rs : List Region) (new : Region) → new.radius ≡ 0 → new.parent ≡ None → (x : ℕ) → radii_from (rs ++ new ∷ []) x ≡ radii_from rs x
radii_push [] new bare alone x =
    ap (λ o. choose (new.name == x) new.radius (above [] o) 0) alone ∙ (ap (λ n. choose (new.name == x) n 0 0) bare ∙ by (new.name == x))
  where
    by : (b : Bool) → choose b 0 0 0 ≡ 0
    by true = refl
    by false = refl
radii_push (r ∷ rs) new bare alone x =
    radii_cons r r (rs ++ new ∷ []) rs refl refl (above_by (rs ++ new ∷ []) rs (radii_push rs new bare alone) r.parent) (radii_push rs new bare alone) x

pub radii_set : (rs : List Region) (i : ℕ) (old new : Region) → old ≡ get_or rs i old → i < length rs → new.name ≡ old.name → new.radius ≡ old.radius
    → new.parent ≡ old.parent → (x : ℕ) → radii_from (set rs i new) x ≡ radii_from rs x
radii_set [] i old new at less names radii parents x = absurd (omega arith)
radii_set (r ∷ rs) zero old new at less names radii parents x =
    radii_cons new r rs rs (names ∙ ap (λ y. y.name) at) (radii ∙ ap (λ y. y.radius) at) (ap (above rs) (parents ∙ ap (λ y. y.parent) at)) (λ y. refl) x
radii_set (r ∷ rs) (suc i) old new at less names radii parents x =
    radii_cons r r (set rs i new) rs refl refl (above_by (set rs i new) rs (radii_set rs i old new at (omega arith) names radii parents) r.parent)
    (radii_set rs i old new at (omega arith) names radii parents) x

-- a node without radius and without one round it
abbrev pub IsBare : ℕ → Region → Type 0
IsBare b r = r.name ≡ b → (r.radius ≡ 0) × (r.parent ≡ None)

pub no_radii : (rs : List Region) (b : ℕ) → All (IsBare b) rs → radii_from rs b ≡ 0
no_radii [] b bare = refl
no_radii (r ∷ rs) b bare = by (r.name == b) refl (no_radii rs b (All-tail (IsBare b) r rs bare))
  where
    by : (c : Bool) → (r.name == b) ≡ c → radii_from rs b ≡ 0 → radii_from (r ∷ rs) b ≡ 0
    by true e rest =
        let is = All-head (IsBare b) r rs bare (eqb-true r.name b e) in
        ap (λ c. choose c r.radius (above rs r.parent) (radii_from rs b)) e ∙ (ap (λ n. n + above rs r.parent) is.0 ∙ (ap (λ o. 0 + above rs o) is.1 ∙ refl))
    by false e rest = ap (λ c. choose c r.radius (above rs r.parent) (radii_from rs b)) e ∙ rest

-- where a bare node may come or go round these
abbrev pub MayAdopt : List ℕ → ℕ → Region → Type 0
MayAdopt names b r = is_in names r.name ≡ true → (r.parent ≡ None) ⊎ (r.parent ≡ Some b)

pub radii_adopted : (rs : List Region) (names : List ℕ) (b : ℕ) (o : Option ℕ) → (o ≡ None) ⊎ (o ≡ Some b) → All (IsBare b) rs → All (MayAdopt names b) rs
    → (x : ℕ) → radii_from (map (reparented_region names o) rs) x ≡ radii_from rs x
radii_adopted [] names b o is bare may x = refl
radii_adopted (r ∷ rs) names b o is bare may x =
    radii_cons (reparented_region names o r) r (map (reparented_region names o) rs) rs (same_name (is_in names r.name)) (same_radius (is_in names r.name))
    (by (is_in names r.name) refl (radii_adopted rs names b o is (All-tail (IsBare b) r rs bare) (All-tail (MayAdopt names b) r rs may)))
    (radii_adopted rs names b o is (All-tail (IsBare b) r rs bare) (All-tail (MayAdopt names b) r rs may)) x
  where
    same_name : (c : Bool) → (if c then record r { parent = o } else r).name ≡ r.name
    same_name true = refl
    same_name false = refl

    same_radius : (c : Bool) → (if c then record r { parent = o } else r).radius ≡ r.radius
    same_radius true = refl
    same_radius false = refl

    nothing : (ss : List Region) (p : Option ℕ) → (p ≡ None) ⊎ (p ≡ Some b) → radii_from ss b ≡ 0 → above ss p ≡ 0
    nothing ss p (inl e) h = ap (above ss) e
    nothing ss p (inr e) h = ap (above ss) e ∙ h

    by : (c : Bool) → is_in names r.name ≡ c → ((y : ℕ) → radii_from (map (reparented_region names o) rs) y ≡ radii_from rs y)
        → above (map (reparented_region names o) rs) (if c then record r { parent = o } else r).parent ≡ above rs r.parent
    by true e rest =
        let none : radii_from rs b ≡ 0 = no_radii rs b (All-tail (IsBare b) r rs bare) in
        nothing (map (reparented_region names o) rs) o is (rest b ∙ none) ∙ sym (nothing rs r.parent (All-head (MayAdopt names b) r rs may e) none)
    by false e rest = above_by (map (reparented_region names o) rs) rs rest r.parent

pub radii_removed : (rs : List Region) (i b : ℕ) (old : Region) → old ≡ get_or rs i old → i < length rs → old.name ≡ b → All (IsBare b) rs
    → (x : ℕ) → radii_from (remove rs i) x ≡ radii_from rs x
radii_removed [] i b old at less named bare x = absurd (omega arith)
radii_removed (r ∷ rs) zero b old at less named bare x = by (r.name == x) refl
  where
    by : (c : Bool) → (r.name == x) ≡ c → radii_from rs x ≡ radii_from (r ∷ rs) x
    by false e = sym (ap (λ c. choose c r.radius (above rs r.parent) (radii_from rs x)) e)
    by true e =
        let same : x ≡ b = sym (eqb-true r.name x e) ∙ (ap (λ y. y.name) (sym at) ∙ named) in
        ap (radii_from rs) same ∙ (no_radii rs b (All-tail (IsBare b) r rs bare) ∙ sym (ap (radii_from (r ∷ rs)) same ∙ no_radii (r ∷ rs) b bare))
radii_removed (r ∷ rs) (suc i) b old at less named bare x =
    radii_cons r r (remove rs i) rs refl refl
    (above_by (remove rs i) rs (radii_removed rs i b old at (omega arith) named (All-tail (IsBare b) r rs bare)) r.parent)
    (radii_removed rs i b old at (omega arith) named (All-tail (IsBare b) r rs bare)) x

abbrev pub is_some_of : Option ℕ → ℕ → Bool
is_some_of None y = false
is_some_of (Some z) y = z == y

root_known : (rs : List Region) (x y : ℕ) → is_some_of (root_from rs x) y ≡ true → is_in (map (λ r. r.name) rs) y ≡ true
root_known [] x y h = absurd (false≢true h)
root_known (r ∷ rs) x y h = by (r.name == x) refl h (λ z k. root_known rs z y k)
  where
    by : (b : Bool) → (r.name == x) ≡ b
        → is_some_of (if b then elim r.parent as (λ o. Option ℕ) [ None ↦ Some x | Some q ↦ root_from rs q ] else root_from rs x) y ≡ true
        → ((z : ℕ) → is_some_of (root_from rs z) y ≡ true → is_in (map (λ s. s.name) rs) y ≡ true) → is_in (map (λ s. s.name) (r ∷ rs)) y ≡ true
    by false e k rest = or_right (r.name == y) (is_in (map (λ s. s.name) rs) y) (rest x k)
    by true e k rest = up r.parent k
      where
        up : (o : Option ℕ) → is_some_of (elim o as (λ z. Option ℕ) [ None ↦ Some x | Some q ↦ root_from rs q ]) y ≡ true
            → is_in (map (λ s. s.name) (r ∷ rs)) y ≡ true
        up None k' = or_left (r.name == y) (is_in (map (λ s. s.name) rs) y) (ap (λ z. r.name == z) (sym (eqb-true x y k')) ∙ e)
        up (Some q) k' = or_right (r.name == y) (is_in (map (λ s. s.name) rs) y) (rest q k')

abbrev root_above : List Region → ℕ → Option ℕ → Option ℕ
root_above rs x None = Some x
root_above rs x (Some q) = root_from rs q

-- an outer node's radius changes the sums of those under it
pub radii_shifted : (rs : List Region) (i a b : ℕ) (old new : Region) → AreDistinct (map (λ r. r.name) rs) → old ≡ get_or rs i old → i < length rs
    → new.name ≡ old.name → old.parent ≡ None → new.parent ≡ None → new.radius + a ≡ old.radius + b
    → (x : ℕ) → radii_from (set rs i new) x + cond (is_some_of (root_from rs x) old.name) a 0
    ≡ radii_from rs x + cond (is_some_of (root_from rs x) old.name) b 0
radii_shifted [] i a b old new distinct at less names alone too radii x = absurd (omega arith)
radii_shifted (r ∷ rs) zero a b old new distinct at less names alone too radii x = by (r.name == x) refl
  where
    by : (c : Bool) → (r.name == x) ≡ c
        → radii_from (new ∷ rs) x + cond (is_some_of (root_from (r ∷ rs) x) old.name) a 0
        ≡ radii_from (r ∷ rs) x + cond (is_some_of (root_from (r ∷ rs) x) old.name) b 0
    by true e =
        let here : radii_from (r ∷ rs) x ≡ r.radius =
        ap (λ c. choose c r.radius (above rs r.parent) (radii_from rs x)) e ∙ (ap (λ o. r.radius + above rs o) (ap (λ y. y.parent) (sym at) ∙ alone) ∙ add-zero r.radius) in
        let there : radii_from (new ∷ rs) x ≡ new.radius =
        ap (λ n. choose (n == x) new.radius (above rs new.parent) (radii_from rs x)) (names ∙ ap (λ y. y.name) at)
        ∙ (ap (λ c. choose c new.radius (above rs new.parent) (radii_from rs x)) e ∙ (ap (λ o. new.radius + above rs o) too ∙ add-zero new.radius)) in
        let root : is_some_of (root_from (r ∷ rs) x) old.name ≡ true =
        ap (λ c. is_some_of (if c then root_above rs x r.parent else root_from rs x) old.name) e
        ∙ (ap (λ o. is_some_of (root_above rs x o) old.name) (ap (λ y. y.parent) (sym at) ∙ alone)
        ∙ eq-eqb x old.name (sym (eqb-true r.name x e) ∙ ap (λ y. y.name) (sym at))) in
        omega (arith, here, there, radii, ap (λ c. cond c a 0) root, ap (λ c. cond c b 0) root, ap (λ y. y.radius) at)
    by false e =
        let here : radii_from (r ∷ rs) x ≡ radii_from rs x = ap (λ c. choose c r.radius (above rs r.parent) (radii_from rs x)) e in
        let there : radii_from (new ∷ rs) x ≡ radii_from rs x =
        ap (λ n. choose (n == x) new.radius (above rs new.parent) (radii_from rs x)) (names ∙ ap (λ y. y.name) at)
        ∙ ap (λ c. choose c new.radius (above rs new.parent) (radii_from rs x)) e in
        let root : is_some_of (root_from (r ∷ rs) x) old.name ≡ false =
        ap (λ c. is_some_of (if c then root_above rs x r.parent else root_from rs x) old.name) e
        ∙ false_from_ne_true (is_some_of (root_from rs x) old.name)
        (λ k. both_ways (is_in (map (λ s. s.name) rs) old.name) (ap (λ y. is_in (map (λ s. s.name) rs) y.name) at ∙ distinct.0) (root_known rs x old.name k)) in
        omega (arith, here, there, ap (λ c. cond c a 0) root, ap (λ c. cond c b 0) root)
radii_shifted (r ∷ rs) (suc i) a b old new distinct at less names alone too radii x =
    by (r.name == x) refl (radii_shifted rs i a b old new distinct.1 at (omega arith) names alone too radii)
  where
    other : (x == old.name) ≡ true → (r.name == x) ≡ true → ⊥
    other e f =
        both_ways (is_in (map (λ s. s.name) rs) r.name) distinct.0
        (ap (is_in (map (λ s. s.name) rs)) (eqb-true r.name x f ∙ eqb-true x old.name e) ∙ name_known rs i old at (omega arith))

    by : (c : Bool) → (r.name == x) ≡ c
        → ((y : ℕ) → radii_from (set rs i new) y + cond (is_some_of (root_from rs y) old.name) a 0
        ≡ radii_from rs y + cond (is_some_of (root_from rs y) old.name) b 0)
        → radii_from (r ∷ set rs i new) x + cond (is_some_of (root_from (r ∷ rs) x) old.name) a 0
        ≡ radii_from (r ∷ rs) x + cond (is_some_of (root_from (r ∷ rs) x) old.name) b 0
    by false e rest =
        let root : is_some_of (root_from (r ∷ rs) x) old.name ≡ is_some_of (root_from rs x) old.name =
        ap (λ c. is_some_of (if c then root_above rs x r.parent else root_from rs x) old.name) e in
        omega (
          arith,
          ap (λ c. choose c r.radius (above rs r.parent) (radii_from rs x)) e,
          ap (λ c. choose c r.radius (above (set rs i new) r.parent) (radii_from (set rs i new) x)) e,
          rest x,
          ap (λ c. cond c a 0) root,
          ap (λ c. cond c b 0) root,
        )
    by true e rest = up r.parent refl
      where
        up : (o : Option ℕ) → r.parent ≡ o
            → radii_from (r ∷ set rs i new) x + cond (is_some_of (root_from (r ∷ rs) x) old.name) a 0
            ≡ radii_from (r ∷ rs) x + cond (is_some_of (root_from (r ∷ rs) x) old.name) b 0
        up o f =
            omega (
              arith,
              ap (λ c. choose c r.radius (above rs r.parent) (radii_from rs x)) e,
              ap (λ c. choose c r.radius (above (set rs i new) r.parent) (radii_from (set rs i new) x)) e,
              ap (above rs) f,
              ap (above (set rs i new)) f,
              ap (λ c. cond c a 0) (root o f),
              ap (λ c. cond c b 0) (root o f),
              level o,
            )
          where
            root : (p : Option ℕ) → r.parent ≡ p → is_some_of (root_from (r ∷ rs) x) old.name ≡ is_some_of (root_above rs x p) old.name
            root p g =
                ap (λ c. is_some_of (if c then root_above rs x r.parent else root_from rs x) old.name) e
                ∙ ap (λ q. is_some_of (root_above rs x q) old.name) g

            level : (p : Option ℕ) → above (set rs i new) p + cond (is_some_of (root_above rs x p) old.name) a 0
                ≡ above rs p + cond (is_some_of (root_above rs x p) old.name) b 0
            level (Some q) = rest q
            level None =
                let no : (x == old.name) ≡ false = false_from_ne_true (x == old.name) (λ k. other k e) in
                omega (arith, ap (λ c. cond c a 0) no, ap (λ c. cond c b 0) no)
