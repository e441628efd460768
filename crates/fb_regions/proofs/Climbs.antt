-- From a node to the one that joins it, and on to the outer node.
use Rattle.std.proofs.Common.{ℕ, suc, ◌≡◌, ◌+◌, ◌<◌, ◌==◌, Bool, true, false, List, [], ◌∷◌, get_or, Option, Some, None, refl, sym, ap, ◌∙◌, subst, arith, add-zero, if◌then◌else◌, length, ◌-◌}
use Rattle.std.specs.List.{position_or_len}
use Rattle.std.specs.Prelude.{option_map}
use Rattle.fb_graph.specs.Parity.{is_in}
use Rattle.fb_regions.specs.declared.region.Climb.{Climb}
use Rattle.fb_regions.specs.declared.region.Region.{Region}
use Rattle.fb_regions.specs.InternalNodes.{radii_from, root_from}
use Rattle.fb_regions.specs.InternalPlaces.{AreJoinedAbove, IsJoinedIn}
use Rattle.fb_regions.proofs.ByName.{known_placed, names, other_name, placed, placed_here, placed_known, placed_past, first_placed}

abbrev root_above : List Region → ℕ → Option ℕ → Option ℕ
root_above rs x None = Some x
root_above rs x (Some q) = root_from rs q

abbrev radii_above : List Region → Option ℕ → ℕ
radii_above rs None = 0
radii_above rs (Some q) = radii_from rs q

root_here : (r : Region) (rs : List Region) (k : ℕ) → (r.name == k) ≡ true → root_from (r ∷ rs) k ≡ root_above rs k r.parent
root_here r rs k e = ap (λ b. if b then root_above rs k r.parent else root_from rs k) e

pub root_past : (r : Region) (rs : List Region) (k : ℕ) → (r.name == k) ≡ false → root_from (r ∷ rs) k ≡ root_from rs k
root_past r rs k e = ap (λ b. if b then root_above rs k r.parent else root_from rs k) e

radii_here : (r : Region) (rs : List Region) (k : ℕ) → (r.name == k) ≡ true → radii_from (r ∷ rs) k ≡ r.radius + radii_above rs r.parent
radii_here r rs k e = ap (λ b. if b then r.radius + radii_above rs r.parent else radii_from rs k) e

radii_past : (r : Region) (rs : List Region) (k : ℕ) → (r.name == k) ≡ false → radii_from (r ∷ rs) k ≡ radii_from rs k
radii_past r rs k e = ap (λ b. if b then r.radius + radii_above rs r.parent else radii_from rs k) e

pub no_next : (o : Option ℕ) → option_map suc o ≡ None → o ≡ None
no_next None e = refl
no_next (Some j) e = absurd (let clash : Some (suc j) ≡ None = e in cc)

-- what is said of q, which joins the node r of this name at place i
pub record IsClimb (rs : List Region) (name i q : ℕ) (r : Region) : Type 0 where
  pub place : ℕ
  pub at : placed q rs ≡ Some place
  pub later : i < place
  pub root : root_from rs q ≡ root_from rs name
  pub radii : radii_from rs name ≡ r.radius + radii_from rs q

-- a place in a list, where the first element is another
pub record IsNext (o : Option ℕ) (i : ℕ) : Type 0 where
  pub before : ℕ
  pub at : o ≡ Some before
  pub is : i ≡ suc before

pub next : (o : Option ℕ) (i : ℕ) → option_map suc o ≡ Some i → IsNext o i
next None i e = absurd (let clash : None ≡ Some i = e in cc)
next (Some j) i e = record { before = j; at = refl; is = let same : Some (suc j) ≡ Some i = e in cc }

pub stepped_up : (rs : List Region) (name i q : ℕ) (r : Region) → AreJoinedAbove rs → placed name rs ≡ Some i → r ≡ get_or rs i r → r.parent ≡ Some q
    → IsClimb rs name i q r
stepped_up [] name i q r joined at is parent = absurd (let clash : None ≡ Some i = at in cc)
stepped_up (x ∷ xs) name i q r joined at is parent = by (x.name == name) refl (λ j. stepped_up xs name j q r joined.2)
  where
    by : (b : Bool) → (x.name == name) ≡ b
        → ((j : ℕ) → placed name xs ≡ Some j → r ≡ get_or xs j r → r.parent ≡ Some q → IsClimb xs name j q r) → IsClimb (x ∷ xs) name i q r
    by true e rest =
        let zeros : Some 0 ≡ Some i = sym (placed_here x xs name e) ∙ at in
        let none : i ≡ 0 = cc in
        let same : r ≡ x = is ∙ ap (λ j. get_or (x ∷ xs) j r) none in
        let above : x.parent ≡ Some q = ap (λ y. y.parent) (sym same) ∙ parent in
        let known : is_in (names xs) q ≡ true = subst (IsJoinedIn xs) above joined.0 in
        let other : (x.name == q) ≡ false = other_name x xs q joined.1 known in
        let (j, there) = known_placed xs q known in
        record {
          place = suc j;
          at = placed_past x xs q other ∙ ap (option_map suc) there;
          later = omega arith;
          root = root_past x xs q other ∙ sym (root_here x xs name e ∙ ap (root_above xs name) above);
          radii =
              radii_here x xs name e
              ∙ (ap (λ o. x.radius + radii_above xs o) above
              ∙ (ap (λ n. x.radius + n) (sym (radii_past x xs q other)) ∙ ap (λ y. y.radius + radii_from (x ∷ xs) q) (sym same)));
        }
    by false e rest =
        let n = next (placed name xs) i (sym (placed_past x xs name e) ∙ at) in
        let up = rest n.before n.at (is ∙ ap (λ j. get_or (x ∷ xs) j r) n.is) parent in
        let other : (x.name == q) ≡ false = other_name x xs q joined.1 (placed_known xs q up.place up.at) in
        record {
          place = suc up.place;
          at = placed_past x xs q other ∙ ap (option_map suc) up.at;
          later = omega (arith, up.later, n.is);
          root = root_past x xs q other ∙ (up.root ∙ sym (root_past x xs name e));
          radii = radii_past x xs name e ∙ (up.radii ∙ ap (λ n'. r.radius + n') (sym (radii_past x xs q other)));
        }

-- an outer node
pub stepped_out : (rs : List Region) (name i : ℕ) (r : Region) → placed name rs ≡ Some i → r ≡ get_or rs i r → r.parent ≡ None
    → (root_from rs name ≡ Some name) × (radii_from rs name ≡ r.radius)
stepped_out [] name i r at is parent = absurd (let clash : None ≡ Some i = at in cc)
stepped_out (x ∷ xs) name i r at is parent = by (x.name == name) refl (λ j. stepped_out xs name j r)
  where
    by : (b : Bool) → (x.name == name) ≡ b
        → ((j : ℕ) → placed name xs ≡ Some j → r ≡ get_or xs j r → r.parent ≡ None → (root_from xs name ≡ Some name) × (radii_from xs name ≡ r.radius))
        → (root_from (x ∷ xs) name ≡ Some name) × (radii_from (x ∷ xs) name ≡ r.radius)
    by true e rest =
        let zeros : Some 0 ≡ Some i = sym (placed_here x xs name e) ∙ at in
        let none : i ≡ 0 = cc in
        let same : r ≡ x = is ∙ ap (λ j. get_or (x ∷ xs) j r) none in
        let above : x.parent ≡ None = ap (λ y. y.parent) (sym same) ∙ parent in (
          root_here x xs name e ∙ ap (root_above xs name) above,
          radii_here x xs name e
              ∙ (ap (λ o. x.radius + radii_above xs o) above ∙ (add-zero x.radius ∙ ap (λ y. y.radius) (sym same))),
        )
    by false e rest =
        let n = next (placed name xs) i (sym (placed_past x xs name e) ∙ at) in
        let up = rest n.before n.at (is ∙ ap (λ j. get_or (x ∷ xs) j r) n.is) parent in
        (root_past x xs name e ∙ up.0, radii_past x xs name e ∙ up.1)

-- where the climb from a node ends, and the radii on the way
abbrev pub climb_in : List Region → ℕ → Option Climb
climb_in rs leaf = option_map (λ root. record { root = root; radii = radii_from rs leaf }) (root_from rs leaf)

pub climb_ended : (rs : List Region) (leaf name radii : ℕ) → root_from rs leaf ≡ Some name → radii ≡ radii_from rs leaf
    → Some (record { root = name; radii = radii }) ≡ climb_in rs leaf
climb_ended rs leaf name radii root sum = rw (root, sum) refl

-- a climb that ends gives the outer node's name and the radii
pub climb_read : (rs : List Region) (leaf : ℕ) (c : Climb) → Some c ≡ climb_in rs leaf → (root_from rs leaf ≡ Some c.root) × (c.radii ≡ radii_from rs leaf)
climb_read rs leaf c e = by (root_from rs leaf) refl
  where
    by : (o : Option ℕ) → root_from rs leaf ≡ o → (root_from rs leaf ≡ Some c.root) × (c.radii ≡ radii_from rs leaf)
    by None f = absurd (let clash : Some c ≡ None = e ∙ sym (let none : None ≡ climb_in rs leaf = rw f refl in none) in cc)
    by (Some name) f =
        let same : Some c ≡ Some (record { root = name; radii = radii_from rs leaf }) = e ∙ sym (climb_ended rs leaf name (radii_from rs leaf) f refl) in
        let is : c ≡ record { root = name; radii = radii_from rs leaf } = cc in
        (f ∙ ap (λ x. Some x.root) (sym is), ap (λ x. x.radii) is)

-- a climb comes to an end: places rise
pub climb_rises : (rs : List Region) (name i q : ℕ) (r : Region) → placed name rs ≡ Some i → IsClimb rs name i q r
    → length rs - position_or_len (λ x. x.name == q) rs < length rs - position_or_len (λ x. x.name == name) rs
climb_rises rs name i q r at up =
    let one = first_placed rs name i at in
    let two = first_placed rs q up.place up.at in
    omega (arith, one.0, one.1, two.0, two.1, up.later)
