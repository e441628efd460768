-- The pace of a node by its name, and how it is read from the names of those that move.
use Rattle.std.proofs.Common.{ℕ, ◌≡◌, ◌==◌, ◌&&◌, ◌||◌, Bool, true, false, List, [], ◌∷◌, map, filter, set, get_or, Some, None, refl, sym, ap, ◌∙◌, if◌then◌else◌}
use Rattle.std.proofs.lemmas.Bool.{eqb-true, false≢true, or_parts, false_from_ne_true, eq-eqb, both_ways}
use Rattle.fb_graph.specs.Certificate.{AreDistinct}
use Rattle.fb_graph.specs.Parity.{is_in}
use Rattle.fb_regions.specs.declared.region.Region.{Region}
use Rattle.fb_regions.specs.declared.roles.Role.{Role}
use Rattle.fb_regions.specs.declared.roles.Role.TheVariants.{Plus, Minus, Out}
use Rattle.fb_regions.specs.InternalClock.{names_paced}
use Rattle.fb_regions.specs.Paces.{grows, shrinks}
use Rattle.fb_regions.proofs.ByName.{names, placed, placed_here, placed_past}
use Rattle.fb_regions.proofs.Climbs.{next, no_next}

-- the pace of the node of this name, if there is one
abbrev pub pace_named : List Region → ℕ → Role
pace_named [] name = Out
pace_named (r ∷ rs) name = if r.name == name then r.pace else pace_named rs name

paced_by : (test : Role → Bool) (x : Region) (xs : List Region) (n : ℕ)
    → is_in (names_paced test (x ∷ xs)) n ≡ ((test x.pace && (x.name == n)) || is_in (names_paced test xs) n)
paced_by test x xs n = by (test x.pace)
  where
    by : (b : Bool) → is_in (map (λ r. r.name) (if b then x ∷ filter (λ r. test r.pace) xs else filter (λ r. test r.pace) xs)) n
        ≡ ((b && (x.name == n)) || is_in (names_paced test xs) n)
    by true = refl
    by false = refl

unpaced : (test : Role → Bool) (rs : List Region) (n : ℕ) → is_in (names rs) n ≡ false → is_in (names_paced test rs) n ≡ false
unpaced test [] n out = refl
unpaced test (x ∷ xs) n out =
    let parts = or_parts (x.name == n) (is_in (names xs) n) out in
    paced_by test x xs n ∙ rw (parts.0, unpaced test xs n parts.1) (by (test x.pace))
  where
    by : (b : Bool) → ((b && false) || false) ≡ false
    by true = refl
    by false = refl

-- the named node's pace passes the test, or there is no such node
pub paced_named : (test : Role → Bool) → test Out ≡ false → (rs : List Region) (n : ℕ) → AreDistinct (names rs)
    → is_in (names_paced test rs) n ≡ test (pace_named rs n)
paced_named test still [] n distinct = sym still
paced_named test still (x ∷ xs) n distinct =
    paced_by test x xs n ∙ by (x.name == n) refl (test x.pace) refl (paced_named test still xs n distinct.1)
  where
    by : (b : Bool) → (x.name == n) ≡ b → (t : Bool) → test x.pace ≡ t → is_in (names_paced test xs) n ≡ test (pace_named xs n)
        → ((t && b) || is_in (names_paced test xs) n) ≡ test (if b then x.pace else pace_named xs n)
    by true e true f rest = sym f
    by true e false f rest = unpaced test xs n (ap (is_in (names xs)) (sym (eqb-true x.name n e)) ∙ distinct.0) ∙ sym f
    by false e true f rest = rest
    by false e false f rest = rest

-- the pace of a name, read from the names of those that move, as contracts read it
abbrev pub pace_by : List Region → ℕ → Role
pace_by rs n = if is_in (names_paced grows rs) n then Plus else if is_in (names_paced shrinks rs) n then Minus else Out

pub pace_read : (rs : List Region) (n : ℕ) → AreDistinct (names rs) → pace_by rs n ≡ pace_named rs n
pace_read rs n distinct =
    rw (paced_named grows refl rs n distinct, paced_named shrinks refl rs n distinct) (by (pace_named rs n))
  where
    by : (p : Role) → (if grows p then Plus else if shrinks p then Minus else Out) ≡ p
    by Plus = refl
    by Minus = refl
    by Out = refl

-- no node both grows and shrinks
pub paced_apart : (rs : List Region) (n : ℕ) → AreDistinct (names rs) → is_in (names_paced grows rs) n ≡ true → is_in (names_paced shrinks rs) n ≡ false
paced_apart rs n distinct h =
    paced_named shrinks refl rs n distinct ∙ by (pace_named rs n) (sym (paced_named grows refl rs n distinct) ∙ h)
  where
    by : (p : Role) → grows p ≡ true → shrinks p ≡ false
    by Plus e = refl
    by Minus e = absurd (false≢true e)
    by Out e = refl

-- the pace of the node found by its name
pub pace_found : (rs : List Region) (n i : ℕ) (r : Region) → placed n rs ≡ Some i → r ≡ get_or rs i r → pace_named rs n ≡ r.pace
pace_found [] n i r at is = absurd (let clash : None ≡ Some i = at in cc)
pace_found (x ∷ xs) n i r at is = by (x.name == n) refl (λ j. pace_found xs n j r)
  where
    by : (b : Bool) → (x.name == n) ≡ b → ((j : ℕ) → placed n xs ≡ Some j → r ≡ get_or xs j r → pace_named xs n ≡ r.pace)
        → pace_named (x ∷ xs) n ≡ r.pace
    by true e rest =
        let zeros : Some 0 ≡ Some i = sym (placed_here x xs n e) ∙ at in
        let none : i ≡ 0 = cc in
        let same : r ≡ x = is ∙ ap (λ j. get_or (x ∷ xs) j r) none in
        rw e (ap (λ y. y.pace) (sym same))
    by false e rest =
        let m = next (placed n xs) i (sym (placed_past x xs n e) ∙ at) in
        rw e (rest m.before m.at (is ∙ ap (λ j. get_or (x ∷ xs) j r) m.is))

pub pace_missing : (rs : List Region) (n : ℕ) → placed n rs ≡ None → pace_named rs n ≡ Out
pace_missing [] n out = refl
pace_missing (x ∷ xs) n out = by (x.name == n) refl (pace_missing xs n)
  where
    by : (b : Bool) → (x.name == n) ≡ b → (placed n xs ≡ None → pace_named xs n ≡ Out) → pace_named (x ∷ xs) n ≡ Out
    by true e rest = absurd (let clash : Some 0 ≡ None = sym (placed_here x xs n e) ∙ out in cc)
    by false e rest = rw e (rest (no_next (placed n xs) (sym (placed_past x xs n e) ∙ out)))

-- the paces where that of the node at a place is changed
pub pace_set : (rs : List Region) (name i : ℕ) (new : Region) → placed name rs ≡ Some i → new.name ≡ name → (n : ℕ)
    → pace_named (set rs i new) n ≡ (if n == name then new.pace else pace_named rs n)
pace_set [] name i new at named n = absurd (let clash : None ≡ Some i = at in cc)
pace_set (x ∷ xs) name i new at named n = by (x.name == name) refl (n == name) refl (λ j e. pace_set xs name j new e named n)
  where
    by : (b : Bool) → (x.name == name) ≡ b → (a : Bool) → (n == name) ≡ a
        → ((j : ℕ) → placed name xs ≡ Some j → pace_named (set xs j new) n ≡ (if n == name then new.pace else pace_named xs n))
        → pace_named (set (x ∷ xs) i new) n ≡ (if a then new.pace else pace_named (x ∷ xs) n)
    by true e true f rest =
        let zeros : Some 0 ≡ Some i = sym (placed_here x xs name e) ∙ at in
        let none : 0 ≡ i = cc in
        let own : (new.name == n) ≡ true = eq-eqb new.name n (named ∙ sym (eqb-true n name f)) in
        rw (← none, own) refl
    by true e false f rest =
        let zeros : Some 0 ≡ Some i = sym (placed_here x xs name e) ∙ at in
        let none : 0 ≡ i = cc in
        let other : (new.name == n) ≡ false = false_from_ne_true (new.name == n) (λ h. both_ways (n == name) f (eq-eqb n name (sym (eqb-true new.name n h) ∙ named))) in
        let before : (x.name == n) ≡ false = false_from_ne_true (x.name == n) (λ h. both_ways (n == name) f (eq-eqb n name (sym (eqb-true x.name n h) ∙ eqb-true x.name name e))) in
        rw (← none, other, before) refl
    by false e true f rest =
        let m = next (placed name xs) i (sym (placed_past x xs name e) ∙ at) in
        let other : (x.name == n) ≡ false = false_from_ne_true (x.name == n) (λ h. both_ways (x.name == name) e (eq-eqb x.name name (eqb-true x.name n h ∙ eqb-true n name f))) in
        rw (m.is, other) (rest m.before m.at ∙ ap (λ b. if b then new.pace else pace_named xs n) f)
    by false e false f rest =
        let m = next (placed name xs) i (sym (placed_past x xs name e) ∙ at) in
        rw m.is (ap (λ p. if x.name == n then x.pace else p) (rest m.before m.at ∙ ap (λ b. if b then new.pace else pace_named xs n) f))
