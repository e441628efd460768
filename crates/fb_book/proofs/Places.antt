-- Items by their places: those of a slot stand together, in the order of their nodes.
use Rattle.std.proofs.Common.{ℕ, ◌≡◌, ◌+◌, ◌-◌, ◌*◌, ◌/◌, ◌%◌, ◌<◌, ◌≤◌, ◌==◌, Bool, true, false, is_some, Option, Some, None, List, length, get_or, if◌then◌else◌, ◌⊎◌, inl, inr, refl, sym, ap, subst, ◌∙◌, arith, slice_get}
use Rattle.std.proofs.lemmas.Bool.{eqb-true, eqb-false, eq-eqb, ne_eqb, lt-ltb, le-ltb, ltb-true, ltb-false, false≢true, cases_lt, or_left, or_right, or_cases}
use Rattle.std.proofs.lemmas.Nat.{div-add-mod', div-mul-add, mod-mul-add, mod_below}
use Rattle.std.proofs.lemmas.Option.{slice_get-get_or, same_Some}
use Rattle.std.specs.Prelude.{nat_lt}
use Rattle.fb_book.specs.Machine.{IsForest, is_child}
use Rattle.fb_book.specs.Board.{children_in, shifted_children, kids_in}
use Rattle.fb_book.specs.InternalBoard.{after_unit, AreParents}

-- a child of a shifted pair is a shifted child
pub child_of_shifted : (base : ℕ) (o : Option (ℕ × ℕ)) (c : ℕ) → is_child (shifted_children base o) c ≡ true
    → (m : ℕ) × (c ≡ base + m) × (is_child o m ≡ true)
child_of_shifted base None c h = absurd (false≢true h)
child_of_shifted base (Some (a, b)) c h = elim (or_cases (base + a == c) (base + b == c) h) [
  | inl e ↦ (a, sym (eqb-true (base + a) c e), or_left (a == a) (b == a) (eq-eqb a a refl))
  | inr e ↦ (b, sym (eqb-true (base + b) c e), or_right (a == b) (b == b) (eq-eqb b b refl))
]

pub shifted_child : (base : ℕ) (o : Option (ℕ × ℕ)) (m : ℕ) → is_child o m ≡ true
    → is_child (shifted_children base o) (base + m) ≡ true
shifted_child base None m h = absurd (false≢true h)
shifted_child base (Some (a, b)) m h = elim (or_cases (a == m) (b == m) h) [
  | inl e ↦ or_left (base + a == base + m) (base + b == base + m) (eq-eqb (base + a) (base + m) (ap (λ x. base + x) (eqb-true a m e)))
  | inr e ↦ or_right (base + a == base + m) (base + b == base + m) (eq-eqb (base + b) (base + m) (ap (λ x. base + x) (eqb-true b m e)))
]

-- the children of node m in slot s
pub kids_at : (units : ℕ) (joins : List (ℕ × ℕ)) (s m : ℕ) → m < units + length joins
    → kids_in units joins (s * (units + length joins) + m)
    ≡ shifted_children (s * (units + length joins)) (children_in units joins m)
kids_at units joins s m less =
    ap (λ x. shifted_children (x * n) (children_in units joins ((s * n + m) % n))) (div-mul-add s n m less)
    ∙ ap (λ x. shifted_children (s * n) (children_in units joins x)) (mod-mul-add s n m less)
  where
    n : ℕ
    n = units + length joins

-- an item without children is a unit
pub unit_below : (units : ℕ) (joins : List (ℕ × ℕ)) (s m : ℕ) → m < units + length joins
    → is_some (kids_in units joins (s * (units + length joins) + m)) ≡ false → m < units
unit_below units joins s m less none = step (nat_lt m units) refl
  where
    base : ℕ
    base = s * (units + length joins)

    step : (b : Bool) → nat_lt m units ≡ b → m < units
    step true e = ltb-true m units e
    step false e = absurd (false≢true (sym none ∙ some))
      where
        inside : m - units < length joins
        inside = let above : units ≤ m = ltb-false m units e in omega (arith, above, less)

        some : is_some (kids_in units joins (base + m)) ≡ true
        some =
            ap is_some (kids_at units joins s m less)
            ∙ (ap (λ b. is_some (shifted_children base (if b then None else slice_get joins (m - units)))) e
            ∙ ap (λ o. is_some (shifted_children base o)) (slice_get-get_or joins (m - units) (0, 0) inside))

-- a child by its slot and node
pub record ChildAt (units : ℕ) (joins : List (ℕ × ℕ)) (k c : ℕ) : Type 0 where
  pub node : ℕ
  pub place : c ≡ k / (units + length joins) * (units + length joins) + node
  pub child : is_child (children_in units joins (k % (units + length joins))) node ≡ true

pub child_at : (units : ℕ) (joins : List (ℕ × ℕ)) (k c : ℕ) → is_child (kids_in units joins k) c ≡ true
    → ChildAt units joins k c
child_at units joins k c h =
    let n = units + length joins in
    let (m, at, child) = child_of_shifted (k / n * n) (children_in units joins (k % n)) c h in
    record { node = m; place = at; child = child }

-- The items of all slots are a forest where the nodes are.
pub forest_of_places : (units : ℕ) (joins : List (ℕ × ℕ)) → 0 < units → IsForest (children_in units joins)
    → IsForest (kids_in units joins)
forest_of_places units joins some f = record {
  before = λ k c h.
      let a = child_at units joins k c h in
      let below : a.node < k % n = f.before (k % n) a.node a.child in
      let whole : k / n * n + k % n ≡ k = div-add-mod' k n in
      let at : c ≡ k / n * n + a.node = a.place in
      omega (arith, below, whole, at);
  differ = λ k pair e. apart k pair (children_in units joins (k % n)) refl e;
  once = λ j k c g h. same j k c (child_at units joins j c g) (child_at units joins k c h);
}
  where
    n : ℕ
    n = units + length joins

    apart : (k : ℕ) (pair : ℕ × ℕ) (o : Option (ℕ × ℕ)) → children_in units joins (k % n) ≡ o
        → shifted_children (k / n * n) (children_in units joins (k % n)) ≡ Some pair → (pair.0 == pair.1) ≡ false
    apart k pair None e h =
        let none : shifted_children (k / n * n) (children_in units joins (k % n)) ≡ None = ap (shifted_children (k / n * n)) e in
        cc
    apart k pair (Some (a, b)) e h =
        let base : ℕ = k / n * n in
        let is : Some (base + a, base + b) ≡ Some pair = sym (ap (shifted_children base) e) ∙ h in
        let pair_is : (base + a, base + b) ≡ pair = same_Some (base + a, base + b) pair is in
        let differ : (a == b) ≡ false = f.differ (k % n) (a, b) e in
        let left : pair.0 ≡ base + a = ap (λ x. x.0) (sym pair_is) in
        let right : pair.1 ≡ base + b = ap (λ x. x.1) (sym pair_is) in
        ne_eqb pair.0 pair.1 (λ s. eqb-false a b differ (let t : base + a ≡ base + b = sym left ∙ (s ∙ right) in omega (arith, t)))

    same : (j k c : ℕ) → ChildAt units joins j c → ChildAt units joins k c → j ≡ k
    same j k c a b =
        let positive : 0 < n = omega (arith, some) in
        let j_node : j % n < n = mod_below j n positive in
        let k_node : k % n < n = mod_below k n positive in
        let a_below : a.node < j % n = f.before (j % n) a.node a.child in
        let b_below : b.node < k % n = f.before (k % n) b.node b.child in
        let a_in : a.node < n = omega (arith, a_below, j_node) in
        let b_in : b.node < n = omega (arith, b_below, k_node) in
        let slots : j / n ≡ k / n =
        sym (div-mul-add (j / n) n a.node a_in) ∙ (ap (λ x. x / n) (sym a.place ∙ b.place) ∙ div-mul-add (k / n) n b.node b_in) in
        let nodes : a.node ≡ b.node =
        sym (mod-mul-add (j / n) n a.node a_in) ∙ (ap (λ x. x % n) (sym a.place ∙ b.place) ∙ mod-mul-add (k / n) n b.node b_in) in
        let parent : j % n ≡ k % n =
        f.once (j % n) (k % n) a.node a.child (subst (λ x. is_child (children_in units joins (k % n)) x ≡ true) (sym nodes) b.child) in
        sym (div-add-mod' j n) ∙ (ap (λ x. x * n + j % n) slots ∙ (ap (λ x. k / n * n + x) parent ∙ div-add-mod' k n))

-- The parent of an item is in its slot.
pub parent_is : (units : ℕ) (joins : List (ℕ × ℕ)) (parents : List (Option ℕ)) → AreParents units joins parents
    → (k m : ℕ) → 0 < units → get_or parents (k % (units + length joins)) None ≡ Some m
    → is_child (kids_in units joins (k / (units + length joins) * (units + length joins) + m)) k ≡ true
parent_is units joins parents p k m some e =
    let n : ℕ = units + length joins in
    let (below, child) = p.sound (k % n) m e in
    subst (λ o. is_child o k ≡ true) (sym (kids_at units joins (k / n) m below))
    (subst (λ x. is_child (shifted_children (k / n * n) (children_in units joins m)) x ≡ true) (div-add-mod' k n)
    (shifted_child (k / n * n) (children_in units joins m) (k % n) child))

pub no_parent : (units : ℕ) (joins : List (ℕ × ℕ)) (parents : List (Option ℕ)) → AreParents units joins parents
    → 0 < units → IsForest (children_in units joins)
    → (k : ℕ) → get_or parents (k % (units + length joins)) None ≡ None
    → (q : ℕ) → is_child (kids_in units joins q) k ≡ false
no_parent units joins parents p some f k e q = step (is_child (kids_in units joins q) k) refl
  where
    n : ℕ
    n = units + length joins

    step : (b : Bool) → is_child (kids_in units joins q) k ≡ b → b ≡ false
    step false h = refl
    step true h =
        let a = child_at units joins q k h in
        let q_node : q % n < n = mod_below q n (omega (arith, some)) in
        let below : a.node < q % n = f.before (q % n) a.node a.child in
        let node : k % n ≡ a.node =
        ap (λ x. x % n) a.place ∙ mod-mul-add (q / n) n a.node (omega (arith, q_node, below)) in
        let known : get_or parents a.node None ≡ Some (q % n) = p.whole a.node (q % n) a.child in
        let other : get_or parents a.node None ≡ None = ap (λ x. get_or parents x None) (sym node) ∙ e in
        cc

-- units and fusions
pub unit_node : (units : ℕ) (joins : List (ℕ × ℕ)) (m : ℕ) → m < units → children_in units joins m ≡ None
unit_node units joins m less = ap (λ b. if b then None else slice_get joins (m - units)) (lt-ltb m units less)

pub fusion_node : (units : ℕ) (joins : List (ℕ × ℕ)) (m : ℕ) → m < units + length joins → units ≤ m
    → is_some (children_in units joins m) ≡ true
fusion_node units joins m less more =
    ap (λ b. is_some (if b then None else slice_get joins (m - units))) (le-ltb m units more)
    ∙ ap is_some (slice_get-get_or joins (m - units) (0, 0) (omega (arith, less, more)))

pub some_shifted : (base : ℕ) (o : Option (ℕ × ℕ)) → is_some (shifted_children base o) ≡ is_some o
some_shifted base None = refl
some_shifted base (Some pair) = refl

pub unit_place : (units : ℕ) (joins : List (ℕ × ℕ)) (k : ℕ) → k % (units + length joins) < units
    → kids_in units joins k ≡ None
unit_place units joins k less =
    let n : ℕ = units + length joins in
    ap (shifted_children (k / n * n)) (unit_node units joins (k % n) less)

pub unit_of_place : (units : ℕ) (joins : List (ℕ × ℕ)) (k : ℕ) → 0 < units → kids_in units joins k ≡ None
    → k % (units + length joins) < units
unit_of_place units joins k some e = step (cases_lt (k % n) units)
  where
    n : ℕ
    n = units + length joins

    step : (k % n < units) ⊎ (units ≤ k % n) → k % n < units
    step (inl less) = less
    step (inr more) =
        let fusion : is_some (children_in units joins (k % n)) ≡ true =
        fusion_node units joins (k % n) (mod_below k n (omega (arith, some))) more in
        absurd (false≢true (ap is_some (sym e) ∙ (some_shifted (k / n * n) (children_in units joins (k % n)) ∙ fusion)))

pub after_unit_later : (units n k : ℕ) → units ≤ n → 0 < units → k < after_unit units n k
after_unit_later units n k le some = step (nat_lt (k % n + 1) units)
  where
    step : (b : Bool) → k < (if b then k + 1 else k / n * n + n)
    step true = omega arith
    step false =
        let whole : k / n * n + k % n ≡ k = div-add-mod' k n in
        let node : k % n < n = mod_below k n (omega (arith, le, some)) in
        omega (arith, whole, node)

pub after_unit_is : (units : ℕ) (joins : List (ℕ × ℕ)) (k : ℕ) → 0 < units
    → kids_in units joins (after_unit units (units + length joins) k) ≡ None
after_unit_is units joins k some = step (nat_lt (k % n + 1) units) refl
  where
    n : ℕ
    n = units + length joins

    step : (b : Bool) → nat_lt (k % n + 1) units ≡ b → kids_in units joins (if b then k + 1 else k / n * n + n) ≡ None
    step true e =
        let less : k % n + 1 < units = ltb-true (k % n + 1) units e in
        let in_slot : k % n + 1 < n = omega (arith, less) in
        let whole : k / n * n + k % n ≡ k = div-add-mod' k n in
        let at : k + 1 ≡ k / n * n + (k % n + 1) = omega (arith, whole) in
        let node : (k + 1) % n ≡ k % n + 1 = ap (λ x. x % n) at ∙ mod-mul-add (k / n) n (k % n + 1) in_slot in
        unit_place units joins (k + 1) (subst (λ x. x < units) (sym node) less)
    step false e =
        let in_slot : 0 < n = omega (arith, some) in
        let at : k / n * n + n ≡ (k / n + 1) * n + 0 = omega arith in
        let node : (k / n * n + n) % n ≡ 0 = ap (λ x. x % n) at ∙ mod-mul-add (k / n + 1) n 0 in_slot in
        unit_place units joins (k / n * n + n) (subst (λ x. x < units) (sym node) some)

pub after_unit_gap : (units : ℕ) (joins : List (ℕ × ℕ)) (k : ℕ) → 0 < units
    → (q : ℕ) → kids_in units joins q ≡ None → k < q → after_unit units (units + length joins) k ≤ q
after_unit_gap units joins k some q unit later = step (nat_lt (k % n + 1) units) refl
  where
    n : ℕ
    n = units + length joins

    step : (b : Bool) → nat_lt (k % n + 1) units ≡ b → (if b then k + 1 else k / n * n + n) ≤ q
    step true e = omega (arith, later)
    step false e = pick (cases_lt q (k / n * n + n))
      where
        pick : (q < k / n * n + n) ⊎ (k / n * n + n ≤ q) → k / n * n + n ≤ q
        pick (inr more) = more
        pick (inl less) =
            let last : units ≤ k % n + 1 = ltb-false (k % n + 1) units e in
            let whole : k / n * n + k % n ≡ k = div-add-mod' k n in
            let far : k / n * n ≤ q = omega (arith, whole, later) in
            let at : q ≡ k / n * n + (q - k / n * n) = omega (arith, far) in
            let node : q % n ≡ q - k / n * n =
            ap (λ x. x % n) at ∙ mod-mul-add (k / n) n (q - k / n * n) (omega (arith, less, far)) in
            let below : q % n < units = unit_of_place units joins q some unit in
            absurd (omega (arith, last, whole, later, node, below, far))
