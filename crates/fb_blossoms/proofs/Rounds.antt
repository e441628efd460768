-- The way round a cycle.
use Rattle.std.proofs.Common.{◌≡◌, ◌≢◌, ◌⊎◌, inl, inr, ℕ, zero, suc, ◌+◌, ◌-◌, ◌%◌, ◌<◌, ◌≤◌, ◌==◌, ◌&&◌, Bool, true, false, List, [], ◌∷◌, length, Option, Some, None, refl, sym, ◌∙◌, ap, subst, arith}
use Rattle.std.proofs.lemmas.Bool.{and_parts, both_ways, cases_eq, cases_lt, eq-eqb, eqb-true, le-leb, le-ltb, lt-leb, lt-ltb, ne_eqb, or_cases, or_left, or_right}
use Rattle.std.proofs.lemmas.List.Folds.{list_any_at}
use Rattle.fb_links.specs.Lists.{is_in}
use Rattle.fb_links.specs.declared.walk.Step.{Step}
use Rattle.fb_links.specs.declared.cycle.CycleStep.{CycleStep}
use Rattle.fb_links.specs.Walks.{end_of, start_of}
use Rattle.fb_links.specs.Table.{walk_at}
use Rattle.fb_blossoms.specs.Nodes.{HasDistinctNodes, AreWithin, IsBlossom, IsNested, IsOddCycle, Node, cycle_at, cycle_of, defects_along, defects_at, defects_of, is_on, node_at}
use Rattle.fb_blossoms.specs.Links.{AreLinked, IsLinkBetween, link_after, next_place, node_after, place_after, step_at}
use Rattle.fb_blossoms.specs.Paths.{has_link}
use Rattle.fb_blossoms.proofs.Held.{to_along}

-- where the steps lead
pub onward_is : (count s k : ℕ) → ((place_after count true s k ≡ s + k) × (s + k < count)) ⊎ ((place_after count true s k + count ≡ s + k) × (count ≤ s + k))
onward_is count s k =
    elim (cases_lt (s + k) count) [
      | inl h ↦ inl (rw (lt-ltb (s + k) count h) refl, h)
      | inr h ↦ inr (rw (le-ltb (s + k) count h) (let e : s + k - count + count ≡ s + k = omega arith in e), h)
    ]

pub back_is : (count s k : ℕ) → k < count → ((place_after count false s k + k ≡ s) × (k ≤ s)) ⊎ ((place_after count false s k + k ≡ s + count) × (s < k))
back_is count s k small =
    elim (cases_lt s k) [
      | inl h ↦ inr (rw (lt-leb k s h) (let e : s + count - k + k ≡ s + count = omega arith in e), h)
      | inr h ↦ inl (rw (le-leb k s h) (let e : s - k + k ≡ s = omega arith in e), h)
    ]

next_is : (count k : ℕ) → ((next_place count k ≡ 0) × (k + 1 ≡ count)) ⊎ ((next_place count k ≡ k + 1) × (k + 1 ≢ count))
next_is count k =
    elim (cases_eq (k + 1) count) [
      | inl e ↦ inl (rw (eq-eqb (k + 1) count e) refl, e)
      | inr n ↦ inr (rw (ne_eqb (k + 1) count n) refl, n)
    ]

pub place_lt : (count : ℕ) (onward : Bool) (s k : ℕ) → s < count → k < count → place_after count onward s k < count
place_lt count true s k a b = elim (onward_is count s k) [ inl h ↦ omega (arith, h.0, h.1) | inr h ↦ omega (arith, h.0, h.1) ]
place_lt count false s k a b = elim (back_is count s k b) [ inl h ↦ omega (arith, h.0, h.1) | inr h ↦ omega (arith, h.0, h.1) ]

pub places_differ : (count : ℕ) (onward : Bool) (s i k : ℕ) → s < count → i < k → k < count → place_after count onward s i ≢ place_after count onward s k
places_differ count true s i k a b c e =
    elim (onward_is count s i) [
      | inl g ↦ elim (onward_is count s k) [ inl h ↦ omega (arith, e, g.0, h.0) | inr h ↦ omega (arith, e, g.0, h.0) ]
      | inr g ↦ elim (onward_is count s k) [ inl h ↦ omega (arith, e, g.0, h.0, h.1, g.1) | inr h ↦ omega (arith, e, g.0, h.0) ]
    ]
places_differ count false s i k a b c e =
    let d : i < count = omega arith in
    elim (back_is count s i d) [
      | inl g ↦ elim (back_is count s k c) [ inl h ↦ omega (arith, e, g.0, h.0) | inr h ↦ omega (arith, e, g.0, h.0) ]
      | inr g ↦ elim (back_is count s k c) [ inl h ↦ omega (arith, e, g.0, h.0, h.1, g.1) | inr h ↦ omega (arith, e, g.0, h.0) ]
    ]

next_onward : (count s k : ℕ) → s < count → k + 1 < count → next_place count (place_after count true s k) ≡ place_after count true s (k + 1)
next_onward count s k a b =
    elim (next_is count (place_after count true s k)) [
      | inl n ↦ elim (onward_is count s k) [
        | inl g ↦ elim (onward_is count s (k + 1)) [ inl h ↦ omega (arith, n.0, n.1, g.0, h.0, h.1) | inr h ↦ omega (arith, n.0, n.1, g.0, h.0, h.1) ]
        | inr g ↦ elim (onward_is count s (k + 1)) [ inl h ↦ omega (arith, n.0, n.1, g.0, g.1, h.0, h.1) | inr h ↦ omega (arith, n.0, n.1, g.0, h.0, h.1) ]
      ]
      | inr n ↦ elim (onward_is count s k) [
        | inl g ↦ elim (onward_is count s (k + 1)) [ inl h ↦ omega (arith, n.0, g.0, h.0, h.1) | inr h ↦ let m = n.1 in omega (arith, n.0, m, g.0, g.1, h.0, h.1) ]
        | inr g ↦ elim (onward_is count s (k + 1)) [ inl h ↦ omega (arith, n.0, g.0, g.1, h.0, h.1) | inr h ↦ omega (arith, n.0, g.0, h.0, h.1) ]
      ]
    ]

next_back : (count s k : ℕ) → s < count → k + 1 < count → next_place count (place_after count false s (k + 1)) ≡ place_after count false s k
next_back count s k a b =
    let d : k < count = omega arith in
    elim (next_is count (place_after count false s (k + 1))) [
      | inl n ↦ elim (back_is count s k d) [
        | inl g ↦ elim (back_is count s (k + 1) b) [ inl h ↦ omega (arith, n.0, n.1, g.0, h.0, h.1) | inr h ↦ omega (arith, n.0, n.1, g.0, g.1, h.0, h.1) ]
        | inr g ↦ elim (back_is count s (k + 1) b) [ inl h ↦ omega (arith, n.0, n.1, g.0, g.1, h.0, h.1) | inr h ↦ omega (arith, n.0, n.1, g.0, g.1, h.0, h.1) ]
      ]
      | inr n ↦ elim (back_is count s k d) [
        | inl g ↦ elim (back_is count s (k + 1) b) [ inl h ↦ omega (arith, n.0, g.0, h.0, h.1) | inr h ↦ let m = n.1 in omega (arith, n.0, m, g.0, g.1, h.0, h.1) ]
        | inr g ↦ elim (back_is count s (k + 1) b) [ inl h ↦ omega (arith, n.0, g.0, g.1, h.0, h.1) | inr h ↦ omega (arith, n.0, g.0, h.0, h.1) ]
      ]
    ]

-- the steps of a cycle
pub step_on : (cycle : List CycleStep) (i : ℕ) → i < length cycle → is_on cycle (step_at cycle i).node ≡ true
step_on cycle i less = list_any_at (λ s. s.node == (step_at cycle i).node) cycle i (record { node = 0; link = 0 }) less (eq-eqb _ _ refl)

step_has : (cycle : List CycleStep) (i : ℕ) → i < length cycle → has_link cycle (step_at cycle i).link ≡ true
step_has cycle i less = list_any_at (λ s. s.link == (step_at cycle i).link) cycle i (record { node = 0; link = 0 }) less (eq-eqb _ _ refl)

pub steps_differ : (cycle : List CycleStep) → HasDistinctNodes cycle → (i k : ℕ) → i < length cycle → k < length cycle → i ≢ k → (step_at cycle i).node ≢ (step_at cycle k).node
steps_differ [] d i k a b n e = omega arith
steps_differ (s ∷ ss) d zero zero a b n e = n refl
steps_differ (s ∷ ss) d zero (suc k) a b n e =
    both_ways (is_on ss s.node) d.0 (ap (is_on ss) e ∙ step_on ss k (omega arith))
steps_differ (s ∷ ss) d (suc i) zero a b n e =
    both_ways (is_on ss s.node) d.0 (ap (is_on ss) (sym e) ∙ step_on ss i (omega arith))
steps_differ (s ∷ ss) d (suc i) (suc k) a b n e = steps_differ ss d.1 i k (omega arith) (omega arith) (λ f. n (ap suc f)) e

-- a blossom's node
module _ (nodes : List (Option Node)) (nested : IsNested nodes) (name : ℕ) where
  blossom_is : (x : ℕ) → is_on (cycle_at nodes name) x ≡ true → (n : Node) × (node_at nodes name ≡ Some n) × IsBlossom nodes n
  blossom_is x on = at (node_at nodes name) refl
    where
      at : (o : Option Node) → node_at nodes name ≡ o → (n : Node) × (node_at nodes name ≡ Some n) × IsBlossom nodes n
      at None e = absurd (both_ways false refl (ap (λ o. is_on (cycle_of o) x) (sym e) ∙ on))
      at (Some n) e =
          elim (nested.shaped name n e) [
            | inl l ↦
                let on_n : is_on n.cycle x ≡ true = ap (λ o. is_on (cycle_of o) x) (sym e) ∙ on in
                absurd (both_ways false refl (ap (λ (m : Node). is_on m.cycle x) (sym l.1) ∙ on_n))
            | inr b ↦ (n, e, b)
          ]

  -- what a blossom keeps of its cycle
  pub cycle_kept : (x : ℕ) → is_on (cycle_at nodes name) x ≡ true → IsOddCycle nodes (cycle_at nodes name) × (defects_at nodes name ≡ defects_along nodes (cycle_at nodes name))
  cycle_kept x on =
      let b = blossom_is x on in
      let P : Option Node → Type 0 = λ o. IsOddCycle nodes (cycle_of o) × (defects_of o ≡ defects_along nodes (cycle_of o)) in
      subst P (sym b.1) (b.2.cycle, b.2.defects)

  pub child_within : (x : ℕ) → is_on (cycle_at nodes name) x ≡ true → AreWithin (defects_at nodes x) (defects_at nodes name)
  child_within x on d h =
      let b = blossom_is x on in
      let on_n : is_on b.0.cycle x ≡ true = ap (λ o. is_on (cycle_of o) x) (sym b.1) ∙ on in
      ap (λ o. is_in (defects_of o) d) b.1 ∙ (ap (λ l. is_in l d) b.2.defects ∙ to_along (defects_at nodes) b.0.cycle x d on_n h)

  pub cycle_distinct : (x : ℕ) → is_on (cycle_at nodes name) x ≡ true → HasDistinctNodes (cycle_at nodes name)
  cycle_distinct x on =
      let b = blossom_is x on in
      let P : Option Node → Type 0 = λ o. HasDistinctNodes (cycle_of o) in
      subst P (sym b.1) b.2.cycle.distinct

  pub cycle_odd : (x : ℕ) → is_on (cycle_at nodes name) x ≡ true → length (cycle_at nodes name) % 2 ≡ 1
  cycle_odd x on =
      let b = blossom_is x on in
      let P : Option Node → Type 0 = λ o. length (cycle_of o) % 2 ≡ 1 in
      subst P (sym b.1) b.2.cycle.odd

pub swapped : (links : List (Option (List Step))) (nodes : List (Option Node)) (l x y : ℕ) → IsLinkBetween links nodes l x y → IsLinkBetween links nodes l y x
swapped links nodes l x y h = (
  h.0,
  elim (or_cases (is_in (defects_at nodes x) (start_of (walk_at links l)) && is_in (defects_at nodes y) (end_of (walk_at links l))) _ h.1) [
    | inl a ↦ or_right (is_in (defects_at nodes y) (start_of (walk_at links l)) && is_in (defects_at nodes x) (end_of (walk_at links l))) _ a
    | inr b ↦ or_left (is_in (defects_at nodes y) (start_of (walk_at links l)) && is_in (defects_at nodes x) (end_of (walk_at links l))) _ b
  ],
)

-- the nodes and links round a cycle
module _ (links : List (Option (List Step))) (nodes : List (Option Node)) (nested : IsNested nodes) (name s : ℕ)
    (linked : AreLinked links nodes (cycle_at nodes name)) (start : s < length (cycle_at nodes name)) where
  pub on_round : (onward : Bool) (k : ℕ) → k < length (cycle_at nodes name) → is_on (cycle_at nodes name) (node_after (cycle_at nodes name) onward s k) ≡ true
  on_round onward k less = step_on (cycle_at nodes name) _ (place_lt (length (cycle_at nodes name)) onward s k start less)

  pub round_differs : (onward : Bool) (i k : ℕ) → i < k → k < length (cycle_at nodes name)
      → node_after (cycle_at nodes name) onward s i ≢ node_after (cycle_at nodes name) onward s k
  round_differs onward i k less small =
      let count : ℕ = length (cycle_at nodes name) in
      let i_small : i < length (cycle_at nodes name) = omega arith in
      steps_differ (cycle_at nodes name) (cycle_distinct nodes nested name _ (on_round onward k small)) _ _
      (place_lt (length (cycle_at nodes name)) onward s i start i_small) (place_lt (length (cycle_at nodes name)) onward s k start small)
      (places_differ (length (cycle_at nodes name)) onward s i k start less small)

  pub round_apart : (onward : Bool) (k : ℕ) → k < length (cycle_at nodes name) → (i v : ℕ) → i < k
      → is_in (defects_at nodes (node_after (cycle_at nodes name) onward s i)) v ≡ true
      → is_in (defects_at nodes (node_after (cycle_at nodes name) onward s k)) v ≡ true → ⊥
  round_apart onward k small i v less g h =
      let i_small : i < length (cycle_at nodes name) = omega arith in
      round_differs onward i k less small (nested.children name _ _ v (on_round onward i i_small) (on_round onward k small) g h)

  pub round_link : (onward : Bool) (k : ℕ) → k + 1 < length (cycle_at nodes name)
      → IsLinkBetween links nodes (link_after (cycle_at nodes name) onward s k) (node_after (cycle_at nodes name) onward s k) (node_after (cycle_at nodes name) onward s (k + 1))
  round_link true k small =
      let k_small : k < length (cycle_at nodes name) = omega arith in
      let P : ℕ → Type 0 = λ p. IsLinkBetween links nodes (link_after (cycle_at nodes name) true s k) (node_after (cycle_at nodes name) true s k) (step_at (cycle_at nodes name) p).node in
      subst P (next_onward (length (cycle_at nodes name)) s k start small) (linked _ (place_lt (length (cycle_at nodes name)) true s k start k_small))
  round_link false k small =
      let P : ℕ → Type 0 = λ p. IsLinkBetween links nodes (link_after (cycle_at nodes name) false s k) (node_after (cycle_at nodes name) false s (k + 1)) (step_at (cycle_at nodes name) p).node in
      swapped links nodes _ _ _
      (subst P (next_back (length (cycle_at nodes name)) s k start small) (linked _ (place_lt (length (cycle_at nodes name)) false s (k + 1) start small)))

  pub round_has : (onward : Bool) (k : ℕ) → k + 1 < length (cycle_at nodes name) → has_link (cycle_at nodes name) (link_after (cycle_at nodes name) onward s k) ≡ true
  round_has true k small =
      let k_small : k < length (cycle_at nodes name) = omega arith in
      step_has (cycle_at nodes name) _ (place_lt (length (cycle_at nodes name)) true s k start k_small)
  round_has false k small = step_has (cycle_at nodes name) _ (place_lt (length (cycle_at nodes name)) false s (k + 1) start small)

-- the ends of a link between two children
module _ (links : List (Option (List Step))) (nodes : List (Option Node)) (nested : IsNested nodes) (name l x y : ℕ)
    (on_x : is_on (cycle_at nodes name) x ≡ true) (on_y : is_on (cycle_at nodes name) y ≡ true) (differ : x ≢ y) (link : IsLinkBetween links nodes l x y) where
  pub start_held : is_in (defects_at nodes name) (start_of (walk_at links l)) ≡ true
  start_held =
      elim (or_cases (is_in (defects_at nodes x) (start_of (walk_at links l)) && is_in (defects_at nodes y) (end_of (walk_at links l))) _ link.1) [
        | inl a ↦ child_within nodes nested name x on_x _ (and_parts _ _ a).0
        | inr b ↦ child_within nodes nested name y on_y _ (and_parts _ _ b).0
      ]

-- a step of the cycle is at the node
pub on_place : (cycle : List CycleStep) (x : ℕ) → is_on cycle x ≡ true → (k : ℕ) × (k < length cycle) × ((step_at cycle k).node ≡ x)
on_place [] x on = absurd (both_ways false refl on)
on_place (s ∷ ss) x on =
    elim (or_cases (s.node == x) (is_on ss x) on) [
      | inl e ↦ (zero, omega arith, eqb-true s.node x e)
      | inr e ↦ let r : (k : ℕ) × (k < length ss) × ((step_at ss k).node ≡ x) = on_place ss x e in (suc r.0, omega (arith, r.1), r.2)
    ]

pub place_zero : (count : ℕ) (onward : Bool) (s : ℕ) → s < count → place_after count onward s 0 ≡ s
place_zero count true s less = elim (onward_is count s 0) [ inl h ↦ omega (arith, h.0) | inr h ↦ omega (arith, h.0, h.1) ]
place_zero count false s less =
    let some : 0 < count = omega arith in
    elim (back_is count s 0 some) [ inl h ↦ omega (arith, h.0) | inr h ↦ omega (arith, h.0, h.1) ]

-- no step from the place of a node leads to the node
pub none_after : (cycle : List CycleStep) (onward : Bool) (s x : ℕ) → s < length cycle → (step_at cycle s).node ≡ x → node_after cycle onward s 0 ≡ x
none_after cycle onward s x less at = ap (λ p. (step_at cycle p).node) (place_zero (length cycle) onward s less) ∙ at
