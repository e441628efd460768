-- How a store changes when a node is added or taken off.
use Rattle.std.proofs.Common.{◌≡◌, ◌≢◌, inl, inr, ℕ, suc, ◌+◌, ◌<◌, Bool, true, false, if◌then◌else◌, List, [], ◌∷◌, ◌++◌, Option, Some, None, is_some, option_map, refl, sym, ◌∙◌, ap, subst, arith}
use Rattle.std.specs.List.{flat_map}
use Rattle.std.proofs.lemmas.Bool.{both_ways, cases_Bool, cases_eq}
use Rattle.fb_links.specs.Lists.{is_in}
use Rattle.fb_links.specs.declared.cycle.CycleStep.{CycleStep}
use Rattle.fb_blossoms.specs.InternalItems.{Item}
use Rattle.fb_blossoms.specs.Nodes.{Adds, Node, TakesOff, blossom, defects_at, defects_of, is_on, node_at}
use Rattle.fb_blossoms.specs.InternalForest.{AreOwnApart, IsItem, IsKept, IsOddItem, IsPlaceOf, cycle_in, defects_in, held_at, is_kept, item_at, last_place, made_at, made_in, node_of, nodes_of, own_at, own_in, parent_at, parent_in, place_at, place_of, reparented_item, steps_at, with_parent}
use Rattle.fb_blossoms.specs.InternalLeaves.{HasLeaves, IsGrown}
use Rattle.fb_blossoms.proofs.Climbs.{kept_child, kept_parent, none_some, same_some}
use Rattle.fb_blossoms.proofs.Seats.{last_place_is}
use Rattle.fb_blossoms.proofs.Held.{along_same, node_from, same_levels}
use Rattle.fb_blossoms.proofs.Nested.{blossom_from, leaf_cycle, one_in, own_alone}

abbrev put : Bool → ℕ → Option ℕ → Option Item → Option Item
put b k parent o = if b then option_map (with_parent parent k) o else o

put_own : (b : Bool) (k : ℕ) (q : Option ℕ) (o : Option Item) → own_in (put b k q o) ≡ own_in o
put_own false k q o = refl
put_own true k q None = refl
put_own true k q (Some i) = refl

put_steps : (b : Bool) (k : ℕ) (q : Option ℕ) (o : Option Item) → cycle_in (put b k q o) ≡ cycle_in o
put_steps false k q o = refl
put_steps true k q None = refl
put_steps true k q (Some i) = refl

put_made : (b : Bool) (k : ℕ) (q : Option ℕ) (o : Option Item) → made_in (put b k q o) ≡ made_in o
put_made false k q o = refl
put_made true k q None = refl
put_made true k q (Some i) = refl

put_kept : (b : Bool) (k : ℕ) (q : Option ℕ) (o : Option Item) → is_some (put b k q o) ≡ is_some o
put_kept false k q o = refl
put_kept true k q None = refl
put_kept true k q (Some i) = refl

put_parent : (k : ℕ) (q : Option ℕ) (o : Option Item) → is_some o ≡ true → parent_in (put true k q o) ≡ q
put_parent k q None h = absurd (both_ways false refl h)
put_parent k q (Some i) h = refl

put_outer : (k : ℕ) (o : Option Item) → parent_in (put true k None o) ≡ None
put_outer k None = refl
put_outer k (Some i) = refl

put_place : (k : ℕ) (q : Option ℕ) (o : Option Item) → is_some o ≡ true → place_of (put true k q o) ≡ k
put_place k q None h = absurd (both_ways false refl h)
put_place k q (Some i) h = refl

-- the node of a number that is kept, and of one that isn't
pub node_when : (slots : List (Option Item)) (x : ℕ) → is_kept slots x ≡ true → node_at (nodes_of slots) x ≡ Some (record { defects = held_at slots x; cycle = steps_at slots x })
node_when slots x h = node_from slots x ∙ at (item_at slots x) h
  where
    at : (o : Option Item) → is_some o ≡ true → option_map (node_of slots) o
        ≡ Some (record { defects = own_in o ++ flat_map (λ s. defects_in slots (made_in o) s.node) (cycle_in o); cycle = cycle_in o })
    at None h = absurd (both_ways false refl h)
    at (Some i) h = refl

pub node_unless : (slots : List (Option Item)) (x : ℕ) → is_kept slots x ≡ false → node_at (nodes_of slots) x ≡ None
node_unless slots x h = node_from slots x ∙ at (item_at slots x) h
  where
    at : (o : Option Item) → is_some o ≡ false → option_map (node_of slots) o ≡ None
    at None h = refl
    at (Some i) h = absurd (both_ways true h refl)

-- all items but the one of this number are what they were, up to their parents
pub record AreSame (old new : List (Option Item)) (key : ℕ) : Type 0 where
  pub own : (x : ℕ) → x ≢ key → own_at new x ≡ own_at old x
  pub steps : (x : ℕ) → x ≢ key → steps_at new x ≡ steps_at old x
  pub made : (x : ℕ) → x ≢ key → made_at new x ≡ made_at old x
  pub kept : (x : ℕ) → x ≢ key → is_kept new x ≡ is_kept old x

same_put : (old new : List (Option Item)) (key : ℕ) (cycle : List CycleStep) (q : Option ℕ)
    → ((x : ℕ) → x ≢ key → item_at new x ≡ reparented_item cycle q x (item_at old x)) → AreSame old new key
same_put old new key cycle q h = record {
  own = λ x n. ap own_in (h x n) ∙ put_own (is_on cycle x) (last_place cycle x) q (item_at old x);
  steps = λ x n. ap cycle_in (h x n) ∙ put_steps (is_on cycle x) (last_place cycle x) q (item_at old x);
  made = λ x n. ap made_in (h x n) ∙ put_made (is_on cycle x) (last_place cycle x) q (item_at old x);
  kept = λ x n. ap (λ (o : Option Item). is_some o) (h x n) ∙ put_kept (is_on cycle x) (last_place cycle x) q (item_at old x);
}

module _ (old new : List (Option Item)) (key : ℕ) (same : AreSame old new key) where
  -- a node whose defects are what they were is as it was
  node_same : (x : ℕ) → x ≢ key → (is_kept old x ≡ true → held_at new x ≡ held_at old x) → node_at (nodes_of new) x ≡ node_at (nodes_of old) x
  node_same x n held =
      elim (cases_Bool (is_kept old x)) [
        | inl here ↦
            let h : held_at new x ≡ held_at old x = held here in
            let s : steps_at new x ≡ steps_at old x = same.steps x n in
            let f : List ℕ → List CycleStep → Option Node = λ d c. Some (record { defects = d; cycle = c }) in
            node_when new x (same.kept x n ∙ here) ∙ (ap (λ d. f d (steps_at new x)) h ∙ (ap (f (held_at old x)) s ∙ sym (node_when old x here)))
        | inr gone ↦ node_unless new x (same.kept x n ∙ gone) ∙ sym (node_unless old x gone)
      ]

  -- where the numbers other than the key are closed under children, their nodes are as they were
  pub others_same : (P : ℕ → Type 0) → ((x : ℕ) → P x → x ≢ key) → ((x y : ℕ) → P x → is_on (steps_at old x) y ≡ true → P y)
      → (x : ℕ) → x ≢ key → (is_kept old x ≡ true → P x) → node_at (nodes_of new) x ≡ node_at (nodes_of old) x
  others_same P off closed x n p =
      node_same x n
      (λ h. ap (λ k. defects_in new (suc k) x) (same.made x n)
      ∙ same_levels old new P (λ y q. same.own y (off y q)) (λ y q. same.steps y (off y q)) closed (suc (made_at old x)) x (p h))

-- the index may have more leaves
pub regrown : (slots : List (Option Item)) (leaves leaves' : ℕ → Option ℕ) (made : ℕ) → IsKept slots leaves made → IsGrown slots leaves leaves'
    → IsKept slots leaves' made
regrown slots leaves leaves' made kept grown = record {
  forest = kept.forest;
  apart = kept.apart;
  leaf_at = λ d x e. elim (grown.known d x e) [ inl was ↦ kept.leaf_at d x was | inr own ↦ own_alone slots made kept.forest x d own ];
  leaf_of = λ d x p h e. grown.stays d x h (kept.leaf_of d x p h e);
}

-- a node is added under a free number, and becomes the parent of outer nodes
module _ (old new : List (Option Item)) (leaves : ℕ → Option ℕ) (made : ℕ) (kept : IsKept old leaves made) (key : ℕ) (i : Item)
    (fresh : item_at old key ≡ None) (here : item_at new key ≡ Some i) (top : i.parent ≡ None) (made_is : i.made ≡ made)
    (others : (x : ℕ) → x ≢ key → item_at new x ≡ reparented_item i.cycle (Some key) x (item_at old x))
    (live : (x : ℕ) → is_on i.cycle x ≡ true → is_kept old x ≡ true) (outer : (x : ℕ) → is_on i.cycle x ≡ true → parent_at old x ≡ None)
    (shaped : IsItem i.own i.cycle) (unowned : (d x : ℕ) → is_in i.own d ≡ true → is_in (own_at old x) d ≡ true → ⊥)
    (entered : HasLeaves old leaves (is_on i.cycle)) where
  gone : is_kept old key ≡ false
  gone = ap (λ (o : Option Item). is_some o) fresh

  off_key : (x : ℕ) → is_kept old x ≡ true → x ≢ key
  off_key x h e = both_ways (is_kept old key) gone (ap (is_kept old) (sym e) ∙ h)

  same : AreSame old new key
  same = same_put old new key i.cycle (Some key) others

  parent_on : (x : ℕ) → is_on i.cycle x ≡ true → parent_at new x ≡ Some key
  parent_on x on = ap parent_in (others x (off_key x (live x on))) ∙ (ap (λ b. parent_in (put b (last_place i.cycle x) (Some key) (item_at old x))) on ∙ put_parent (last_place i.cycle x) (Some key) (item_at old x) (live x on))

  parent_off : (x : ℕ) → x ≢ key → is_on i.cycle x ≡ false → parent_at new x ≡ parent_at old x
  parent_off x n off = ap parent_in (others x n) ∙ ap (λ b. parent_in (put b (last_place i.cycle x) (Some key) (item_at old x))) off

  parent_key : parent_at new key ≡ None
  parent_key = ap parent_in here ∙ top

  steps_key : steps_at new key ≡ i.cycle
  steps_key = ap cycle_in here

  up_new : (x p : ℕ) → parent_at new x ≡ Some p → is_on (steps_at new p) x ≡ true
  up_new x p e =
      elim (cases_eq x key) [
        | inl k ↦ absurd (none_some (parent_at new key) p parent_key (ap (parent_at new) (sym k) ∙ e))
        | inr n ↦ elim (cases_Bool (is_on i.cycle x)) [
          | inl on ↦
              let q : key ≡ p = same_some (parent_at new x) key p (parent_on x on) e in
              ap (λ y. is_on (steps_at new y) x) (sym q) ∙ (ap (λ c. is_on c x) steps_key ∙ on)
          | inr off ↦
              let before : parent_at old x ≡ Some p = sym (parent_off x n off) ∙ e in
              let on : is_on (steps_at old p) x ≡ true = kept.forest.up x p before in
              ap (λ c. is_on c x) (same.steps p (off_key p (kept_parent old x p on))) ∙ on
        ]
      ]

  down_new : (x p : ℕ) → is_on (steps_at new p) x ≡ true → parent_at new x ≡ Some p
  down_new x p on =
      elim (cases_eq p key) [
        | inl k ↦
            let now : is_on i.cycle x ≡ true = ap (λ c. is_on c x) (sym steps_key) ∙ (ap (λ y. is_on (steps_at new y) x) (sym k) ∙ on) in
            parent_on x now ∙ ap (λ y. Some y) (sym k)
        | inr n ↦
            let before : is_on (steps_at old p) x ≡ true = ap (λ c. is_on c x) (sym (same.steps p n)) ∙ on in
            let e : parent_at old x ≡ Some p = kept.forest.down x p before in
            elim (cases_Bool (is_on i.cycle x)) [
              | inl now ↦ absurd (none_some (parent_at old x) p (outer x now) e)
              | inr off ↦ parent_off x (off_key x (kept_child old x p e)) off ∙ e
            ]
      ]

  young_new : (x : ℕ) → is_kept new x ≡ true → made_at new x < made + 1
  young_new x h =
      elim (cases_eq x key) [
        | inl k ↦
            let e : made_at new x ≡ made = ap (made_at new) k ∙ (ap made_in here ∙ made_is) in
            omega arith
        | inr n ↦
            let e : made_at new x ≡ made_at old x = same.made x n in
            omega (arith, kept.forest.young x (sym (same.kept x n) ∙ h))
      ]

  older_new : (x p : ℕ) → parent_at new x ≡ Some p → made_at new x < made_at new p
  older_new x p e =
      elim (cases_eq x key) [
        | inl k ↦ absurd (none_some (parent_at new key) p parent_key (ap (parent_at new) (sym k) ∙ e))
        | inr n ↦ elim (cases_Bool (is_on i.cycle x)) [
          | inl on ↦
              let q : key ≡ p = same_some (parent_at new x) key p (parent_on x on) e in
              let a : made_at new x ≡ made_at old x = same.made x n in
              let b : made_at new p ≡ made = ap (made_at new) (sym q) ∙ (ap made_in here ∙ made_is) in
              omega (arith, kept.forest.young x (live x on))
          | inr off ↦
              let before : parent_at old x ≡ Some p = sym (parent_off x n off) ∙ e in
              let a : made_at new x ≡ made_at old x = same.made x n in
              let b : made_at new p ≡ made_at old p = same.made p (off_key p (kept_parent old x p (kept.forest.up x p before))) in
              omega (arith, kept.forest.older x p before)
        ]
      ]

  place_on : (x : ℕ) → is_on i.cycle x ≡ true → place_at new x ≡ last_place i.cycle x
  place_on x on =
      ap place_of (others x (off_key x (live x on)))
      ∙ (ap (λ b. place_of (put b (last_place i.cycle x) (Some key) (item_at old x))) on ∙ put_place (last_place i.cycle x) (Some key) (item_at old x) (live x on))

  place_off : (x : ℕ) → x ≢ key → is_on i.cycle x ≡ false → place_at new x ≡ place_at old x
  place_off x n off = ap place_of (others x n) ∙ ap (λ b. place_of (put b (last_place i.cycle x) (Some key) (item_at old x))) off

  placed_new : (x p : ℕ) → parent_at new x ≡ Some p → IsPlaceOf (steps_at new p) x (place_at new x)
  placed_new x p e =
      elim (cases_eq x key) [
        | inl k ↦ absurd (none_some (parent_at new key) p parent_key (ap (parent_at new) (sym k) ∙ e))
        | inr n ↦ elim (cases_Bool (is_on i.cycle x)) [
          | inl on ↦
              let q : key ≡ p = same_some (parent_at new x) key p (parent_on x on) e in
              let P : List CycleStep → Type 0 = λ c. IsPlaceOf c x (place_at new x) in
              let Q : ℕ → Type 0 = λ k. IsPlaceOf i.cycle x k in
              subst P (sym (ap (steps_at new) (sym q) ∙ steps_key)) (subst Q (sym (place_on x on)) (last_place_is i.cycle x on))
          | inr off ↦
              let before : parent_at old x ≡ Some p = sym (parent_off x n off) ∙ e in
              let P : List CycleStep → Type 0 = λ c. IsPlaceOf c x (place_at new x) in
              let Q : ℕ → Type 0 = λ k. IsPlaceOf (steps_at old p) x k in
              subst P (sym (same.steps p (off_key p (kept_parent old x p (kept.forest.up x p before))))) (subst Q (sym (place_off x n off)) (kept.forest.placed x p before))
        ]
      ]

  shaped_new : (x : ℕ) → is_kept new x ≡ true → IsItem (own_at new x) (steps_at new x)
  shaped_new x h =
      elim (cases_eq x key) [
        | inl k ↦
            let P : Option Item → Type 0 = λ o. IsItem (own_in o) (cycle_in o) in
            subst P (sym (ap (item_at new) k ∙ here)) shaped
        | inr n ↦
            let P : List ℕ → Type 0 = λ o. IsItem o (steps_at new x) in
            let Q : List CycleStep → Type 0 = λ s. IsItem (own_at old x) s in
            subst P (sym (same.own x n)) (subst Q (sym (same.steps x n)) (kept.forest.shaped x (sym (same.kept x n) ∙ h)))
      ]

  own_off : (x d : ℕ) → is_in (own_at old x) d ≡ true → x ≢ key
  own_off x d h e = both_ways (is_in (own_at old key) d) (ap (λ o. is_in (own_in o) d) fresh) (ap (λ y. is_in (own_at old y) d) (sym e) ∙ h)

  own_key : (x d : ℕ) → x ≡ key → is_in (own_at new x) d ≡ true → is_in i.own d ≡ true
  own_key x d k h = ap (λ o. is_in (own_in o) d) (sym (ap (item_at new) k ∙ here)) ∙ h

  own_other : (x d : ℕ) → x ≢ key → is_in (own_at new x) d ≡ true → is_in (own_at old x) d ≡ true
  own_other x d n h = ap (λ l. is_in l d) (sym (same.own x n)) ∙ h

  apart_new : AreOwnApart new
  apart_new d x y g h =
      elim (cases_eq x key) [
        | inl k ↦ elim (cases_eq y key) [
          | inl l ↦ k ∙ sym l
          | inr m ↦ absurd (unowned d y (own_key x d k g) (own_other y d m h))
        ]
        | inr n ↦ elim (cases_eq y key) [
          | inl l ↦ absurd (unowned d x (own_key y d l h) (own_other x d n g))
          | inr m ↦ kept.apart d x y (own_other x d n g) (own_other y d m h)
        ]
      ]

  pub kept_added : IsKept new leaves (made + 1)
  kept_added = record {
    forest = record { shaped = shaped_new; young = young_new; up = up_new; down = down_new; older = older_new; placed = placed_new };
    apart = apart_new;
    leaf_at = λ d x e.
        let own : own_at old x ≡ d ∷ [] = kept.leaf_at d x e in
        same.own x (own_off x d (ap (λ l. is_in l d) own ∙ one_in d)) ∙ own;
    leaf_of = λ d x p h e.
        elim (cases_eq x key) [
          | inl k ↦ absurd (none_some (parent_at new key) p parent_key (ap (parent_at new) (sym k) ∙ e))
          | inr n ↦ elim (cases_Bool (is_on i.cycle x)) [
            | inl on ↦ entered d x (own_other x d n h) on
            | inr off ↦ kept.leaf_of d x p (own_other x d n h) (sym (parent_off x n off) ∙ e)
          ]
        ];
  }

  others_stay : (x : ℕ) → x ≢ key → node_at (nodes_of new) x ≡ node_at (nodes_of old) x
  others_stay x n =
      others_same old new key same (λ y. is_kept old y ≡ true) off_key (λ y z h on. kept_child old z y (kept.forest.down z y on)) x n (λ h. h)

  pub adds : Adds (nodes_of old) (nodes_of new) key (node_of new i)
  adds = record {
    fresh = node_unless old key gone;
    added = node_from new key ∙ ap (option_map (node_of new)) here;
    others = others_stay;
  }

  -- the new node holds what its children held
  pub node_added : IsOddItem i.own i.cycle → node_of new i ≡ blossom (nodes_of old) i.cycle
  node_added odd =
      ap (λ l. record { defects = l; cycle = i.cycle })
      ((blossom_from new (made + 1) kept_added.forest key i here odd).defects
      ∙ along_same (λ s. defects_at (nodes_of new) s.node) (λ s. defects_at (nodes_of old) s.node) i.cycle
      (λ s on. ap defects_of (others_stay s.node (off_key s.node (live s.node on)))))

-- an outer blossom is taken off, and its children become outer
module _ (old new : List (Option Item)) (leaves : ℕ → Option ℕ) (made : ℕ) (kept : IsKept old leaves made) (key : ℕ)
    (top : parent_at old key ≡ None) (some : steps_at old key ≡ [] → ⊥) (here : item_at new key ≡ None)
    (others : (x : ℕ) → x ≢ key → item_at new x ≡ reparented_item (steps_at old key) None x (item_at old x)) where
  left : AreSame old new key
  left = same_put old new key (steps_at old key) None others

  free_on : (x : ℕ) → x ≢ key → is_on (steps_at old key) x ≡ true → parent_at new x ≡ None
  free_on x n on = ap parent_in (others x n) ∙ (ap (λ b. parent_in (put b (last_place (steps_at old key) x) None (item_at old x))) on ∙ put_outer (last_place (steps_at old key) x) (item_at old x))

  free_off : (x : ℕ) → x ≢ key → is_on (steps_at old key) x ≡ false → parent_at new x ≡ parent_at old x
  free_off x n off = ap parent_in (others x n) ∙ ap (λ b. parent_in (put b (last_place (steps_at old key) x) None (item_at old x))) off

  none_key : parent_at new key ≡ None
  none_key = ap parent_in here

  stays_placed : (x : ℕ) → x ≢ key → is_on (steps_at old key) x ≡ false → place_at new x ≡ place_at old x
  stays_placed x n off = ap place_of (others x n) ∙ ap (λ b. place_of (put b (last_place (steps_at old key) x) None (item_at old x))) off

  -- who has a parent now had it before, and it isn't the one taken off
  before : (x p : ℕ) → parent_at new x ≡ Some p → (x ≢ key) × (p ≢ key) × (parent_at old x ≡ Some p)
  before x p e =
      elim (cases_eq x key) [
        | inl k ↦ absurd (none_some (parent_at new key) p none_key (ap (parent_at new) (sym k) ∙ e))
        | inr n ↦ elim (cases_Bool (is_on (steps_at old key) x)) [
          | inl on ↦ absurd (none_some (parent_at new x) p (free_on x n on) e)
          | inr off ↦
              let was : parent_at old x ≡ Some p = sym (free_off x n off) ∙ e in
              (n, (λ k. both_ways (is_on (steps_at old key) x) off (ap (λ y. is_on (steps_at old y) x) (sym k) ∙ kept.forest.up x p was)), was)
        ]
      ]

  child_off : (x p : ℕ) → is_on (steps_at old p) x ≡ true → x ≢ key
  child_off x p on e = none_some (parent_at old key) p top (ap (parent_at old) (sym e) ∙ kept.forest.down x p on)

  down_left : (x p : ℕ) → is_on (steps_at new p) x ≡ true → parent_at new x ≡ Some p
  down_left x p on =
      elim (cases_eq p key) [
        | inl k ↦ absurd (both_ways (is_on (steps_at new key) x) (ap (λ o. is_on (cycle_in o) x) here) (ap (λ y. is_on (steps_at new y) x) (sym k) ∙ on))
        | inr n ↦
            let was : is_on (steps_at old p) x ≡ true = ap (λ c. is_on c x) (sym (left.steps p n)) ∙ on in
            elim (cases_Bool (is_on (steps_at old key) x)) [
              | inl both ↦ absurd (n (same_some (parent_at old x) p key (kept.forest.down x p was) (kept.forest.down x key both)))
              | inr off ↦ free_off x (child_off x p was) off ∙ kept.forest.down x p was
            ]
      ]

  kept_off : (x : ℕ) → is_kept new x ≡ true → x ≢ key
  kept_off x h e = both_ways (is_kept new key) (ap (λ (o : Option Item). is_some o) here) (ap (is_kept new) (sym e) ∙ h)

  own_left : (x d : ℕ) → is_in (own_at new x) d ≡ true → x ≢ key
  own_left x d h e = both_ways (is_in (own_at new key) d) (ap (λ o. is_in (own_in o) d) here) (ap (λ y. is_in (own_at new y) d) (sym e) ∙ h)

  own_before : (x d : ℕ) → is_in (own_at new x) d ≡ true → is_in (own_at old x) d ≡ true
  own_before x d h = ap (λ l. is_in l d) (sym (left.own x (own_left x d h))) ∙ h

  shaped_left : (x : ℕ) → is_kept new x ≡ true → IsItem (own_at new x) (steps_at new x)
  shaped_left x h =
      let n : x ≢ key = kept_off x h in
      let P : List ℕ → Type 0 = λ o. IsItem o (steps_at new x) in
      let Q : List CycleStep → Type 0 = λ s. IsItem (own_at old x) s in
      subst P (sym (left.own x n)) (subst Q (sym (left.steps x n)) (kept.forest.shaped x (sym (left.kept x n) ∙ h)))

  placed_left : (x p : ℕ) → parent_at new x ≡ Some p → IsPlaceOf (steps_at new p) x (place_at new x)
  placed_left x p e =
      let b = before x p e in
      let P : List CycleStep → Type 0 = λ c. IsPlaceOf c x (place_at new x) in
      let Q : ℕ → Type 0 = λ k. IsPlaceOf (steps_at old p) x k in
      elim (cases_Bool (is_on (steps_at old key) x)) [
        | inl on ↦ absurd (none_some (parent_at new x) p (free_on x b.0 on) e)
        | inr off ↦ subst P (sym (left.steps p b.1)) (subst Q (sym (stays_placed x b.0 off)) (kept.forest.placed x p b.2))
      ]

  pub kept_left : IsKept new leaves made
  kept_left = record {
    forest = record {
      shaped = shaped_left;
      young = λ x h.
          let e : made_at new x ≡ made_at old x = left.made x (kept_off x h) in
          omega (arith, kept.forest.young x (sym (left.kept x (kept_off x h)) ∙ h));
      up = λ x p e. let b = before x p e in ap (λ c. is_on c x) (left.steps p b.1) ∙ kept.forest.up x p b.2;
      down = down_left;
      older = λ x p e.
          let b = before x p e in
          let f : made_at new x ≡ made_at old x = left.made x b.0 in
          let g : made_at new p ≡ made_at old p = left.made p b.1 in
          omega (arith, kept.forest.older x p b.2);
      placed = placed_left;
    };
    apart = λ d x y g h. kept.apart d x y (own_before x d g) (own_before y d h);
    leaf_at = λ d x e.
        let own : own_at old x ≡ d ∷ [] = kept.leaf_at d x e in
        left.own x (λ k. some (leaf_cycle old made kept.forest key d (ap (own_at old) (sym k) ∙ own))) ∙ own;
    leaf_of = λ d x p h e. let b = before x p e in kept.leaf_of d x p (own_before x d h) b.2;
  }

  pub takes_off : TakesOff (nodes_of old) (nodes_of new) key
  takes_off = record {
    gone = node_unless new key (ap (λ (o : Option Item). is_some o) here);
    others = λ x n. others_same old new key left (λ y. y ≢ key) (λ y h. h) (λ y z h on. child_off z y on) x n (λ h. n);
  }
