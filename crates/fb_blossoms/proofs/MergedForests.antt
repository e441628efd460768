-- What a store keeps when the nodes of another join it under new names.
use Rattle.std.proofs.Common.{◌≡◌, inl, inr, ℕ, zero, suc, ◌+◌, ◌<◌, ◌&&◌, true, false, if◌then◌else◌, List, [], ◌∷◌, ◌++◌, length, Option, Some, None, is_some, option_map, refl, sym, ◌∙◌, ap, subst, arith}
use Rattle.fb_links.specs.Lists.{is_in}
use Rattle.fb_links.specs.Names.{name_by}
use Rattle.std.specs.List.{flat_map}
use Rattle.std.proofs.lemmas.Bool.{both_ways}
use Rattle.std.proofs.lemmas.List.{length-map}
use Rattle.fb_links.specs.declared.cycle.CycleStep.{CycleStep}
use Rattle.fb_blossoms.specs.InternalItems.{Item}
use Rattle.fb_blossoms.specs.Nodes.{Node, is_live, is_on, node_at}
use Rattle.fb_blossoms.specs.InternalForest.{AreOwnApart, IsForest, IsItem, IsKept, IsPlaceOf, cycle_in, defects_in, held_at, is_kept, item_at, made_at, made_in, nodes_of, own_at, own_in, parent_at, parent_in, place_at, place_of, steps_at}
use Rattle.fb_blossoms.specs.Merged.{AreLeavesApart, IsMerged, renamed_cycle, renamed_node, renamed_step}
use Rattle.fb_blossoms.specs.InternalMerged.{AreJoined, shifted_item, renamed_item}
use Rattle.fb_blossoms.specs.InternalLeaves.{HasLeaves, IsGrown, is_taken_child}
use Rattle.fb_blossoms.proofs.Climbs.{kept_child, kept_parent, none_some, same_some}
use Rattle.fb_blossoms.proofs.Held.{levels_agree, live_from, same_levels}
use Rattle.fb_blossoms.proofs.Nested.{leaf_node, one_in, own_alone, own_kept}
use Rattle.fb_blossoms.proofs.Changes.{node_unless, node_when}
use Rattle.fb_blossoms.proofs.Renamings.{along_renamed, item_renamed, node_renamed, on_from, on_to}

from_map : (f : ℕ → ℕ) (o : Option ℕ) (p : ℕ) → option_map f o ≡ Some p → (q : ℕ) × (o ≡ Some q) × (f q ≡ p)
from_map f None p e = absurd (none_some {X = ℕ} None p refl e)
from_map f (Some q) p e = (q, refl, same_some (Some (f q)) (f q) p refl e)

module _ (f g : ℕ → ℕ) (more : ℕ) where
  abbrev moved : Option Item → Option Item
  moved o = option_map (λ i. renamed_item f g (shifted_item more i)) o

  parent_moved : (o : Option Item) → parent_in (moved o) ≡ option_map f (parent_in o)
  parent_moved None = refl
  parent_moved (Some i) = refl

  own_moved : (o : Option Item) → own_in (moved o) ≡ own_in o
  own_moved None = refl
  own_moved (Some i) = refl

  steps_moved : (o : Option Item) → cycle_in (moved o) ≡ renamed_cycle f g (cycle_in o)
  steps_moved None = refl
  steps_moved (Some i) = refl

  place_moved : (o : Option Item) → place_of (moved o) ≡ place_of o
  place_moved None = refl
  place_moved (Some i) = refl

  made_moved : (o : Option Item) → is_some o ≡ true → made_in (moved o) ≡ made_in o + more
  made_moved None h = absurd (both_ways false refl h)
  made_moved (Some i) h = refl

  kept_moved : (o : Option Item) → is_some o ≡ true → is_some (moved o) ≡ true
  kept_moved None h = h
  kept_moved (Some i) h = refl

module _ (old right new : List (Option Item)) (more made : ℕ) (links names : List (ℕ × ℕ)) (first : IsForest old more) (second : IsForest right made)
    (joined : AreJoined old right new more links names) where
  abbrev F : ℕ → ℕ
  F = name_by names

  abbrev G : ℕ → ℕ
  G = name_by links

  parent_right : (a : ℕ) → is_kept right a ≡ true → parent_at new (F a) ≡ option_map F (parent_at right a)
  parent_right a k = ap parent_in (joined.under a k) ∙ parent_moved F G more (item_at right a)

  own_right : (a : ℕ) → is_kept right a ≡ true → own_at new (F a) ≡ own_at right a
  own_right a k = ap own_in (joined.under a k) ∙ own_moved F G more (item_at right a)

  steps_right : (a : ℕ) → is_kept right a ≡ true → steps_at new (F a) ≡ renamed_cycle F G (steps_at right a)
  steps_right a k = ap cycle_in (joined.under a k) ∙ steps_moved F G more (item_at right a)

  place_right : (a : ℕ) → is_kept right a ≡ true → place_at new (F a) ≡ place_at right a
  place_right a k = ap place_of (joined.under a k) ∙ place_moved F G more (item_at right a)

  made_right : (a : ℕ) → is_kept right a ≡ true → made_at new (F a) ≡ made_at right a + more
  made_right a k = ap made_in (joined.under a k) ∙ made_moved F G more (item_at right a) k

  kept_right : (a : ℕ) → is_kept right a ≡ true → is_kept new (F a) ≡ true
  kept_right a k = ap (λ (o : Option Item). is_some o) (joined.under a k) ∙ kept_moved F G more (item_at right a) k

  kept_left : (x : ℕ) → is_kept old x ≡ true → is_kept new x ≡ true
  kept_left x k = ap (λ (o : Option Item). is_some o) (joined.stays x k) ∙ k

  -- a fact of each old item and of each item that joined is one of all items
  each : (P : ℕ → Type 0) → ((x : ℕ) → is_kept old x ≡ true → P x) → ((a : ℕ) → is_kept right a ≡ true → P (F a)) → (x : ℕ) → is_kept new x ≡ true → P x
  each P left joining x k =
      elim (joined.only x k) [
        | inl before ↦ left x before
        | inr r ↦ subst P r.2 (joining r.0 r.1)
      ]

  -- the parent of a node that joined did so too
  parent_joined : (a p : ℕ) → is_kept right a ≡ true → parent_at new (F a) ≡ Some p → (q : ℕ) × (parent_at right a ≡ Some q) × (is_kept right q ≡ true) × (F q ≡ p)
  parent_joined a p k e =
      let r : (q : ℕ) × (parent_at right a ≡ Some q) × (F q ≡ p) = from_map F (parent_at right a) p (sym (parent_right a k) ∙ e) in
      (r.0, r.1, kept_parent right a r.0 (second.up a r.0 r.1), r.2)

  parent_before : (x p : ℕ) → is_kept old x ≡ true → parent_at new x ≡ Some p → parent_at old x ≡ Some p
  parent_before x p k e = sym (ap parent_in (joined.stays x k)) ∙ e

  kept_before : (x p : ℕ) → parent_at old x ≡ Some p → is_kept old p ≡ true
  kept_before x p e = kept_parent old x p (first.up x p e)

  up_new : (x p : ℕ) → parent_at new x ≡ Some p → is_on (steps_at new p) x ≡ true
  up_new x p e =
      each (λ x. (p : ℕ) → parent_at new x ≡ Some p → is_on (steps_at new p) x ≡ true)
      (λ x k p e.
      let before : parent_at old x ≡ Some p = parent_before x p k e in
      ap (λ o. is_on (cycle_in o) x) (joined.stays p (kept_before x p before)) ∙ first.up x p before)
      (λ a k p e.
      let r : (q : ℕ) × (parent_at right a ≡ Some q) × (is_kept right q ≡ true) × (F q ≡ p) = parent_joined a p k e in
      ap (λ y. is_on (steps_at new y) (F a)) (sym r.3) ∙ (ap (λ c. is_on c (F a)) (steps_right r.0 r.2) ∙ on_to F G (steps_at right r.0) a (second.up a r.0 r.1)))
      x (kept_child new x p e) p e

  down_new : (x p : ℕ) → is_on (steps_at new p) x ≡ true → parent_at new x ≡ Some p
  down_new x p on =
      each (λ p. (x : ℕ) → is_on (steps_at new p) x ≡ true → parent_at new x ≡ Some p)
      (λ p k x on.
      let e : parent_at old x ≡ Some p = first.down x p (ap (λ o. is_on (cycle_in o) x) (sym (joined.stays p k)) ∙ on) in
      ap parent_in (joined.stays x (kept_child old x p e)) ∙ e)
      (λ q k x on.
      let r : (y : ℕ) × (is_on (steps_at right q) y ≡ true) × (F y ≡ x) = on_from F G (steps_at right q) x (ap (λ c. is_on c x) (sym (steps_right q k)) ∙ on) in
      let e : parent_at right r.0 ≡ Some q = second.down r.0 q r.1 in
      ap (parent_at new) (sym r.2) ∙ (parent_right r.0 (kept_child right r.0 q e) ∙ ap (option_map F) e))
      p (kept_parent new x p on) x on

  older_new : (x p : ℕ) → parent_at new x ≡ Some p → made_at new x < made_at new p
  older_new x p e =
      each (λ x. (p : ℕ) → parent_at new x ≡ Some p → made_at new x < made_at new p)
      (λ x k p e.
      let before : parent_at old x ≡ Some p = parent_before x p k e in
      let a : made_at new x ≡ made_at old x = ap made_in (joined.stays x k) in
      let b : made_at new p ≡ made_at old p = ap made_in (joined.stays p (kept_before x p before)) in
      omega (arith, a, b, first.older x p before))
      (λ a k p e.
      let r : (q : ℕ) × (parent_at right a ≡ Some q) × (is_kept right q ≡ true) × (F q ≡ p) = parent_joined a p k e in
      let b : made_at new p ≡ made_at right r.0 + more = ap (made_at new) (sym r.3) ∙ made_right r.0 r.2 in
      omega (arith, made_right a k, b, second.older a r.0 r.1))
      x (kept_child new x p e) p e

  placed_new : (x p : ℕ) → parent_at new x ≡ Some p → IsPlaceOf (steps_at new p) x (place_at new x)
  placed_new x p e =
      each (λ x. (p : ℕ) → parent_at new x ≡ Some p → IsPlaceOf (steps_at new p) x (place_at new x))
      (λ x k p e.
      let before : parent_at old x ≡ Some p = parent_before x p k e in
      let P : Option Item → Type 0 = λ o. IsPlaceOf (cycle_in o) x (place_at new x) in
      let Q : Option Item → Type 0 = λ o. IsPlaceOf (steps_at old p) x (place_of o) in
      subst P (sym (joined.stays p (kept_before x p before))) (subst Q (sym (joined.stays x k)) (first.placed x p before)))
      (λ a k p e.
      let r : (q : ℕ) × (parent_at right a ≡ Some q) × (is_kept right q ≡ true) × (F q ≡ p) = parent_joined a p k e in
      let at : IsPlaceOf (steps_at right r.0) a (place_at right a) = second.placed a r.0 r.1 in
      let n : length (renamed_cycle F G (steps_at right r.0)) ≡ length (steps_at right r.0) = length-map (steps_at right r.0) (renamed_step F G) in
      let there : IsPlaceOf (renamed_cycle F G (steps_at right r.0)) (F a) (place_at right a) =
      (omega (arith, n, at.0), node_renamed F G (steps_at right r.0) (place_at right a) at.0 ∙ ap F at.1) in
      let P : ℕ → Type 0 = λ y. IsPlaceOf (steps_at new y) (F a) (place_at new (F a)) in
      let Q : List CycleStep → Type 0 = λ c. IsPlaceOf c (F a) (place_at new (F a)) in
      let R : ℕ → Type 0 = λ k. IsPlaceOf (renamed_cycle F G (steps_at right r.0)) (F a) k in
      subst P r.3 (subst Q (sym (steps_right r.0 r.2)) (subst R (sym (place_right a k)) there)))
      x (kept_child new x p e) p e

  apart_on : (a : ℕ) → (y z : ℕ) → is_on (steps_at right a) y ≡ true → is_on (steps_at right a) z ≡ true → F y ≡ F z → y ≡ z
  apart_on a y z h k e = joined.apart y z (kept_child right y a (second.down y a h)) (kept_child right z a (second.down z a k)) e

  shaped_new : (x : ℕ) → is_kept new x ≡ true → IsItem (own_at new x) (steps_at new x)
  shaped_new x k =
      each (λ x. IsItem (own_at new x) (steps_at new x))
      (λ x k. let P : Option Item → Type 0 = λ o. IsItem (own_in o) (cycle_in o) in subst P (sym (joined.stays x k)) (first.shaped x k))
      (λ a k.
      let P : List ℕ → Type 0 = λ o. IsItem o (steps_at new (F a)) in
      let Q : List CycleStep → Type 0 = λ c. IsItem (own_at right a) c in
      subst P (sym (own_right a k)) (subst Q (sym (steps_right a k)) (item_renamed F G (own_at right a) (steps_at right a) (apart_on a) (second.shaped a k))))
      x k

  young_new : (x : ℕ) → is_kept new x ≡ true → made_at new x < more + made
  young_new x k =
      each (λ x. made_at new x < more + made)
      (λ x k. let a : made_at new x ≡ made_at old x = ap made_in (joined.stays x k) in omega (arith, a, first.young x k))
      (λ a k. omega (arith, made_right a k, second.young a k))
      x k

  pub forest_new : IsForest new (more + made)
  forest_new = record { shaped = shaped_new; young = young_new; up = up_new; down = down_new; older = older_new; placed = placed_new }

  -- the defects that nodes hold stay
  defects_right : (k a : ℕ) → is_kept right a ≡ true → defects_in new k (F a) ≡ defects_in right k a
  defects_right zero a h = refl
  defects_right (suc k) a h =
      ap (λ o. o ++ flat_map (λ s. defects_in new k s.node) (steps_at new (F a))) (own_right a h)
      ∙ ap (λ l. own_at right a ++ l)
      (ap (flat_map (λ s. defects_in new k s.node)) (steps_right a h)
      ∙ along_renamed F G (defects_in new k) (defects_in right k) (steps_at right a)
      (λ y on. defects_right k y (kept_child right y a (second.down y a on))))

  held_right : (a : ℕ) → is_kept right a ≡ true → held_at new (F a) ≡ held_at right a
  held_right a k =
      ap (λ m. defects_in new (suc m) (F a)) (made_right a k)
      ∙ (defects_right (suc (made_at right a + more)) a k ∙ levels_agree right made second (suc (made_at right a + more)) (suc (made_at right a)) a (omega arith) (omega arith))

  held_left : (x : ℕ) → is_kept old x ≡ true → held_at new x ≡ held_at old x
  held_left x k =
      ap (λ o. defects_in new (suc (made_in o)) x) (joined.stays x k)
      ∙ same_levels old new (λ y. is_kept old y ≡ true) (λ y h. ap own_in (joined.stays y h)) (λ y h. ap cycle_in (joined.stays y h))
      (λ y z h on. kept_child old z y (first.down z y on)) (suc (made_at old x)) x k

  abbrev node_made : List ℕ → List CycleStep → Option Node
  node_made d c = Some (record { defects = d; cycle = c })

  node_right : (a : ℕ) → is_kept right a ≡ true → node_at (nodes_of new) (F a) ≡ option_map (renamed_node F G) (node_at (nodes_of right) a)
  node_right a k =
      node_when new (F a) (kept_right a k)
      ∙ (ap (λ d. node_made d (steps_at new (F a))) (held_right a k)
      ∙ (ap (node_made (held_at right a)) (steps_right a k) ∙ sym (ap (option_map (renamed_node F G)) (node_when right a k))))

  node_left : (x : ℕ) → is_kept old x ≡ true → node_at (nodes_of new) x ≡ node_at (nodes_of old) x
  node_left x k =
      node_when new x (kept_left x k)
      ∙ (ap (λ d. node_made d (steps_at new x)) (held_left x k)
      ∙ (ap (λ o. node_made (held_at old x) (cycle_in o)) (joined.stays x k) ∙ sym (node_when old x k)))

  pub merged : IsMerged (nodes_of old) (nodes_of right) (nodes_of new) links names
  merged = record {
    listed = λ a. joined.listed a ∙ ap (λ t. if t then 1 else 0) (sym (live_from right a));
    distinct = joined.distinct;
    apart = λ a c h k e. joined.apart a c (from_live right a h) (from_live right c k) e;
    fresh = λ a h. node_unless old (F a) (ap (λ (o : Option Item). is_some o) (joined.fresh a (from_live right a h)));
    left_stays = λ x h. node_left x (from_live old x h);
    right_renamed = λ a h. node_right a (from_live right a h);
    nothing_else = λ x h.
        elim (joined.only x (from_live new x h)) [
          | inl left ↦ inl (live_from old x ∙ left)
          | inr r ↦ inr (r.0, live_from right r.0 ∙ r.1, r.2)
        ];
  }
    where
      from_live : (slots : List (Option Item)) (x : ℕ) → is_live (nodes_of slots) x ≡ true → is_kept slots x ≡ true
      from_live slots x h = sym (live_from slots x) ∙ h

  -- the leaves of both are the leaves of the new store
  module _ (leaves others leaves' : ℕ → Option ℕ) (kept : IsKept old leaves more) (kept' : IsKept right others made)
      (parted : AreLeavesApart (nodes_of old) (nodes_of right)) where
    own_left : (x d : ℕ) → is_kept old x ≡ true → is_in (own_at new x) d ≡ true → is_in (own_at old x) d ≡ true
    own_left x d k h = ap (λ o. is_in (own_in o) d) (sym (joined.stays x k)) ∙ h

    own_other : (a d : ℕ) → is_kept right a ≡ true → is_in (own_at new (F a)) d ≡ true → is_in (own_at right a) d ≡ true
    own_other a d k h = ap (λ o. is_in o d) (sym (own_right a k)) ∙ h

    crossed : (x a d : ℕ) → is_in (own_at old x) d ≡ true → is_in (own_at right a) d ≡ true → ⊥
    crossed x a d h k =
        parted d x a (leaf_node old more first x d (own_alone old more first x d h)) (leaf_node right made second a d (own_alone right made second a d k))

    new_kept : (x d : ℕ) → is_in (own_at new x) d ≡ true → is_kept new x ≡ true
    new_kept x d h = own_kept new (more + made) forest_new x d h

    pub own_apart : AreOwnApart new
    own_apart d x y h k =
        each (λ x. (y : ℕ) → is_in (own_at new x) d ≡ true → is_in (own_at new y) d ≡ true → x ≡ y)
        (λ x i y h k.
        each (λ y. is_in (own_at new y) d ≡ true → x ≡ y)
        (λ y j k. kept.apart d x y (own_left x d i h) (own_left y d j k))
        (λ b j k. absurd (crossed x b d (own_left x d i h) (own_other b d j k)))
        y (new_kept y d k) k)
        (λ a i y h k.
        each (λ y. is_in (own_at new y) d ≡ true → F a ≡ y)
        (λ y j k. absurd (crossed y a d (own_left y d j k) (own_other a d i h)))
        (λ b j k. ap F (kept'.apart d a b (own_other a d i h) (own_other b d j k)))
        y (new_kept y d k) k)
        x (new_kept x d h) y h k

    pub kept_merged : IsGrown new leaves leaves' → HasLeaves new leaves' (is_taken_child new names) → IsKept new leaves' (more + made)
    kept_merged grown has = record {
      forest = forest_new;
      apart = own_apart;
      leaf_at = λ d x e.
          elim (grown.known d x e) [
            | inl before ↦
                let own : own_at old x ≡ d ∷ [] = kept.leaf_at d x before in
                ap own_in (joined.stays x (own_kept old more first x d (ap (λ o. is_in o d) own ∙ one_in d))) ∙ own
            | inr now ↦ own_alone new (more + made) forest_new x d now
          ];
      leaf_of = λ d x p h e.
          each (λ x. is_in (own_at new x) d ≡ true → parent_at new x ≡ Some p → leaves' d ≡ Some x)
          (λ x k h e. grown.stays d x h (kept.leaf_of d x p (own_left x d k h) (ap parent_in (sym (joined.stays x k)) ∙ e)))
          (λ a k h e. has d (F a) h (ap (λ b. b && is_some (parent_at new (F a))) (joined.named a k) ∙ ap (λ (o : Option ℕ). is_some o) e))
          x (new_kept x d h) h e;
    }

-- the same of a list that equals the pairs
pub taken_by : (slots : List (Option Item)) (index : ℕ → Option ℕ) (seen names : List (ℕ × ℕ)) → seen ≡ names
    → HasLeaves slots index (is_taken_child slots seen) → HasLeaves slots index (is_taken_child slots names)
taken_by slots index seen names same has = let P : List (ℕ × ℕ) → Type 0 = λ l. HasLeaves slots index (is_taken_child slots l) in subst P same has
