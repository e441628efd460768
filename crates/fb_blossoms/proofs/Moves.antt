-- What the calls that add and take off nodes do to the store.
use Rattle.std.proofs.Common.{◌≡◌, ◌≢◌, inl, inr, ℕ, ◌+◌, Bool, true, false, if◌then◌else◌, List, [], ◌∷◌, Option, Some, None, option_map, refl, sym, ◌∙◌, ap, subst}
use Rattle.std.proofs.lemmas.Bool.{both_ways}
use Rattle.slab.specs.Slab.{Slab, Updates, get}
use Rattle.fb_links.specs.Lists.{is_in}
use Rattle.fb_links.specs.declared.cycle.CycleStep.{CycleStep}
use Rattle.fb_blossoms.specs.InternalItems.{Item}
use Rattle.fb_blossoms.specs.Nodes.{Adds, AreOuter, IsOddCycle, IsOuter, Node, TakesOff, blossom, cycle_at, is_on, leaf, node_at}
use Rattle.fb_blossoms.specs.InternalForest.{IsItem, IsKept, cycle_in, item_at, is_kept, last_place, nodes_of, own_at, parent_at, reparented_item, steps_at, with_parent}
use Rattle.fb_blossoms.specs.InternalLeaves.{HasLeaves}
use Rattle.fb_blossoms.proofs.Held.{cycle_from, live_from}
use Rattle.fb_blossoms.proofs.Nested.{is_in-one, leaf_node, outer_from, own_alone}
use Rattle.fb_blossoms.proofs.Changes.{adds, kept_added, kept_left, node_added, takes_off}

abbrev pub new_blossom : ℕ → List CycleStep → Item
new_blossom made cycle = record { parent = None; place = 0; made = made; own = []; cycle = cycle }

abbrev pub new_leaf : ℕ → ℕ → Item
new_leaf made d = record { parent = None; place = 0; made = made; own = d ∷ []; cycle = [] }

adds_as : (old new : List (Option Node)) (key : ℕ) (n m : Node) → Adds old new key n → n ≡ m → Adds old new key m
adds_as old new key n m h e = let P : Node → Type 0 = λ k. Adds old new key k in subst P e h

module _ (old mid new : Slab Item) (leaves : ℕ → Option ℕ) (made : ℕ) (kept : IsKept old.slots leaves made) (key : ℕ) (cycle : List CycleStep)
    (vacant : get old key ≡ None) (moved : (x : ℕ) → get mid x ≡ reparented_item cycle (Some key) x (get old x))
    (updates : Updates mid new key (Some (new_blossom made cycle)))
    (odd : IsOddCycle (nodes_of old.slots) cycle) (outer : AreOuter (nodes_of old.slots) cycle)
    (entered : HasLeaves old.slots leaves (is_on cycle)) where
  live : (x : ℕ) → is_on cycle x ≡ true → is_kept old.slots x ≡ true
  live x on = sym (live_from old.slots x) ∙ odd.live x on

  top : (x : ℕ) → is_on cycle x ≡ true → parent_at old.slots x ≡ None
  top x on = outer_from old.slots made kept.forest x (outer x on)

  others : (x : ℕ) → x ≢ key → item_at new.slots x ≡ reparented_item cycle (Some key) x (item_at old.slots x)
  others x n = updates.others x n ∙ moved x

  shaped : IsItem [] cycle
  shaped = inr (record { bare = refl; odd = odd.odd; three = odd.three; distinct = odd.distinct })

  unowned : (d x : ℕ) → is_in [] d ≡ true → is_in (own_at old.slots x) d ≡ true → ⊥
  unowned d x h = absurd (both_ways false refl h)

  pub formed : IsKept new.slots leaves (made + 1)
  formed =
      kept_added old.slots new.slots leaves made kept key (new_blossom made cycle) vacant updates.changed refl refl others live top shaped unowned entered

  pub forms : Adds (nodes_of old.slots) (nodes_of new.slots) key (blossom (nodes_of old.slots) cycle)
  forms =
      adds_as _ _ key _ _
      (adds old.slots new.slots leaves made kept key (new_blossom made cycle) vacant updates.changed refl refl others live top shaped unowned entered)
      (node_added old.slots new.slots leaves made kept key (new_blossom made cycle) vacant updates.changed refl refl others live top shaped unowned entered
      (record { bare = refl; odd = odd.odd; three = odd.three; distinct = odd.distinct }))

-- a leaf is added of a defect that is in no node
module _ (old new : Slab Item) (leaves : ℕ → Option ℕ) (made : ℕ) (kept : IsKept old.slots leaves made) (key d : ℕ)
    (vacant : get old key ≡ None) (updates : Updates old new key (Some (new_leaf made d)))
    (unused : (x : ℕ) → node_at (nodes_of old.slots) x ≢ Some (leaf d)) where
  not_owned : (e x : ℕ) → is_in (d ∷ []) e ≡ true → is_in (own_at old.slots x) e ≡ true → ⊥
  not_owned e x h k =
      let own : is_in (own_at old.slots x) d ≡ true = ap (λ y. is_in (own_at old.slots x) y) (is_in-one d e h) ∙ k in
      unused x (leaf_node old.slots made kept.forest x d (own_alone old.slots made kept.forest x d own))

  shape : IsItem (d ∷ []) []
  shape = inl (record { defect = d; alone = refl; bare = refl })

  off : (X : ℕ → Type 0) (x : ℕ) → is_on [] x ≡ true → X x
  off X x h = absurd (both_ways false refl h)

  none_on : HasLeaves old.slots leaves (is_on [])
  none_on e x own on = off (λ y. leaves e ≡ Some y) x on

  pub leafed : IsKept new.slots leaves (made + 1)
  leafed =
      kept_added old.slots new.slots leaves made kept key (new_leaf made d) vacant updates.changed refl refl updates.others
      (off (λ x. is_kept old.slots x ≡ true)) (off (λ x. parent_at old.slots x ≡ None)) shape not_owned none_on

  pub leafs : Adds (nodes_of old.slots) (nodes_of new.slots) key (leaf d)
  leafs =
      adds old.slots new.slots leaves made kept key (new_leaf made d) vacant updates.changed refl refl updates.others
      (off (λ x. is_kept old.slots x ≡ true)) (off (λ x. parent_at old.slots x ≡ None)) shape not_owned none_on

module _ (old mid new : Slab Item) (leaves : ℕ → Option ℕ) (made : ℕ) (kept : IsKept old.slots leaves made) (key : ℕ) (i : Item)
    (found : get old key ≡ Some i) (updates : Updates old mid key None)
    (moved : (x : ℕ) → get new x ≡ reparented_item i.cycle None x (get mid x))
    (some : cycle_at (nodes_of old.slots) key ≢ []) (outer : IsOuter (nodes_of old.slots) key) where
  steps : steps_at old.slots key ≡ i.cycle
  steps = ap cycle_in found

  some_steps : steps_at old.slots key ≡ [] → ⊥
  some_steps e = some (cycle_from old.slots key ∙ e)

  gone : item_at new.slots key ≡ None
  gone = moved key ∙ (ap (reparented_item i.cycle None key) updates.changed ∙ none (is_on i.cycle key))
    where
      none : (b : Bool) → (if b then option_map (with_parent None (last_place i.cycle key)) None else None) ≡ None
      none true = refl
      none false = refl

  still : (x : ℕ) → x ≢ key → item_at new.slots x ≡ reparented_item (steps_at old.slots key) None x (item_at old.slots x)
  still x n = moved x ∙ (ap (reparented_item i.cycle None x) (updates.others x n) ∙ ap (λ c. reparented_item c None x (item_at old.slots x)) (sym steps))

  pub opened : IsKept new.slots leaves made
  opened = kept_left old.slots new.slots leaves made kept key (outer_from old.slots made kept.forest key outer) some_steps gone still

  pub opens : TakesOff (nodes_of old.slots) (nodes_of new.slots) key
  opens = takes_off old.slots new.slots leaves made kept key (outer_from old.slots made kept.forest key outer) some_steps gone still

-- what is told of the slab with more room holds of the slab
pub vacant_from : (old roomy : Slab Item) (capacity key : ℕ) → roomy ≡ record old { capacity = capacity } → get roomy key ≡ None → get old key ≡ None
vacant_from old roomy capacity key e h = ap (λ s. get s key) (sym e) ∙ h

pub moved_from : (old roomy mid : Slab Item) (capacity : ℕ) (seen cycle : List CycleStep) (q : Option ℕ) → roomy ≡ record old { capacity = capacity }
    → seen ≡ cycle → ((x : ℕ) → get mid x ≡ reparented_item seen q x (get roomy x)) → (x : ℕ) → get mid x ≡ reparented_item cycle q x (get old x)
moved_from old roomy mid capacity seen cycle q e same h x =
    h x ∙ (ap (λ s. reparented_item seen q x (get s x)) e ∙ ap (λ c. reparented_item c q x (get old x)) same)

pub updates_from : (mid new : Slab Item) (at key : ℕ) (i j : Item) → at ≡ key → i ≡ j → Updates mid new at (Some i) → Updates mid new key (Some j)
updates_from mid new at key i j e f h =
    let P : ℕ → Type 0 = λ k. Updates mid new k (Some j) in
    let Q : Item → Type 0 = λ k. Updates mid new at (Some k) in
    subst P e (subst Q f h)

pub updates_roomy : (old roomy new : Slab Item) (capacity key : ℕ) (o : Option Item) → roomy ≡ record old { capacity = capacity } → Updates roomy new key o → Updates old new key o
updates_roomy old roomy new capacity key o e h = record {
  changed = h.changed;
  others = λ x n. h.others x n ∙ ap (λ s. get s x) e;
}

pub seen_from : (mid new : Slab Item) (seen cycle : List CycleStep) (q : Option ℕ) → seen ≡ cycle
    → ((x : ℕ) → get new x ≡ reparented_item seen q x (get mid x)) → (x : ℕ) → get new x ≡ reparented_item cycle q x (get mid x)
seen_from mid new seen cycle q same h x = h x ∙ ap (λ c. reparented_item c q x (get mid x)) same

pub entered_from : (slots : List (Option Item)) (index : ℕ → Option ℕ) (seen cycle : List CycleStep) → seen ≡ cycle → HasLeaves slots index (is_on seen)
    → HasLeaves slots index (is_on cycle)
entered_from slots index seen cycle same has = let P : List CycleStep → Type 0 = λ c. HasLeaves slots index (is_on c) in subst P same has
