-- What a store keeps, as its contracts see it.
use Rattle.std.proofs.Common.{◌≡◌, ◌⊎◌, inl, inr, ℕ, zero, suc, ◌==◌, ◌||◌, Bool, true, false, List, [], ◌∷◌, ◌++◌, Option, Some, None, is_some, option_map, Result, Ok, Err, IfOk, refl, sym, ◌∙◌, ap, subst, arith}
use Rattle.std.specs.List.{flat_map}
use Rattle.std.proofs.lemmas.Bool.{both_ways, cases_Bool, eq-eqb, eqb-true, or_left}
use Rattle.std.proofs.lemmas.List.{append-nil}
use Rattle.fb_links.specs.Lists.{is_in}
use Rattle.fb_links.specs.declared.cycle.CycleStep.{CycleStep}
use Rattle.fb_blossoms.specs.InternalItems.{Item}
use Rattle.fb_blossoms.specs.Nodes.{IsBlossom, IsChildHolding, IsLeaf, IsNested, IsOuter, IsOuterOf, IsParent, Node, cycle_at, cycle_of, defects_along, defects_at, defects_of, is_on, leaf, node_at}
use Rattle.fb_blossoms.specs.InternalForest.{Climbs, IsChildOver, IsForest, IsItem, IsKept, IsLeafItem, IsOddItem, IsPlaceOf, IsTopOf, LeadsDownTo, cycle_in, defects_in, held_at, is_kept, item_at, made_at, made_in, node_of, nodes_of, own_at, own_in, parent_at, place_at, steps_at}
use Rattle.fb_blossoms.specs.InternalWays.{LeadsDown}
use Rattle.fb_blossoms.proofs.Climbs.{climb_more, kept_child, none_some, same_child, same_some, same_top}
use Rattle.fb_blossoms.proofs.Held.{along_same, cycle_from, held_along, held_from, holds_climbing, holds_some, leaf_below, live_from, node_from}

-- a number in a list of one is that one
pub is_in-one : (x d : ℕ) → is_in (x ∷ []) d ≡ true → x ≡ d
is_in-one x d h = at (x == d) refl h
  where
    at : (b : Bool) → (x == d) ≡ b → (b || false) ≡ true → x ≡ d
    at true e h = eqb-true x d e
    at false e h = absurd (both_ways false refl h)

pub one_in : (x : ℕ) → is_in (x ∷ []) x ≡ true
one_in x = ap (λ b. b || false) (eq-eqb x x refl)

module _ (slots : List (Option Item)) (made : ℕ) (forest : IsForest slots made) where
  pub child_from : (p x : ℕ) → is_on (cycle_at (nodes_of slots) p) x ≡ true → parent_at slots x ≡ Some p
  child_from p x on = forest.down x p (ap (λ c. is_on c x) (sym (cycle_from slots p)) ∙ on)

  pub child_to : (p x : ℕ) → parent_at slots x ≡ Some p → is_on (cycle_at (nodes_of slots) p) x ≡ true
  child_to p x e = ap (λ c. is_on c x) (cycle_from slots p) ∙ forest.up x p e

  pub outer_from : (x : ℕ) → IsOuter (nodes_of slots) x → parent_at slots x ≡ None
  outer_from x out = at (parent_at slots x) refl
    where
      at : (o : Option ℕ) → parent_at slots x ≡ o → parent_at slots x ≡ None
      at None e = e
      at (Some p) e = absurd (both_ways _ (out p) (child_to p x e))

  pub outer_to : (x : ℕ) → parent_at slots x ≡ None → IsOuter (nodes_of slots) x
  outer_to x e p =
      elim (cases_Bool (is_on (cycle_at (nodes_of slots) p) x)) [
        | inl on ↦ absurd (none_some (parent_at slots x) p e (child_from p x on))
        | inr off ↦ off
      ]

  pub holds_from : (x d : ℕ) → is_in (defects_at (nodes_of slots) x) d ≡ true → is_in (held_at slots x) d ≡ true
  holds_from x d h = ap (λ l. is_in l d) (sym (held_from slots x)) ∙ h

  pub holds_to : (x d : ℕ) → is_in (held_at slots x) d ≡ true → is_in (defects_at (nodes_of slots) x) d ≡ true
  holds_to x d h = ap (λ l. is_in l d) (held_from slots x) ∙ h

  along_from : (ss : List CycleStep) → flat_map (λ s. held_at slots s.node) ss ≡ defects_along (nodes_of slots) ss
  along_from ss = along_same (λ s. held_at slots s.node) (λ s. defects_at (nodes_of slots) s.node) ss (λ s on. sym (held_from slots s.node))

  -- the node of an odd item
  pub blossom_from : (x : ℕ) (i : Item) → item_at slots x ≡ Some i → IsOddItem i.own i.cycle → IsBlossom (nodes_of slots) (node_of slots i)
  blossom_from x i e h = record {
    cycle = record {
      odd = h.odd;
      three = h.three;
      distinct = h.distinct;
      live = λ y on. live_from slots y ∙ kept_child slots y x (forest.down y x (ap (λ o. is_on (cycle_in o) y) e ∙ on));
    };
    defects = here ∙ (held_along slots made forest x ∙ there);
  }
    where
      here : (node_of slots i).defects ≡ held_at slots x
      here = ap (λ o. own_in o ++ flat_map (λ s. defects_in slots (made_in o) s.node) (cycle_in o)) (sym e)

      there : own_at slots x ++ flat_map (λ s. held_at slots s.node) (steps_at slots x) ≡ defects_along (nodes_of slots) i.cycle
      there =
          ap (λ o. own_in o ++ flat_map (λ s. held_at slots s.node) (cycle_in o)) e
          ∙ (ap (λ l. l ++ flat_map (λ s. held_at slots s.node) i.cycle) h.bare ∙ along_from i.cycle)

  pub leaf_from : (i : Item) → IsLeafItem i.own i.cycle → IsLeaf (node_of slots i)
  leaf_from i h =
      (h.defect, at i.own i.cycle h.alone h.bare)
    where
      at : (own : List ℕ) (cycle : List CycleStep) → own ≡ h.defect ∷ [] → cycle ≡ []
          → (let n : Node = record { defects = own ++ flat_map (λ s. defects_in slots i.made s.node) cycle; cycle = cycle } in n) ≡ leaf h.defect
      at own cycle e f = rw (e, f) refl

  pub shaped_from : (x : ℕ) (n : Node) → node_at (nodes_of slots) x ≡ Some n → IsLeaf n ⊎ IsBlossom (nodes_of slots) n
  shaped_from x n e = at (item_at slots x) refl
    where
      P : Node → Type 0
      P n = IsLeaf n ⊎ IsBlossom (nodes_of slots) n

      shape : (i : Item) → item_at slots x ≡ Some i → IsItem i.own i.cycle
      shape i f =
          let Q : Option Item → Type 0 = λ o. IsItem (own_in o) (cycle_in o) in
          subst Q f (forest.shaped x (ap (λ (o : Option Item). is_some o) f))

      seen : (o : Option Item) → item_at slots x ≡ o → option_map (node_of slots) o ≡ Some n
      seen o f = ap (option_map (node_of slots)) (sym f) ∙ (sym (node_from slots x) ∙ e)

      at : (o : Option Item) → item_at slots x ≡ o → IsLeaf n ⊎ IsBlossom (nodes_of slots) n
      at None f = absurd (none_some None n refl (seen None f))
      at (Some i) f =
          let same : node_of slots i ≡ n = same_some (Some (node_of slots i)) (node_of slots i) n refl (seen (Some i) f) in
          subst P same (elim (shape i f) [ inl l ↦ inl (leaf_from i l) | inr b ↦ inr (blossom_from x i f b) ])

  -- what is a leaf to contracts is one as an item
  pub own_from : (x d : ℕ) → node_at (nodes_of slots) x ≡ Some (leaf d) → is_in (own_at slots x) d ≡ true
  own_from x d e =
      ap (λ l. is_in l d) (sym (append-nil (own_at slots x))) ∙ (ap (λ l. is_in l d) alone ∙ one_in d)
    where
      none : steps_at slots x ≡ []
      none = sym (cycle_from slots x) ∙ ap cycle_of e

      alone : own_at slots x ++ [] ≡ d ∷ []
      alone =
          ap (λ c. own_at slots x ++ flat_map (λ s. held_at slots s.node) c) (sym none)
          ∙ (sym (held_along slots made forest x) ∙ (sym (held_from slots x) ∙ ap defects_of e))

  -- a leaf has no cycle
  pub leaf_cycle : (x d : ℕ) → own_at slots x ≡ d ∷ [] → steps_at slots x ≡ []
  leaf_cycle x d e = at (is_kept slots x) refl
    where
      none : (o : Option Item) → is_some o ≡ false → cycle_in o ≡ []
      none None f = refl
      none (Some i) f = absurd (both_ways true f refl)

      at : (b : Bool) → is_kept slots x ≡ b → steps_at slots x ≡ []
      at false f = none (item_at slots x) f
      at true f =
          elim (forest.shaped x f) [
            | inl l ↦ l.bare
            | inr b ↦ let g : d ∷ [] ≡ [] = sym e ∙ b.bare in absurd (cc)
          ]

  -- who has a defect of its own is a leaf
  pub own_kept : (x d : ℕ) → is_in (own_at slots x) d ≡ true → is_kept slots x ≡ true
  own_kept x d h = at (item_at slots x) h
    where
      at : (o : Option Item) → is_in (own_in o) d ≡ true → is_some o ≡ true
      at None h = h
      at (Some i) h = refl

  pub own_alone : (x d : ℕ) → is_in (own_at slots x) d ≡ true → own_at slots x ≡ d ∷ []
  own_alone x d h = at (own_at slots x) (steps_at slots x) (forest.shaped x (own_kept x d h)) h
    where
      at : (own : List ℕ) (c : List CycleStep) → IsItem own c → is_in own d ≡ true → own ≡ d ∷ []
      at own c (inl l) h = l.alone ∙ ap (λ y. y ∷ []) (is_in-one l.defect d (ap (λ o. is_in o d) (sym l.alone) ∙ h))
      at own c (inr b) h = absurd (both_ways false refl (ap (λ o. is_in o d) (sym b.bare) ∙ h))

  -- a leaf holds its defect
  pub own_held : (x d : ℕ) → own_at slots x ≡ d ∷ [] → is_in (held_at slots x) d ≡ true
  own_held x d e = ap (λ l. is_in (l ++ flat_map (λ s. defects_in slots (made_at slots x) s.node) (steps_at slots x)) d) e ∙ first
    where
      first : ((d == d) || is_in (flat_map (λ s. defects_in slots (made_at slots x) s.node) (steps_at slots x)) d) ≡ true
      first = or_left (d == d) _ (eq-eqb d d refl)

  -- an item that is one defect is a leaf to contracts
  pub leaf_node : (x d : ℕ) → own_at slots x ≡ d ∷ [] → node_at (nodes_of slots) x ≡ Some (leaf d)
  leaf_node x d e = node_from slots x ∙ at (item_at slots x) e (leaf_cycle x d e)
    where
      node : List ℕ → List CycleStep → ℕ → Node
      node own cycle k = record { defects = own ++ flat_map (λ s. defects_in slots k s.node) cycle; cycle = cycle }

      at : (o : Option Item) → own_in o ≡ d ∷ [] → cycle_in o ≡ [] → option_map (node_of slots) o ≡ Some (leaf d)
      at None f g = let h : [] ≡ d ∷ [] = f in absurd (cc)
      at (Some i) f g = ap (λ own. Some (node own i.cycle i.made)) f ∙ ap (λ cycle. Some (node (d ∷ []) cycle i.made)) g

  pub top_round : (x top : ℕ) → IsTopOf slots x top → IsOuterOf (nodes_of slots) x top
  top_round x top h = record {
    live = live_from slots top ∙ h.kept;
    outermost = outer_to top h.outermost;
    round = λ d i. holds_to top d (holds_climbing slots made forest h.climbs.0 x top d h.climbs.1 (holds_from x d i));
  }

module _ (slots : List (Option Item)) (leaves : ℕ → Option ℕ) (made : ℕ) (kept : IsKept slots leaves made) where
  -- the leaf of a defect that a node holds is below the node
  pub leaf_climbs : (x d : ℕ) → is_in (defects_at (nodes_of slots) x) d ≡ true
      → (l : ℕ) × (is_in (own_at slots l) d ≡ true) × ((k : ℕ) × Climbs slots k l x)
  leaf_climbs x d h = leaf_below slots made kept.forest (suc (made_at slots x)) x d (holds_from slots made kept.forest x d h)

  -- the leaf that the index has for a defect is the one that has it
  pub same_leaf : (d l x : ℕ) → leaves d ≡ Some l → is_in (own_at slots x) d ≡ true → x ≡ l
  same_leaf d l x e h = kept.apart d x l h (ap (λ o. is_in o d) (kept.leaf_at d l e) ∙ one_in d)

  both : (x y d : ℕ) → is_in (defects_at (nodes_of slots) x) d ≡ true → is_in (defects_at (nodes_of slots) y) d ≡ true
      → (l : ℕ) × ((i : ℕ) × Climbs slots i l x) × ((j : ℕ) × Climbs slots j l y)
  both x y d g h =
      let a = leaf_climbs x d g in
      let b = leaf_climbs y d h in
      let same : a.0 ≡ b.0 = kept.apart d a.0 b.0 a.1 b.1 in
      let P : ℕ → Type 0 = λ l. (j : ℕ) × Climbs slots j l y in
      (a.0, a.2, subst P (sym same) b.2)

  pub nested : IsNested (nodes_of slots)
  nested = record {
    shaped = shaped_from slots made kept.forest;
    holding = λ x live none.
        let r = holds_some slots made kept.forest (suc (made_at slots x)) x (sym (live_from slots x) ∙ live) (omega arith) in
        both_ways false refl (ap (λ l. is_in l r.0) (sym none ∙ held_from slots x) ∙ r.1);
    once = λ p q x a b. same_some (parent_at slots x) p q (child_from slots made kept.forest p x a) (child_from slots made kept.forest q x b);
    leaves = λ x y d a b. kept.apart d x y (own_from slots made kept.forest x d a) (own_from slots made kept.forest y d b);
    children = λ p x y d a b g h.
        let r = both x y d g h in
        same_child slots made kept.forest r.1.0 r.2.0 r.0 x y p r.1.1 r.2.1 (child_from slots made kept.forest p x a) (child_from slots made kept.forest p y b);
    outer = λ x y d a b g h.
        let r = both x y d g h in
        same_top slots made kept.forest r.1.0 r.2.0 r.0 x y r.1.1 r.2.1 (outer_from slots made kept.forest x a) (outer_from slots made kept.forest y b);
  }

  -- a blossom is above the leaf of each defect that it holds, and the index has that leaf
  pub leaf_inside : (x d : ℕ) → is_in (defects_at (nodes_of slots) x) d ≡ true → (cycle_at (nodes_of slots) x ≡ [] → ⊥)
      → (l : ℕ) × (leaves d ≡ Some l) × ((k : ℕ) × Climbs slots (suc k) l x)
  leaf_inside x d h some =
      let r = leaf_climbs x d h in
      at r.0 r.1 r.2.0 r.2.1
    where
      at : (l : ℕ) → is_in (own_at slots l) d ≡ true → (k : ℕ) → Climbs slots k l x → (m : ℕ) × (leaves d ≡ Some m) × ((j : ℕ) × Climbs slots (suc j) m x)
      at l own zero c =
          absurd (some (cycle_from slots x ∙ (ap (steps_at slots) (sym c) ∙ leaf_cycle slots made kept.forest l d (own_alone slots made kept.forest l d own))))
      at l own (suc j) c = (l, kept.leaf_of d l c.0 own c.1, (j, c))

  pub strictly_below : (x d l : ℕ) → is_in (defects_at (nodes_of slots) x) d ≡ true → (cycle_at (nodes_of slots) x ≡ [] → ⊥)
      → leaves d ≡ Some l → (k : ℕ) × Climbs slots (suc k) l x
  strictly_below x d l h some e =
      let r = leaf_inside x d h some in
      let P : ℕ → Type 0 = λ y. (k : ℕ) × Climbs slots (suc k) y x in
      subst P (same_some (leaves d) r.0 l r.1 e) r.2

  -- the index has the leaf of each defect of a child
  pub leaf_under : (p x d : ℕ) → is_on (cycle_at (nodes_of slots) p) x ≡ true → is_in (defects_at (nodes_of slots) x) d ≡ true
      → (l : ℕ) × (leaves d ≡ Some l)
  leaf_under p x d on h =
      let r = leaf_climbs x d h in
      let up = climb_more slots r.2.0 r.0 x p r.2.1 (child_from slots made kept.forest p x on) in
      (r.0, kept.leaf_of d r.0 up.0 r.1 up.1)

  -- a node whose defect the index does not have is the leaf of that defect
  pub leaf_itself : (x d : ℕ) → is_in (defects_at (nodes_of slots) x) d ≡ true → leaves d ≡ None → node_at (nodes_of slots) x ≡ Some (leaf d)
  leaf_itself x d h e =
      let r = leaf_climbs x d h in
      at r.0 r.1 r.2.0 r.2.1
    where
      at : (l : ℕ) → is_in (own_at slots l) d ≡ true → (k : ℕ) → Climbs slots k l x → node_at (nodes_of slots) x ≡ Some (leaf d)
      at l own zero c = leaf_node slots made kept.forest x d (ap (own_at slots) (sym c) ∙ own_alone slots made kept.forest l d own)
      at l own (suc j) c = absurd (none_some (leaves d) l e (kept.leaf_of d l c.0 own c.1))

  pub child_round : (x d l child : ℕ) → leaves d ≡ Some l → IsChildOver slots x l child
      → IsChildHolding (nodes_of slots) x d child
  child_round x d l child e h = record {
    child_of = child_to slots made kept.forest x child h.child_of;
    holds = holds_to slots made kept.forest child d (holds_climbing slots made kept.forest h.climbs.0 l child d h.climbs.1 (own_held slots made kept.forest l d (kept.leaf_at d l e)));
  }

  pub climbs_from : (x d l : ℕ) → is_in (defects_at (nodes_of slots) x) d ≡ true → leaves d ≡ Some l → (k : ℕ) × Climbs slots k l x
  climbs_from x d l h e =
      let r = leaf_climbs x d h in
      let P : ℕ → Type 0 = λ y. (k : ℕ) × Climbs slots k y x in
      subst P (same_leaf d l r.0 e r.1) r.2

  -- the way down to a leaf
  pub way_down : (x l d : ℕ) (way : List ℕ) → own_at slots l ≡ d ∷ [] → LeadsDownTo slots x l way → LeadsDown (nodes_of slots) x d way
  way_down x l d [] own e = leaf_node slots made kept.forest x d (ap (own_at slots) e ∙ own)
  way_down x l d (y ∷ ys) own h = (child_to slots made kept.forest x y h.0, way_down y l d ys own h.1)

  pub way_found : {V E : Type 0} (names : V → List ℕ) (x l d : ℕ) → leaves d ≡ Some l → (r : Result V E)
      → IfOk r (λ v. LeadsDownTo slots x l (names v)) → IfOk r (λ v. LeadsDown (nodes_of slots) x d (names v))
  way_found names x l d e (Err f) h = tt
  way_found names x l d e (Ok v) h = way_down x l d (names v) (kept.leaf_at d l e) h

  -- a blossom has the node exactly if it is the node's parent
  pub on_parent : (x y : ℕ) (b : Bool) → (b ≡ true → parent_at slots y ≡ Some x) → (parent_at slots y ≡ Some x → b ≡ true)
      → b ≡ is_on (cycle_at (nodes_of slots) x) y
  on_parent x y b f g =
      elim (cases_Bool (is_on (cycle_at (nodes_of slots) x) y)) [
        | inl on ↦ g (child_from slots made kept.forest x y on) ∙ sym on
        | inr off ↦
            elim (cases_Bool b) [
              | inl e ↦ absurd (both_ways _ off (child_to slots made kept.forest x y (f e)))
              | inr e ↦ e ∙ sym off
            ]
      ]

  pub parent_is : (x : ℕ) → IsParent (nodes_of slots) x (parent_at slots x)
  parent_is x = at (parent_at slots x) refl
    where
      at : (o : Option ℕ) → parent_at slots x ≡ o → IsParent (nodes_of slots) x o
      at None e = outer_to slots made kept.forest x e
      at (Some p) e = child_to slots made kept.forest p x e

  pub place_from : (x k : ℕ) → k ≡ place_at slots x → (p : ℕ) → is_on (cycle_at (nodes_of slots) p) x ≡ true → IsPlaceOf (cycle_at (nodes_of slots) p) x k
  place_from x k e p on =
      let P : List CycleStep → Type 0 = λ c. IsPlaceOf c x k in
      let Q : ℕ → Type 0 = λ j. IsPlaceOf (steps_at slots p) x j in
      subst P (sym (cycle_from slots p)) (subst Q (sym e) (kept.forest.placed x p (child_from slots made kept.forest p x on)))
