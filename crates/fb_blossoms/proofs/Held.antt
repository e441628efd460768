-- The defects that nodes hold.
use Rattle.std.proofs.Common.{◌≡◌, inl, inr, ℕ, zero, suc, ◌<◌, ◌≤◌, ◌==◌, true, false, List, [], ◌∷◌, ◌++◌, length, map, get_or, Option, Some, None, is_some, option_map, refl, sym, ◌∙◌, ap, arith}
use Rattle.std.specs.List.{flat_map}
use Rattle.std.proofs.lemmas.Bool.{both_ways, eq-eqb, eqb-true, or_cases, or_left, or_right}
use Rattle.std.proofs.lemmas.List.Folds.{list_any-append}
use Rattle.fb_links.specs.Lists.{is_in}
use Rattle.fb_links.specs.declared.cycle.CycleStep.{CycleStep}
use Rattle.fb_blossoms.specs.InternalItems.{Item}
use Rattle.fb_blossoms.specs.Nodes.{Node, cycle_at, cycle_of, defects_at, defects_of, is_live, is_on, node_at}
use Rattle.fb_blossoms.specs.InternalForest.{Climbs, IsForest, cycle_in, defects_in, held_at, is_kept, item_at, made_at, made_in, node_of, nodes_of, own_at, own_in, parent_at, steps_at}
use Rattle.fb_blossoms.proofs.Climbs.{climb_more, kept_child}

-- functions that agree at the nodes of a cycle give the same lists along it
pub along_same : (f g : CycleStep → List ℕ) (ss : List CycleStep) → ((s : CycleStep) → is_on ss s.node ≡ true → f s ≡ g s)
    → flat_map f ss ≡ flat_map g ss
along_same f g [] h = refl
along_same f g (s ∷ ss) h =
    let here : f s ≡ g s = h s (or_left (s.node == s.node) (is_on ss s.node) (eq-eqb s.node s.node refl)) in
    let rest : flat_map f ss ≡ flat_map g ss = along_same f g ss (λ t on. h t (or_right (s.node == t.node) (is_on ss t.node) on)) in
    cc

-- what is in the lists along a cycle is in one of them
pub from_along : (f : CycleStep → List ℕ) (ss : List CycleStep) (d : ℕ) → is_in (flat_map f ss) d ≡ true
    → (s : CycleStep) × (is_on ss s.node ≡ true) × (is_in (f s) d ≡ true)
from_along f [] d h = absurd (both_ways false refl h)
from_along f (s ∷ ss) d h =
    elim (or_cases (is_in (f s) d) (is_in (flat_map f ss) d) (sym (list_any-append (λ u. u == d) (f s) (flat_map f ss)) ∙ h)) [
      | inl here ↦ (s, or_left (s.node == s.node) (is_on ss s.node) (eq-eqb s.node s.node refl), here)
      | inr there ↦
          let r : (t : CycleStep) × (is_on ss t.node ≡ true) × (is_in (f t) d ≡ true) = from_along f ss d there in
          (r.0, or_right (s.node == r.0.node) (is_on ss r.0.node) r.1, r.2)
    ]

pub to_along : (f : ℕ → List ℕ) (ss : List CycleStep) (x d : ℕ) → is_on ss x ≡ true → is_in (f x) d ≡ true
    → is_in (flat_map (λ s. f s.node) ss) d ≡ true
to_along f [] x d on h = absurd (both_ways false refl on)
to_along f (s ∷ ss) x d on h =
    list_any-append (λ u. u == d) (f s.node) (flat_map (λ s. f s.node) ss)
    ∙ elim (or_cases (s.node == x) (is_on ss x) on) [
      | inl here ↦ or_left (is_in (f s.node) d) (is_in (flat_map (λ s. f s.node) ss) d) (ap (λ y. is_in (f y) d) (eqb-true s.node x here) ∙ h)
      | inr there ↦ or_right (is_in (f s.node) d) (is_in (flat_map (λ s. f s.node) ss) d) (to_along f ss x d there h)
    ]

first_on : (ss : List CycleStep) → 3 ≤ length ss → (s : CycleStep) × (is_on ss s.node ≡ true)
first_on [] some = absurd (omega arith)
first_on (s ∷ ss) some = (s, or_left (s.node == s.node) (is_on ss s.node) (eq-eqb s.node s.node refl))

-- where the items of some numbers, closed under children, agree, so do the defects
pub same_levels : (old new : List (Option Item)) (P : ℕ → Type 0) → ((x : ℕ) → P x → own_at new x ≡ own_at old x)
    → ((x : ℕ) → P x → steps_at new x ≡ steps_at old x) → ((x y : ℕ) → P x → is_on (steps_at old x) y ≡ true → P y)
    → (k x : ℕ) → P x → defects_in new k x ≡ defects_in old k x
same_levels old new P own steps closed zero x p = refl
same_levels old new P own steps closed (suc k) x p =
    let first : own_at new x ≡ own_at old x = own x p in
    let cycle : steps_at new x ≡ steps_at old x = steps x p in
    let rest : flat_map (λ s. defects_in new k s.node) (steps_at old x) ≡ flat_map (λ s. defects_in old k s.node) (steps_at old x) =
    along_same (λ s. defects_in new k s.node) (λ s. defects_in old k s.node) (steps_at old x)
    (λ s on. same_levels old new P own steps closed k s.node (closed x s.node p on)) in
    rw (first, cycle, rest)

mapped : {X Y : Type 0} (g : X → Y) (xs : List (Option X)) (k : ℕ) → get_or (map (option_map g) xs) k None ≡ option_map g (get_or xs k None)
mapped g [] k = refl
mapped g (x ∷ xs) zero = refl
mapped g (x ∷ xs) (suc k) = mapped g xs k

pub node_from : (slots : List (Option Item)) (x : ℕ) → node_at (nodes_of slots) x ≡ option_map (node_of slots) (item_at slots x)
node_from slots x = mapped (node_of slots) slots x

pub cycle_from : (slots : List (Option Item)) (x : ℕ) → cycle_at (nodes_of slots) x ≡ steps_at slots x
cycle_from slots x = ap cycle_of (node_from slots x) ∙ at (item_at slots x)
  where
    at : (o : Option Item) → cycle_of (option_map (node_of slots) o) ≡ cycle_in o
    at None = refl
    at (Some i) = refl

pub live_from : (slots : List (Option Item)) (x : ℕ) → is_live (nodes_of slots) x ≡ is_kept slots x
live_from slots x = ap (λ (o : Option Node). is_some o) (node_from slots x) ∙ at (item_at slots x)
  where
    at : (o : Option Item) → is_some (option_map (node_of slots) o) ≡ is_some o
    at None = refl
    at (Some i) = refl

pub held_from : (slots : List (Option Item)) (x : ℕ) → defects_at (nodes_of slots) x ≡ held_at slots x
held_from slots x = ap defects_of (node_from slots x) ∙ at (item_at slots x)
  where
    at : (o : Option Item) → defects_of (option_map (node_of slots) o) ≡ own_in o ++ flat_map (λ s. defects_in slots (made_in o) s.node) (cycle_in o)
    at None = refl
    at (Some i) = refl

module _ (slots : List (Option Item)) (made : ℕ) (forest : IsForest slots made) where
  older_on : (x y : ℕ) → is_on (steps_at slots x) y ≡ true → made_at slots y < made_at slots x
  older_on x y on = forest.older y x (forest.down y x on)

  -- more levels than a node has give no more defects
  pub levels_agree : (a b x : ℕ) → made_at slots x < a → made_at slots x < b → defects_in slots a x ≡ defects_in slots b x
  levels_agree zero b x p q = absurd (omega arith)
  levels_agree (suc a) zero x p q = absurd (omega arith)
  levels_agree (suc a) (suc b) x p q =
      ap (λ l. own_at slots x ++ l)
      (along_same (λ s. defects_in slots a s.node) (λ s. defects_in slots b s.node) (steps_at slots x)
      (λ s on. levels_agree a b s.node (omega (arith, older_on x s.node on)) (omega (arith, older_on x s.node on))))

  -- a node holds what it is itself and what its children hold
  pub held_along : (x : ℕ) → held_at slots x ≡ own_at slots x ++ flat_map (λ s. held_at slots s.node) (steps_at slots x)
  held_along x =
      ap (λ l. own_at slots x ++ l)
      (along_same (λ s. defects_in slots (made_at slots x) s.node) (λ s. held_at slots s.node) (steps_at slots x)
      (λ s on. levels_agree (made_at slots x) (suc (made_at slots s.node)) s.node (older_on x s.node on) (omega arith)))

  pub holds_up : (x p d : ℕ) → parent_at slots x ≡ Some p → is_in (held_at slots x) d ≡ true → is_in (held_at slots p) d ≡ true
  holds_up x p d e h =
      ap (λ l. is_in l d) (held_along p)
      ∙ (list_any-append (λ u. u == d) (own_at slots p) (flat_map (λ s. held_at slots s.node) (steps_at slots p))
      ∙ or_right (is_in (own_at slots p) d) _ (to_along (held_at slots) (steps_at slots p) x d (forest.up x p e) h))

  pub holds_climbing : (k x top d : ℕ) → Climbs slots k x top → is_in (held_at slots x) d ≡ true → is_in (held_at slots top) d ≡ true
  holds_climbing zero x top d c h = ap (λ y. is_in (held_at slots y) d) (sym c) ∙ h
  holds_climbing (suc k) x top d c h = holds_climbing k c.0 top d c.2 (holds_up x c.0 d c.1 h)

  -- a node holds a defect
  pub holds_some : (k x : ℕ) → is_kept slots x ≡ true → made_at slots x < k → (d : ℕ) × (is_in (defects_in slots k x) d ≡ true)
  holds_some zero x kept young = absurd (omega arith)
  holds_some (suc k) x kept young =
      elim (forest.shaped x kept) [
        | inl l ↦
            (l.defect, ap (λ o. is_in (o ++ flat_map (λ s. defects_in slots k s.node) (steps_at slots x)) l.defect) l.alone ∙ or_left (l.defect == l.defect) _ (eq-eqb l.defect l.defect refl))
        | inr b ↦
            let s : (s : CycleStep) × (is_on (steps_at slots x) s.node ≡ true) = first_on (steps_at slots x) b.three in
            let r : (d : ℕ) × (is_in (defects_in slots k s.0.node) d ≡ true) =
            holds_some k s.0.node (kept_child slots s.0.node x (forest.down s.0.node x s.1)) (omega (arith, older_on x s.0.node s.1)) in (
              r.0,
              list_any-append (λ u. u == r.0) (own_at slots x) (flat_map (λ s. defects_in slots k s.node) (steps_at slots x))
                  ∙ or_right (is_in (own_at slots x) r.0) _ (to_along (defects_in slots k) (steps_at slots x) s.0.node r.0 s.1 r.1),
            )
      ]

  -- a defect that a node holds is a leaf below it
  pub leaf_below : (k n d : ℕ) → is_in (defects_in slots k n) d ≡ true → (x : ℕ) × (is_in (own_at slots x) d ≡ true) × ((j : ℕ) × Climbs slots j x n)
  leaf_below zero n d h = absurd (both_ways false refl h)
  leaf_below (suc k) n d h =
      elim (or_cases (is_in (own_at slots n) d) (is_in (flat_map (λ s. defects_in slots k s.node) (steps_at slots n)) d)
      (sym (list_any-append (λ u. u == d) (own_at slots n) (flat_map (λ s. defects_in slots k s.node) (steps_at slots n))) ∙ h)) [
        | inl own ↦ (n, own, (zero, refl))
        | inr along ↦
            let s : (s : CycleStep) × (is_on (steps_at slots n) s.node ≡ true) × (is_in (defects_in slots k s.node) d ≡ true) =
            from_along (λ s. defects_in slots k s.node) (steps_at slots n) d along in
            let r : (x : ℕ) × (is_in (own_at slots x) d ≡ true) × ((j : ℕ) × Climbs slots j x s.0.node) = leaf_below k s.0.node d s.2 in
            (r.0, r.1, (suc r.2.0, climb_more slots r.2.0 r.0 s.0.node n r.2.1 (forest.down s.0.node n s.1)))
      ]
