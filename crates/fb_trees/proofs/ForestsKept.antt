-- What a forest keeps, where one of its trees changes or one is added.
use Rattle.std.proofs.Common.{ℕ, ◌≡◌, ◌<◌, ◌≤◌, ◌==◌, ◌||◌, ◌⊎◌, inl, inr, cond, Bool, true, false, List, [], ◌∷◌, ◌++◌, length, set, Option, Some, None, refl, sym, ap, ◌∙◌, subst, if◌then◌else◌, arith}
use Rattle.std.proofs.lemmas.Bool.{both_ways, cases_Bool, cases_eq, cases_lt, eqb-true, ne_eqb, false≢true}
use Rattle.std.proofs.lemmas.List.{get_or-set_other, get_or-set_same, get_or_append_left, get_or_past, get_or_push, length-append}
use Rattle.std.proofs.lemmas.Option.{none-some, same_Some}
use Rattle.fb_regions.specs.InternalPlaces.{place_in}
use Rattle.fb_trees.specs.Branches.{Grown}
use Rattle.fb_trees.specs.Forests.{AreRootedApart, IsOutside, IsTreeOf, tree_at}
use Rattle.fb_trees.specs.InternalForests.{IsKeptForest, holds}
use Rattle.fb_trees.specs.InternalPlaces.{place_of}
use Rattle.fb_trees.specs.Rooted.{IsRooted, bare, is_node}

-- a tree that is there has a number below their count
pub there_below : (f : List (Option Grown)) (t : ℕ) (g : Grown) → tree_at f t ≡ Some g → t < length f
there_below f t g at = by (cases_lt t (length f))
  where
    by : (t < length f) ⊎ (length f ≤ t) → t < length f
    by (inl below) = below
    by (inr past) = absurd (none-some g (sym (get_or_past f t None past) ∙ at))

-- no node is in two trees
pub kept_apart : (f : List (Option Grown)) (owners places : List (Option ℕ)) → IsKeptForest f owners places → AreRootedApart f
kept_apart f owners places kept = record {
  rooted = kept.rooted;
  apart = λ s t node g h one other. same_Some s t (sym (kept.owned s node g one) ∙ kept.owned t node h other);
}

-- how the tables change where the tree of a number becomes another one, or none
pub record IsChange (f : List (Option Grown)) (owners places after_owners after_places : List (Option ℕ)) (t : ℕ) (old : Grown) (new : Option Grown) : Type 0 where
  pub at : tree_at f t ≡ Some old
  pub rooted : (g : Grown) → new ≡ Some g → IsRooted g.root g.branches
  pub fresh : (name : ℕ) → holds new name ≡ true → (is_node old name ≡ true) ⊎ IsOutside f name
  pub owned : (name : ℕ) → holds new name ≡ true → place_in after_owners name ≡ Some t
  pub left : (name : ℕ) → holds new name ≡ false → is_node old name ≡ true → place_in after_owners name ≡ None
  pub others : (name : ℕ) → holds new name ≡ false → is_node old name ≡ false → place_in after_owners name ≡ place_in owners name
  pub placed : (name : ℕ) (g : Grown) → new ≡ Some g → is_node g name ≡ true → place_in after_places name ≡ place_of g.branches name
  pub emptied : (name : ℕ) → holds new name ≡ false → is_node old name ≡ true → place_in after_places name ≡ None
  pub beside : (name : ℕ) → holds new name ≡ false → is_node old name ≡ false → place_in after_places name ≡ place_in places name

module _ (f : List (Option Grown)) (owners places after_owners after_places : List (Option ℕ)) (t : ℕ) (old : Grown) (new : Option Grown)
    (kept : IsKeptForest f owners places) (change : IsChange f owners places after_owners after_places t old new) where
  at_same : tree_at (set f t new) t ≡ new
  at_same = get_or-set_same f t new None (there_below f t old change.at)

  at_other : (s : ℕ) → (s ≡ t → ⊥) → tree_at (set f t new) s ≡ tree_at f s
  at_other s differs = get_or-set_other f t s new None differs

  -- a node of another tree is neither in the tree before nor in the tree after
  neither : (s name : ℕ) (g : Grown) → (s ≡ t → ⊥) → IsTreeOf f name s g → (holds new name ≡ false) × (is_node old name ≡ false)
  neither s name g differs is = (by (cases_Bool (holds new name)), not_old (cases_Bool (is_node old name)))
    where
      in_old : is_node old name ≡ true → ⊥
      in_old has =
          differs (same_Some s t (sym (kept.owned s name g is) ∙ kept.owned t name old (record { at = change.at; has = has })))

      not_old : (is_node old name ≡ true) ⊎ (is_node old name ≡ false) → is_node old name ≡ false
      not_old (inl has) = absurd (in_old has)
      not_old (inr out) = out

      fresh : (is_node old name ≡ true) ⊎ IsOutside f name → ⊥
      fresh (inl has) = in_old has
      fresh (inr outside) = both_ways (is_node g name) (outside s g is.at) is.has

      by : (holds new name ≡ true) ⊎ (holds new name ≡ false) → holds new name ≡ false
      by (inl has) = absurd (fresh (change.fresh name has))
      by (inr out) = out

  -- what the changed list has at a number
  was : (s name : ℕ) (g : Grown) → IsTreeOf (set f t new) name s g → (s ≡ t) × (new ≡ Some g) ⊎ (s ≡ t → ⊥) × IsTreeOf f name s g
  was s name g is = by (cases_eq s t)
    where
      by : (s ≡ t) ⊎ (s ≡ t → ⊥) → (s ≡ t) × (new ≡ Some g) ⊎ (s ≡ t → ⊥) × IsTreeOf f name s g
      by (inl same) = inl (same, sym at_same ∙ (ap (tree_at (set f t new)) (sym same) ∙ is.at))
      by (inr differs) = inr (differs, record { at = sym (at_other s differs) ∙ is.at; has = is.has })

  pub kept_changed : IsKeptForest (set f t new) after_owners after_places
  kept_changed = record {
    rooted = λ s g at. rooted s g at (cases_eq s t);
    owned = λ s name g is. owned s name g is (was s name g is);
    owner = λ s name is. owner s name is (cases_Bool (holds new name)) (cases_Bool (is_node old name));
    placed = λ s name g is. placed s name g is (was s name g is);
    free = λ name is. free name is (cases_Bool (holds new name)) (cases_Bool (is_node old name));
  }
    where
      rooted : (s : ℕ) (g : Grown) → tree_at (set f t new) s ≡ Some g → (s ≡ t) ⊎ (s ≡ t → ⊥) → IsRooted g.root g.branches
      rooted s g at (inl same) = change.rooted g (sym at_same ∙ (ap (tree_at (set f t new)) (sym same) ∙ at))
      rooted s g at (inr differs) = kept.rooted s g (sym (at_other s differs) ∙ at)

      owned : (s name : ℕ) (g : Grown) → IsTreeOf (set f t new) name s g
          → (s ≡ t) × (new ≡ Some g) ⊎ (s ≡ t → ⊥) × IsTreeOf f name s g → place_in after_owners name ≡ Some s
      owned s name g is (inl (same, here)) =
          change.owned name (ap (λ o. holds o name) here ∙ is.has) ∙ ap Some (sym same)
      owned s name g is (inr (differs, there)) =
          let (out, gone) = neither s name g differs there in
          change.others name out gone ∙ kept.owned s name g there

      owner : (s name : ℕ) → place_in after_owners name ≡ Some s → (holds new name ≡ true) ⊎ (holds new name ≡ false)
          → (is_node old name ≡ true) ⊎ (is_node old name ≡ false) → (g : Grown) × IsTreeOf (set f t new) name s g
      owner s name is (inl has) old_has = here new refl has
        where
          same : t ≡ s
          same = same_Some t s (sym (change.owned name has) ∙ is)

          here : (o : Option Grown) → new ≡ o → holds o name ≡ true → (g : Grown) × IsTreeOf (set f t new) name s g
          here None e h = absurd (false≢true h)
          here (Some g) e h = (g, record { at = ap (tree_at (set f t new)) (sym same) ∙ (at_same ∙ e); has = h })
      owner s name is (inr out) (inl has) = absurd (none-some s (sym (change.left name out has) ∙ is))
      owner s name is (inr out) (inr gone) =
          let (g, there) = kept.owner s name (sym (change.others name out gone) ∙ is) in (
            g,
            record {
              at = at_other s
                  (λ same.
                  let old_is : g ≡ old = same_Some g old (sym there.at ∙ (ap (tree_at f) same ∙ change.at)) in
                  both_ways (is_node old name) gone (ap (λ h. is_node h name) (sym old_is) ∙ there.has))
                  ∙ there.at;
              has = there.has;
            },
          )

      placed : (s name : ℕ) (g : Grown) → IsTreeOf (set f t new) name s g
          → (s ≡ t) × (new ≡ Some g) ⊎ (s ≡ t → ⊥) × IsTreeOf f name s g → place_in after_places name ≡ place_of g.branches name
      placed s name g is (inl (same, here)) = change.placed name g here is.has
      placed s name g is (inr (differs, there)) =
          let (out, gone) = neither s name g differs there in
          change.beside name out gone ∙ kept.placed s name g there

      free : (name : ℕ) → place_in after_owners name ≡ None → (holds new name ≡ true) ⊎ (holds new name ≡ false)
          → (is_node old name ≡ true) ⊎ (is_node old name ≡ false) → place_in after_places name ≡ None
      free name is (inl has) old_has = absurd (none-some t (sym is ∙ change.owned name has))
      free name is (inr out) (inl has) = change.emptied name out has
      free name is (inr out) (inr gone) = change.beside name out gone ∙ kept.free name (sym (change.others name out gone) ∙ is)

-- one more tree, the root alone
pub kept_added : (f : List (Option Grown)) (owners places after_owners : List (Option ℕ)) (root : ℕ) → IsKeptForest f owners places
    → IsOutside f root
    → ((name : ℕ) → place_in after_owners name ≡ (if root == name then Some (length f) else place_in owners name))
    → IsKeptForest (f ++ Some (bare root) ∷ []) after_owners places
kept_added f owners places after_owners root kept outside is = record {
  rooted = λ s g at. rooted s g (at_cases s g at);
  owned = λ s name g tree. owned s name g tree (at_cases s g tree.at);
  owner = λ s name here. owner s name (cases_Bool (root == name)) (sym (is name) ∙ here);
  placed = λ s name g tree. placed s name g tree (at_cases s g tree.at);
  free = λ name none. free name (cases_Bool (root == name)) (sym (is name) ∙ none);
}
  where
    at_cases : (s : ℕ) (g : Grown) → tree_at (f ++ Some (bare root) ∷ []) s ≡ Some g
        → (s ≡ length f) × (g ≡ bare root) ⊎ (tree_at f s ≡ Some g)
    at_cases s g at = by (cases_eq s (length f)) (cases_lt s (length f))
      where
        by : (s ≡ length f) ⊎ (s ≡ length f → ⊥) → (s < length f) ⊎ (length f ≤ s) → (s ≡ length f) × (g ≡ bare root) ⊎ (tree_at f s ≡ Some g)
        by (inl same) below =
            inl (same, sym (same_Some (bare root) g (sym (get_or_push f (Some (bare root)) None s (sym same)) ∙ at)))
        by (inr differs) (inl below) = inr (sym (get_or_append_left f (Some (bare root) ∷ []) None s below) ∙ at)
        by (inr differs) (inr past) =
            absurd
            (none-some g
            (sym (get_or_past (f ++ Some (bare root) ∷ []) s None
            (let long = length-append f (Some (bare root) ∷ []) in let other : s ≡ length f → ⊥ = differs in omega arith))
            ∙ at))

    at_old : (s : ℕ) (g : Grown) → tree_at f s ≡ Some g → tree_at (f ++ Some (bare root) ∷ []) s ≡ Some g
    at_old s g at = get_or_append_left f (Some (bare root) ∷ []) None s (there_below f s g at) ∙ at

    at_new : tree_at (f ++ Some (bare root) ∷ []) (length f) ≡ Some (bare root)
    at_new = get_or_push f (Some (bare root)) None (length f) refl

    not_root : (s name : ℕ) (g : Grown) → tree_at f s ≡ Some g → is_node g name ≡ true → (root == name) ≡ false
    not_root s name g at has =
        ne_eqb root name
        (λ same. both_ways (is_node g root) (outside s g at) (ap (is_node g) same ∙ has))

    is_root : (name : ℕ) → is_node (bare root) name ≡ true → (root == name) ≡ true
    is_root name has = by (root == name) has
      where
        by : (b : Bool) → (b || false) ≡ true → b ≡ true
        by true h = refl
        by false h = h

    root_is : (name : ℕ) → (root == name) ≡ true → is_node (bare root) name ≡ true
    root_is name same = ap (λ b. b || false) same

    rooted : (s : ℕ) (g : Grown) → (s ≡ length f) × (g ≡ bare root) ⊎ (tree_at f s ≡ Some g) → IsRooted g.root g.branches
    rooted s g (inl (last, here)) = subst (λ h. IsRooted h.root h.branches) (sym here) (record { names = (refl, tt); hung = tt })
    rooted s g (inr old) = kept.rooted s g old

    owned : (s name : ℕ) (g : Grown) → IsTreeOf (f ++ Some (bare root) ∷ []) name s g
        → (s ≡ length f) × (g ≡ bare root) ⊎ (tree_at f s ≡ Some g) → place_in after_owners name ≡ Some s
    owned s name g tree (inl (last, here)) =
        is name
        ∙ (ap (λ b. cond b (Some (length f)) (place_in owners name)) (is_root name (ap (λ h. is_node h name) (sym here) ∙ tree.has))
        ∙ ap Some (sym last))
    owned s name g tree (inr old) =
        is name
        ∙ (ap (λ b. cond b (Some (length f)) (place_in owners name)) (not_root s name g old tree.has)
        ∙ kept.owned s name g (record { at = old; has = tree.has }))

    owner : (s name : ℕ) → ((root == name) ≡ true) ⊎ ((root == name) ≡ false)
        → cond (root == name) (Some (length f)) (place_in owners name) ≡ Some s → (g : Grown) × IsTreeOf (f ++ Some (bare root) ∷ []) name s g
    owner s name (inl same) here =
        let last : length f ≡ s =
        same_Some (length f) s (sym (ap (λ b. cond b (Some (length f)) (place_in owners name)) same) ∙ here) in
        (bare root, record { at = ap (tree_at (f ++ Some (bare root) ∷ [])) (sym last) ∙ at_new; has = root_is name same })
    owner s name (inr other) here =
        let (g, tree) = kept.owner s name (sym (ap (λ b. cond b (Some (length f)) (place_in owners name)) other) ∙ here) in
        (g, record { at = at_old s g tree.at; has = tree.has })

    placed : (s name : ℕ) (g : Grown) → IsTreeOf (f ++ Some (bare root) ∷ []) name s g
        → (s ≡ length f) × (g ≡ bare root) ⊎ (tree_at f s ≡ Some g) → place_in places name ≡ place_of g.branches name
    placed s name g tree (inl (last, here)) =
        kept.free name (unowned (place_in owners name) refl) ∙ ap (λ h. place_of h.branches name) (sym here)
      where
        same : root ≡ name
        same = eqb-true root name (is_root name (ap (λ h. is_node h name) (sym here) ∙ tree.has))

        unowned : (o : Option ℕ) → place_in owners name ≡ o → place_in owners name ≡ None
        unowned None e = e
        unowned (Some s) e =
            let (h, was) = kept.owner s name e in
            absurd (both_ways (is_node h name) (ap (is_node h) (sym same) ∙ outside s h was.at) was.has)
    placed s name g tree (inr old) = kept.placed s name g (record { at = old; has = tree.has })

    free : (name : ℕ) → ((root == name) ≡ true) ⊎ ((root == name) ≡ false)
        → cond (root == name) (Some (length f)) (place_in owners name) ≡ None → place_in places name ≡ None
    free name (inl same) none =
        absurd (none-some (length f) (sym none ∙ ap (λ b. cond b (Some (length f)) (place_in owners name)) same))
    free name (inr other) none =
        kept.free name (sym (ap (λ b. cond b (Some (length f)) (place_in owners name)) other) ∙ none)

-- tables that have the same entries
pub kept_same : (f : List (Option Grown)) (owners places after_owners after_places : List (Option ℕ)) → IsKeptForest f owners places
    → ((name : ℕ) → place_in after_owners name ≡ place_in owners name)
    → ((name : ℕ) → place_in after_places name ≡ place_in places name) → IsKeptForest f after_owners after_places
kept_same f owners places after_owners after_places kept one other = record {
  rooted = kept.rooted;
  owned = λ t name g is. one name ∙ kept.owned t name g is;
  owner = λ t name is. kept.owner t name (sym (one name) ∙ is);
  placed = λ t name g is. other name ∙ kept.placed t name g is;
  free = λ name is. other name ∙ kept.free name (sym (one name) ∙ is);
}

-- the tree of a node, by its number
pub tree_is : (f : List (Option Grown)) → AreRootedApart f → (node s t : ℕ) (g h v : Grown) → IsTreeOf f node s h → tree_at f s ≡ Some v
    → IsTreeOf f node t g → v ≡ g
tree_is f kept node s t g h v one at other =
    same_Some v g (sym at ∙ (ap (tree_at f) (kept.apart s t node h g one other) ∙ other.at))

pub node_of : (f : List (Option Grown)) (node t : ℕ) (g v : Grown) → IsTreeOf f node t g → tree_at f t ≡ Some v → IsTreeOf f node t v
node_of f node t g v is at = record { at = at; has = ap (λ h. is_node h node) (same_Some v g (sym at ∙ is.at)) ∙ is.has }
