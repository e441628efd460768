-- The tables of a forest where a tree is dissolved, gets a branch, or is built anew.
use Rattle.std.proofs.Common.{ℕ, ◌≡◌, ◌==◌, ◌||◌, ◌⊎◌, inl, inr, cond, Bool, true, false, List, [], ◌∷◌, length, Option, Some, None, refl, sym, ap, ◌∙◌, subst, if◌then◌else◌}
use Rattle.std.proofs.lemmas.Bool.{both_ways, cases_Bool, eqb-true, false≢true, or_parts}
use Rattle.std.proofs.lemmas.Option.{none-some, same_Some}
use Rattle.fb_graph.specs.Parity.{is_in}
use Rattle.fb_regions.specs.InternalPlaces.{place_in}
use Rattle.fb_laws.specs.Trees.{EntryOf, tree_names}
use Rattle.fb_trees.specs.Branches.{Grown}
use Rattle.fb_trees.specs.Forests.{IsOutside, IsTreeOf, tree_at}
use Rattle.fb_trees.specs.InternalForests.{IsKeptForest}
use Rattle.fb_trees.specs.InternalPlaces.{has_branch, place_of, place_or}
use Rattle.fb_trees.specs.Rooted.{IsRooted, attached_grown, is_node}
use Rattle.fb_trees.proofs.ForestsKept.{IsChange}
use Rattle.fb_trees.proofs.Marking.{place_without}

-- a node of a tree is one of a branch, or the root
pub node_or_root : (root : ℕ) (es : List (EntryOf ℕ)) (name : ℕ) → is_in (tree_names root es) name ≡ (has_branch es name || (root == name))
node_or_root root [] name = by (root == name)
  where
    by : (b : Bool) → (b || false) ≡ b
    by true = refl
    by false = refl
node_or_root root (e ∷ es) name =
    ap (λ b. (e.minus == name) || ((e.plus == name) || b)) (node_or_root root es name)
    ∙ by (e.minus == name) (e.plus == name)
  where
    by : (m q : Bool)
        → (m || (q || (has_branch es name || (root == name)))) ≡ (((m || q) || has_branch es name) || (root == name))
    by true q = refl
    by false true = refl
    by false false = refl

-- the place of a node that has a branch
pub place_within : (es : List (EntryOf ℕ)) (name : ℕ) (other : Option ℕ) → has_branch es name ≡ true
    → place_or (place_of es name) other ≡ place_of es name
place_within [] name other has = absurd (false≢true has)
place_within (e ∷ es) name other has = by ((e.minus == name) || (e.plus == name)) has (place_within es name other)
  where
    by : (b : Bool) → (b || has_branch es name) ≡ true
        → (has_branch es name ≡ true → place_or (place_of es name) other ≡ place_of es name)
        → place_or (cond b (Some (length es)) (place_of es name)) other ≡ cond b (Some (length es)) (place_of es name)
    by true h rest = refl
    by false h rest = rest h

-- a root has no place, and neither does a name that is in no tree
module _ (f : List (Option Grown)) (owners places : List (Option ℕ)) (kept : IsKeptForest f owners places) where
  no_place : (t name : ℕ) (g : Grown) → IsTreeOf f name t g → has_branch g.branches name ≡ false → place_in places name ≡ None
  no_place t name g is none = kept.placed t name g is ∙ place_without g.branches name none

  unplaced : (name : ℕ) → IsOutside f name → place_in places name ≡ None
  unplaced name outside = kept.free name (unowned (place_in owners name) refl)
    where
      unowned : (o : Option ℕ) → place_in owners name ≡ o → place_in owners name ≡ None
      unowned None e = e
      unowned (Some t) e =
          let (g, is) = kept.owner t name e in absurd (both_ways (is_node g name) (outside t g is.at) is.has)

  -- what is left in the tables once a tree's entries are taken out
  pub record IsTakenOut (old : Grown) (left_owners left_places : List (Option ℕ)) : Type 0 where
    pub owners_are : (name : ℕ) → place_in left_owners name
        ≡ (if has_branch old.branches name then None else (if old.root == name then None else place_in owners name))
    pub places_are : (name : ℕ) → place_in left_places name ≡ (if has_branch old.branches name then None else place_in places name)

  module _ (t : ℕ) (old : Grown) (at : tree_at f t ≡ Some old) (left_owners left_places : List (Option ℕ))
      (taken : IsTakenOut old left_owners left_places) where
    owner_gone : (name : ℕ) → is_node old name ≡ true → place_in left_owners name ≡ None
    owner_gone name has =
        taken.owners_are name
        ∙ by (has_branch old.branches name) (old.root == name) (sym (node_or_root old.root old.branches name) ∙ has)
      where
        by : (b r : Bool) → (b || r) ≡ true → cond b None (cond r None (place_in owners name)) ≡ None
        by true r h = refl
        by false true h = refl
        by false false h = absurd (false≢true h)

    owner_stays : (name : ℕ) → is_node old name ≡ false → place_in left_owners name ≡ place_in owners name
    owner_stays name out =
        taken.owners_are name
        ∙ by (has_branch old.branches name) (old.root == name) (sym (node_or_root old.root old.branches name) ∙ out)
      where
        by : (b r : Bool) → (b || r) ≡ false → cond b None (cond r None (place_in owners name)) ≡ place_in owners name
        by true r h = absurd (false≢true (sym h))
        by false true h = absurd (false≢true (sym h))
        by false false h = refl

    place_gone : (name : ℕ) → is_node old name ≡ true → place_in left_places name ≡ None
    place_gone name has = taken.places_are name ∙ by (cases_Bool (has_branch old.branches name))
      where
        by : (has_branch old.branches name ≡ true) ⊎ (has_branch old.branches name ≡ false)
            → cond (has_branch old.branches name) None (place_in places name) ≡ None
        by (inl h) = ap (λ b. cond b None (place_in places name)) h
        by (inr h) =
            ap (λ b. cond b None (place_in places name)) h ∙ no_place t name old (record { at = at; has = has }) h

    place_stays : (name : ℕ) → is_node old name ≡ false → place_in left_places name ≡ place_in places name
    place_stays name out =
        taken.places_are name
        ∙ ap (λ b. cond b None (place_in places name))
        (or_parts (has_branch old.branches name) (old.root == name) (sym (node_or_root old.root old.branches name) ∙ out)).0

    pub dissolved_change : IsChange f owners places left_owners left_places t old None
    dissolved_change = record {
      at = at;
      rooted = λ g is. absurd (none-some g is);
      fresh = λ name has. absurd (false≢true has);
      owned = λ name has. absurd (false≢true has);
      left = λ name out has. owner_gone name has;
      others = λ name out gone. owner_stays name gone;
      placed = λ name g is has. absurd (none-some g is);
      emptied = λ name out has. place_gone name has;
      beside = λ name out gone. place_stays name gone;
    }

    pub rebuilt_change : (root : ℕ) (es : List (EntryOf ℕ)) → IsRooted root es
        → ((name : ℕ) → is_in (tree_names root es) name ≡ true → (is_node old name ≡ true) ⊎ IsOutside f name)
        → (after_owners after_places : List (Option ℕ))
        → ((name : ℕ) → place_in after_owners name
        ≡ (if root == name then Some t else (if has_branch es name then Some t else place_in left_owners name)))
        → ((name : ℕ) → place_in after_places name ≡ place_or (place_of es name) (place_in left_places name))
        → IsChange f owners places after_owners after_places t old (Some (record { root = root; branches = es }))
    rebuilt_change root es rooted fresh after_owners after_places owners_are places_are = record {
      at = at;
      rooted = λ g is. subst (λ h. IsRooted h.root h.branches) (same_Some new g is) rooted;
      fresh = fresh;
      owned = owned;
      left = λ name out has. unowned name out ∙ owner_gone name has;
      others = λ name out gone. unowned name out ∙ owner_stays name gone;
      placed = λ name g is has.
          placed name (ap (λ h. is_node h name) (same_Some new g is) ∙ has) ∙ ap (λ h. place_of h.branches name) (same_Some new g is);
      emptied = λ name out has. unplaced_here name out ∙ place_gone name has;
      beside = λ name out gone. unplaced_here name out ∙ place_stays name gone;
    }
      where
        new : Grown
        new = record { root = root; branches = es }

        owned : (name : ℕ) → is_in (tree_names root es) name ≡ true → place_in after_owners name ≡ Some t
        owned name has =
            owners_are name ∙ by (has_branch es name) (root == name) (sym (node_or_root root es name) ∙ has)
          where
            by : (b r : Bool) → (b || r) ≡ true → cond r (Some t) (cond b (Some t) (place_in left_owners name)) ≡ Some t
            by b true h = refl
            by true false h = refl
            by false false h = absurd (false≢true h)

        parts : (name : ℕ) → is_in (tree_names root es) name ≡ false → (has_branch es name ≡ false) × ((root == name) ≡ false)
        parts name out = or_parts (has_branch es name) (root == name) (sym (node_or_root root es name) ∙ out)

        unowned : (name : ℕ) → is_in (tree_names root es) name ≡ false → place_in after_owners name ≡ place_in left_owners name
        unowned name out =
            owners_are name
            ∙ (ap (λ b. cond b (Some t) (cond (has_branch es name) (Some t) (place_in left_owners name))) (parts name out).1
            ∙ ap (λ b. cond b (Some t) (place_in left_owners name)) (parts name out).0)

        unplaced_here : (name : ℕ) → is_in (tree_names root es) name ≡ false → place_in after_places name ≡ place_in left_places name
        unplaced_here name out =
            places_are name ∙ ap (λ o. place_or o (place_in left_places name)) (place_without es name (parts name out).0)

        -- a root or a new node has no place left
        nothing : (name : ℕ) → (is_node old name ≡ true) ⊎ IsOutside f name → place_in left_places name ≡ None
        nothing name (inl has) = place_gone name has
        nothing name (inr outside) = by (is_node old name) refl
          where
            by : (b : Bool) → is_node old name ≡ b → place_in left_places name ≡ None
            by true e = place_gone name e
            by false e = place_stays name e ∙ unplaced name outside

        placed : (name : ℕ) → is_in (tree_names root es) name ≡ true → place_in after_places name ≡ place_of es name
        placed name has = places_are name ∙ by (cases_Bool (has_branch es name))
          where
            by : (has_branch es name ≡ true) ⊎ (has_branch es name ≡ false)
                → place_or (place_of es name) (place_in left_places name) ≡ place_of es name
            by (inl h) = place_within es name (place_in left_places name) h
            by (inr h) =
                ap (λ o. place_or o (place_in left_places name)) (place_without es name h)
                ∙ (nothing name (fresh name has) ∙ sym (place_without es name h))

  -- one branch more
  pub attached_change : (t : ℕ) (old : Grown) → tree_at f t ≡ Some old → (e : EntryOf ℕ)
      → IsRooted old.root (e ∷ old.branches) → IsOutside f e.minus → IsOutside f e.plus
      → (after_owners after_places : List (Option ℕ))
      → ((name : ℕ) → place_in after_owners name ≡ (if (e.minus == name) || (e.plus == name) then Some t else place_in owners name))
      → ((name : ℕ) → place_in after_places name
      ≡ (if (e.minus == name) || (e.plus == name) then Some (length old.branches) else place_in places name))
      → IsChange f owners places after_owners after_places t old (Some (attached_grown old e))
  attached_change t old at e rooted minus plus after_owners after_places owners_are places_are = record {
    at = at;
    rooted = λ g is. subst (λ h. IsRooted h.root h.branches) (same_Some (attached_grown old e) g is) rooted;
    fresh = λ name has. fresh name (e.minus == name) (e.plus == name) refl refl has;
    owned = λ name has. owners_are name ∙ owned name (e.minus == name) (e.plus == name) has;
    left = λ name out has. absurd (both_ways (is_node old name) (parts name out).1 has);
    others = λ name out gone. owners_are name ∙ ap (λ b. cond b (Some t) (place_in owners name)) (parts name out).0;
    placed = λ name g is has.
        places_are name
        ∙ (placed name (e.minus == name) (e.plus == name) (ap (λ h. is_node h name) (same_Some (attached_grown old e) g is) ∙ has)
        ∙ ap (λ h. place_of h.branches name) (same_Some (attached_grown old e) g is));
    emptied = λ name out has. absurd (both_ways (is_node old name) (parts name out).1 has);
    beside = λ name out gone. places_are name ∙ ap (λ b. cond b (Some (length old.branches)) (place_in places name)) (parts name out).0;
  }
    where
      here_is : (name x : ℕ) → (x == name) ≡ true → IsOutside f x → IsOutside f name
      here_is name x same outside = subst (IsOutside f) (eqb-true x name same) outside

      fresh : (name : ℕ) (m q : Bool) → (e.minus == name) ≡ m → (e.plus == name) ≡ q
          → ((e.minus == name) || ((e.plus == name) || is_node old name)) ≡ true → (is_node old name ≡ true) ⊎ IsOutside f name
      fresh name true q em eq has = inr (here_is name e.minus em minus)
      fresh name false true em eq has = inr (here_is name e.plus eq plus)
      fresh name false false em eq has =
          inl (sym (ap (λ b. b || ((e.plus == name) || is_node old name)) em ∙ ap (λ b. b || is_node old name) eq) ∙ has)

      owned : (name : ℕ) (m q : Bool) → (m || (q || is_node old name)) ≡ true
          → cond (m || q) (Some t) (place_in owners name) ≡ Some t
      owned name true q has = refl
      owned name false true has = refl
      owned name false false has = kept.owned t name old (record { at = at; has = has })

      placed : (name : ℕ) (m q : Bool) → (m || (q || is_node old name)) ≡ true
          → cond (m || q) (Some (length old.branches)) (place_in places name) ≡ cond (m || q) (Some (length old.branches)) (place_of old.branches name)
      placed name true q has = refl
      placed name false true has = refl
      placed name false false has = kept.placed t name old (record { at = at; has = has })

      parts : (name : ℕ) → ((e.minus == name) || ((e.plus == name) || is_node old name)) ≡ false
          → (((e.minus == name) || (e.plus == name)) ≡ false) × (is_node old name ≡ false)
      parts name out = by (e.minus == name) (e.plus == name) out
        where
          by : (m q : Bool) → (m || (q || is_node old name)) ≡ false → ((m || q) ≡ false) × (is_node old name ≡ false)
          by true q h = absurd (false≢true (sym h))
          by false true h = absurd (false≢true (sym h))
          by false false h = (refl, h)
