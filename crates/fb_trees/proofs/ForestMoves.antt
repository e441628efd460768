-- The trees of a forest where one of them is dissolved, gets a branch, or is built anew.
use Rattle.std.proofs.Common.{ℕ, ◌≡◌, ◌≢◌, ◌==◌, ◌||◌, ◌⊎◌, cond, Bool, true, false, List, [], ◌∷◌, ◌++◌, get_or, set, length, map, Option, Some, None, Result, Ok, Err, OnOk, OnErr, refl, sym, ap, ◌∙◌, subst, if◌then◌else◌}
use Rattle.std.proofs.lemmas.Bool.{ne_eqb, or_from}
use Rattle.std.proofs.lemmas.List.{map-set, set-get_or}
use Rattle.std.proofs.lemmas.Option.{none-some}
use Rattle.fb_graph.specs.Parity.{is_in}
use Rattle.fb_regions.specs.InternalPlaces.{place_in}
use Rattle.fb_laws.specs.Trees.{tree_names}
use Rattle.fb_trees.specs.declared.branch.Branch.{Branch}
use Rattle.fb_trees.specs.declared.one_tree.OneTree.{OneTree}
use Rattle.fb_trees.specs.Branches.{Grown, entries_of, entry_of}
use Rattle.fb_trees.specs.Forests.{IsOutside, IsTreeOf, tree_at, trees_in}
use Rattle.fb_trees.specs.InternalForests.{IsKeptForest, IsRebuilt, grown_of, seen}
use Rattle.fb_trees.specs.InternalPlaces.{has_branch}
use Rattle.fb_trees.specs.Rooted.{IsPlus, IsRooted, attached_grown, is_node}
use Rattle.fb_trees.proofs.ForestChanges.{IsTakenOut, attached_change, dissolved_change, rebuilt_change}
use Rattle.fb_trees.proofs.ForestReads.{seen_is, tree_read}
use Rattle.fb_trees.proofs.ForestsCounted.{counted_same}
use Rattle.fb_trees.proofs.ForestsKept.{kept_apart, kept_changed, kept_same, tree_is}
use Rattle.fb_trees.proofs.Lookups.{entries_push, length_entries}

-- a tree that is there is marked so
live_is : (o : OneTree) (g : Grown) → grown_of o ≡ Some g → o.live ≡ true
live_is o g is = by o.live is
  where
    by : (b : Bool) → cond b (Some (seen o)) None ≡ Some g → b ≡ true
    by true h = refl
    by false h = absurd (none-some g h)

grown_live : (o : OneTree) → o.live ≡ true → grown_of o ≡ Some (seen o)
grown_live o live = ap (λ b. cond b (Some (seen o)) None) live

module _ (trees : List OneTree) (owners places : List (Option ℕ)) (kept : IsKeptForest (map grown_of trees) owners places) (t : ℕ)
    (g : Grown) (at : tree_at (map grown_of trees) t ≡ Some g) (one : OneTree) (is : one ≡ get_or trees t one) where
  here : grown_of one ≡ Some g
  here = ap grown_of is ∙ tree_read trees t one g at

  same : seen one ≡ g
  same = seen_is one g here

  taken_out : (left_owners left_places : List (Option ℕ))
      → ((name : ℕ) → place_in left_owners name
      ≡ (if has_branch (entries_of one.branches.items) name then None else (if one.root == name then None else place_in owners name)))
      → ((name : ℕ) → place_in left_places name ≡ (if has_branch (entries_of one.branches.items) name then None else place_in places name))
      → IsTakenOut (map grown_of trees) owners places kept g left_owners left_places
  taken_out left_owners left_places owners_are places_are =
      subst (λ h. IsTakenOut (map grown_of trees) owners places kept h left_owners left_places) same
      (record { owners_are = owners_are; places_are = places_are })

  pub dissolved_view : (after : OneTree) → after.live ≡ false
      → map grown_of (set trees t after) ≡ set (map grown_of trees) t None
  dissolved_view after gone =
      map-set grown_of trees t after
      ∙ ap (set (map grown_of trees) t) (ap (λ b. cond b (Some (seen after)) None) gone)

  pub dissolved_kept : (after : OneTree) → after.live ≡ false → (left_owners left_places : List (Option ℕ))
      → ((name : ℕ) → place_in left_owners name
      ≡ (if has_branch (entries_of one.branches.items) name then None else (if one.root == name then None else place_in owners name)))
      → ((name : ℕ) → place_in left_places name ≡ (if has_branch (entries_of one.branches.items) name then None else place_in places name))
      → IsKeptForest (map grown_of (set trees t after)) left_owners left_places
  dissolved_kept after gone left_owners left_places owners_are places_are =
      subst (λ f. IsKeptForest f left_owners left_places) (sym (dissolved_view after gone))
      (kept_changed (map grown_of trees) owners places left_owners left_places t g None kept
      (dissolved_change (map grown_of trees) owners places kept t g at left_owners left_places
      (taken_out left_owners left_places owners_are places_are)))

  -- the tree stays as it was
  pub same_view : (after : OneTree) → after.root ≡ one.root → after.live ≡ one.live → after.branches.items ≡ one.branches.items
      → map grown_of (set trees t after) ≡ map grown_of trees
  same_view after root live items =
      map-set grown_of trees t after
      ∙ (ap (set (map grown_of trees) t)
      (grown_live after (live ∙ live_is one g here) ∙ (ap Some alike ∙ sym (grown_live one (live_is one g here))))
      ∙ (ap (λ o. set (map grown_of trees) t o) (here ∙ sym at) ∙ set-get_or (map grown_of trees) t None))
    where
      alike : seen after ≡ seen one
      alike =
          ap (λ r. record { root = r; branches = entries_of after.branches.items }) root
          ∙ ap (λ l. record { root = one.root; branches = entries_of l }) items

  pub same_kept : (after : OneTree) → after.root ≡ one.root → after.live ≡ one.live → after.branches.items ≡ one.branches.items
      → (after_owners after_places : List (Option ℕ)) → ((name : ℕ) → place_in after_owners name ≡ place_in owners name)
      → ((name : ℕ) → place_in after_places name ≡ place_in places name)
      → IsKeptForest (map grown_of (set trees t after)) after_owners after_places
  same_kept after root live items after_owners after_places owners_are places_are =
      subst (λ f. IsKeptForest f after_owners after_places) (sym (same_view after root live items))
      (kept_same (map grown_of trees) owners places after_owners after_places kept owners_are places_are)

  -- a branch more
  pub pushed_view : (after : OneTree) (b : Branch) → after.root ≡ one.root → after.live ≡ one.live
      → after.branches.items ≡ one.branches.items ++ b ∷ []
      → map grown_of (set trees t after) ≡ set (map grown_of trees) t (Some (attached_grown g (entry_of b)))
  pushed_view after b root live items =
      map-set grown_of trees t after
      ∙ ap (set (map grown_of trees) t)
      (grown_live after (live ∙ live_is one g here)
      ∙ ap Some
      (ap (λ r. record { root = r; branches = entries_of after.branches.items }) root
      ∙ (ap (λ l. record { root = one.root; branches = l }) (ap entries_of items ∙ entries_push one.branches.items b)
      ∙ ap (λ h. attached_grown h (entry_of b)) same)))

  attached_rooted : (b : Branch) → IsPlus g b.parent → IsOutside (map grown_of trees) b.minus → IsOutside (map grown_of trees) b.plus
      → b.minus ≢ b.plus → IsRooted g.root (entry_of b ∷ g.branches)
  attached_rooted b plus minus_out plus_out apart = record {
    names = (
      or_from (b.plus == b.minus) (is_in (tree_names g.root g.branches) b.minus)
          (ne_eqb b.plus b.minus (λ e. apart (sym e))) (minus_out t g at),
      (plus_out t g at, (kept.rooted t g at).names),
    );
    hung = (plus, (kept.rooted t g at).hung);
  }

  pub pushed_kept : (after : OneTree) (b : Branch) → after.root ≡ one.root → after.live ≡ one.live
      → after.branches.items ≡ one.branches.items ++ b ∷ []
      → IsPlus g b.parent → IsOutside (map grown_of trees) b.minus → IsOutside (map grown_of trees) b.plus → b.minus ≢ b.plus
      → (after_owners after_places : List (Option ℕ))
      → ((name : ℕ) → place_in after_owners name ≡ (if (b.minus == name) || (b.plus == name) then Some t else place_in owners name))
      → ((name : ℕ) → place_in after_places name
      ≡ (if (b.minus == name) || (b.plus == name) then Some (length one.branches.items) else place_in places name))
      → IsKeptForest (map grown_of (set trees t after)) after_owners after_places
  pushed_kept after b root live items plus minus_out plus_out apart after_owners after_places owners_are places_are =
      subst (λ f. IsKeptForest f after_owners after_places) (sym (pushed_view after b root live items))
      (kept_changed (map grown_of trees) owners places after_owners after_places t g (Some (attached_grown g (entry_of b))) kept
      (attached_change (map grown_of trees) owners places kept t g at (entry_of b)
      (attached_rooted b plus minus_out plus_out apart) minus_out plus_out after_owners after_places owners_are
      (λ name.
      places_are name
      ∙ ap (λ n. if (b.minus == name) || (b.plus == name) then Some n else place_in places name)
      (sym (length_entries one.branches.items) ∙ ap (λ h. length h.branches) same))))

  -- whatever came of it
  pub attached_kept : {T E : Type 0} (result : Result T E) (after : OneTree) (b : Branch) → after.root ≡ one.root
      → after.live ≡ one.live → OnOk result (after.branches.items ≡ one.branches.items ++ b ∷ [])
      → OnErr result (after.branches.items ≡ one.branches.items)
      → IsPlus g b.parent → IsOutside (map grown_of trees) b.minus → IsOutside (map grown_of trees) b.plus → b.minus ≢ b.plus
      → (after_owners after_places : List (Option ℕ))
      → OnOk result ((name : ℕ) → place_in after_owners name ≡ (if (b.minus == name) || (b.plus == name) then Some t else place_in owners name))
      → OnOk result ((name : ℕ) → place_in after_places name
      ≡ (if (b.minus == name) || (b.plus == name) then Some (length one.branches.items) else place_in places name))
      → OnErr result ((name : ℕ) → place_in after_owners name ≡ place_in owners name)
      → OnErr result ((name : ℕ) → place_in after_places name ≡ place_in places name)
      → IsKeptForest (map grown_of (set trees t after)) after_owners after_places
  attached_kept (Ok u) after b root live ok err plus minus_out plus_out apart ao ap_ owners_are places_are so sp =
      pushed_kept after b root live ok plus minus_out plus_out apart ao ap_ owners_are places_are
  attached_kept (Err e) after b root live ok err plus minus_out plus_out apart ao ap_ owners_are places_are so sp =
      same_kept after root live err ao ap_ so sp

  pub attached_view : {T E : Type 0} (result : Result T E) (after : OneTree) (b : Branch) → after.root ≡ one.root
      → after.live ≡ one.live → OnOk result (after.branches.items ≡ one.branches.items ++ b ∷ []) → is_node g b.parent ≡ true
      → OnOk result
      ((s : ℕ) (h : Grown) → IsTreeOf (map grown_of trees) b.parent s h
      → map grown_of (set trees t after) ≡ set (map grown_of trees) s (Some (attached_grown h (entry_of b))))
  attached_view (Ok u) after b root live ok has = λ s h there.
      let apart = kept_apart (map grown_of trees) owners places kept in
      let number : t ≡ s = apart.apart t s b.parent g h (record { at = at; has = has }) there in
      let tree : g ≡ h = tree_is (map grown_of trees) apart b.parent t s h g g (record { at = at; has = has }) at there in
      pushed_view after b root live ok
      ∙ (ap (λ n. set (map grown_of trees) n (Some (attached_grown g (entry_of b)))) number
      ∙ ap (λ k. set (map grown_of trees) s (Some (attached_grown k (entry_of b)))) tree)
  attached_view (Err e) after b root live ok has = tt

  pub left_view : {T E : Type 0} (result : Result T E) (after : OneTree) → after.root ≡ one.root → after.live ≡ one.live
      → OnErr result (after.branches.items ≡ one.branches.items)
      → OnErr result (map grown_of (set trees t after) ≡ map grown_of trees)
  left_view (Ok u) after root live err = tt
  left_view (Err e) after root live err = same_view after root live err

  -- another tree in its place
  pub rebuilt_view_of : (new : OneTree) → new.live ≡ true
      → map grown_of (set trees t new) ≡ set (map grown_of trees) t (Some (seen new))
  rebuilt_view_of new live = map-set grown_of trees t new ∙ ap (set (map grown_of trees) t) (grown_live new live)

  pub rebuilt_kept : {T E : Type 0} (result : Result T E) (after new : OneTree) → new.live ≡ true → OnOk result (after ≡ new)
      → OnErr result (after ≡ one) → IsRooted new.root (entries_of new.branches.items)
      → ((name : ℕ) → is_in (tree_names new.root (entries_of new.branches.items)) name ≡ true
      → (is_node g name ≡ true) ⊎ IsOutside (map grown_of trees) name)
      → (after_owners after_places : List (Option ℕ))
      → OnOk result
      (IsRebuilt owners places one.root (entries_of one.branches.items) t new.root (entries_of new.branches.items) after_owners after_places)
      → OnErr result ((name : ℕ) → place_in after_owners name ≡ place_in owners name)
      → OnErr result ((name : ℕ) → place_in after_places name ≡ place_in places name)
      → IsKeptForest (map grown_of (set trees t after)) after_owners after_places
  rebuilt_kept (Ok u) after new live ok err rooted fresh after_owners after_places rebuilt so sp =
      subst (λ f. IsKeptForest f after_owners after_places)
      (sym (ap (λ o. map grown_of (set trees t o)) ok ∙ rebuilt_view_of new live))
      (kept_changed (map grown_of trees) owners places after_owners after_places t g (Some (seen new)) kept
      (rebuilt_change (map grown_of trees) owners places kept t g at rebuilt.left_owners rebuilt.left_places
      (taken_out rebuilt.left_owners rebuilt.left_places rebuilt.owners_left rebuilt.places_left) new.root
      (entries_of new.branches.items) rooted fresh after_owners after_places rebuilt.owners_are rebuilt.places_are))
  rebuilt_kept (Err e) after new live ok err rooted fresh after_owners after_places rebuilt so sp =
      same_kept after (ap (λ o. o.root) err) (ap (λ o. o.live) err) (ap (λ o. o.branches.items) err) after_owners after_places so sp

  pub rebuilt_view : {T E : Type 0} (result : Result T E) (after new : OneTree) → new.live ≡ true → OnOk result (after ≡ new)
      → OnOk result (map grown_of (set trees t after) ≡ set (map grown_of trees) t (Some (seen new)))
  rebuilt_view (Ok u) after new live ok = ap (λ o. map grown_of (set trees t o)) ok ∙ rebuilt_view_of new live
  rebuilt_view (Err e) after new live ok = tt

  pub unbuilt_view : {T E : Type 0} (result : Result T E) (after : OneTree) → OnErr result (after ≡ one)
      → OnErr result (map grown_of (set trees t after) ≡ map grown_of trees)
  unbuilt_view (Ok u) after err = tt
  unbuilt_view (Err e) after err = same_view after (ap (λ o. o.root) err) (ap (λ o. o.live) err) (ap (λ o. o.branches.items) err)

  -- as many trees are left where the tree stays one
  still_counted : (after : OneTree) → after.live ≡ true → (left : ℕ) → left ≡ length (trees_in (map grown_of trees))
      → left ≡ length (trees_in (map grown_of (set trees t after)))
  still_counted after live left counted =
      counted_same (map grown_of trees) t g at left counted (map grown_of (set trees t after)) (seen after) (rebuilt_view_of after live)

  pub attached_counted : (after : OneTree) → after.live ≡ one.live → (left : ℕ) → left ≡ length (trees_in (map grown_of trees))
      → left ≡ length (trees_in (map grown_of (set trees t after)))
  attached_counted after live = still_counted after (live ∙ live_is one g here)

  pub rebuilt_counted : {T E : Type 0} (result : Result T E) (after new : OneTree) → new.live ≡ true → OnOk result (after ≡ new)
      → OnErr result (after ≡ one) → (left : ℕ) → left ≡ length (trees_in (map grown_of trees))
      → left ≡ length (trees_in (map grown_of (set trees t after)))
  rebuilt_counted (Ok u) after new live ok err = still_counted after (ap (λ o. o.live) ok ∙ live)
  rebuilt_counted (Err e) after new live ok err = attached_counted after (ap (λ o. o.live) err)
