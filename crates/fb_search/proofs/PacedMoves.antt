-- How nodes move once a tree of several is dissolved or gets a branch, and once nodes of it are joined or opened: each still as
-- its role in the trees says.
use Rattle.std.proofs.Common.{ℕ, zero, suc, arith, ◌≡◌, ◌≢◌, ◌==◌, ◌||◌, ◌&&◌, cond, Bool, true, false, List, [], ◌∷◌, ◌++◌, set, Option, Some, None, refl, sym, ap, ◌∙◌, subst}
use Rattle.std.proofs.lemmas.Bool.{both_ways, eqb-true, false_from_ne_true, or_parts}
use Rattle.std.proofs.lemmas.Option.{none-some}
use Rattle.fb_graph.specs.Dual.{is_live}
use Rattle.fb_graph.specs.Parity.{is_in}
use Rattle.fb_graph.proofs.Members.{is_in-append}
use Rattle.fb_laws.specs.Trees.{EntryOf, minus_names, plus_names}
use Rattle.fb_regions.specs.Paces.{Paced, pace_in}
use Rattle.fb_regions.specs.declared.roles.Role.{Role}
use Rattle.fb_regions.specs.declared.roles.Role.TheVariants.{Plus, Minus, Out}
use Rattle.fb_trees.specs.Branches.{Grown}
use Rattle.fb_trees.specs.Forests.{AreInPace, AreRootedApart, IsOutside, all_minus, all_plus, role_among, tree_at}
use Rattle.fb_trees.specs.Rooted.{attached_grown, is_node}
use Rattle.fb_trees.proofs.ForestRoles.{role_of_none}
use Rattle.fb_trees.proofs.Names.{minus_in_names, plus_in_tree}
use Rattle.fb_search.specs.InternalGrowing.{GrowingValue, IsGrowing}
use Rattle.fb_search.proofs.ForestPlaces.{trees_after, trees_before, trees_split, trees_with, trees_without}
use Rattle.fb_search.proofs.RingCycles.{live_in}

or_turned : (a b c : Bool) → (a || (b || c)) ≡ (b || (a || c))
or_turned true true c = refl
or_turned true false c = refl
or_turned false b c = refl

-- names of each tree, one after another: those of one tree, and those of the others
module _ (of : Grown → List ℕ) (all : List Grown → List ℕ) (more : (g : Grown) (gs : List Grown) → all (g ∷ gs) ≡ of g ++ all gs) where
  first_or : (g : Grown) (gs : List Grown) (n : ℕ) → is_in (all (g ∷ gs)) n ≡ (is_in (of g) n || is_in (all gs) n)
  first_or g gs n = ap (λ l. is_in l n) (more g gs) ∙ is_in-append (of g) (all gs) n

  one_or : (xs ys : List Grown) (g : Grown) (n : ℕ) → is_in (all (xs ++ g ∷ ys)) n ≡ (is_in (of g) n || is_in (all (xs ++ ys)) n)
  one_or [] ys g n = first_or g ys n
  one_or (x ∷ xs) ys g n =
      first_or x (xs ++ g ∷ ys) n
      ∙ (ap (λ b. is_in (of x) n || b) (one_or xs ys g n)
      ∙ (or_turned (is_in (of x) n) (is_in (of g) n) (is_in (all (xs ++ ys)) n)
      ∙ ap (λ b. is_in (of g) n || b) (sym (first_or x (xs ++ ys) n))))

-- the role by whether the node is plus and whether it is minus
abbrev role_by : Bool → Bool → Role
role_by plus minus = cond plus Plus (cond minus Minus Out)

abbrev own_plus : Grown → ℕ → Bool
own_plus g n = is_in (plus_names g.root g.branches) n

abbrev own_minus : Grown → ℕ → Bool
own_minus g n = is_in (minus_names g.branches) n

parted : (xs ys : List Grown) (g : Grown) (n : ℕ)
    → role_by (is_in (all_plus (xs ++ g ∷ ys)) n) (is_in (all_minus (xs ++ g ∷ ys)) n)
    ≡ role_by (own_plus g n || is_in (all_plus (xs ++ ys)) n) (own_minus g n || is_in (all_minus (xs ++ ys)) n)
parted xs ys g n =
    ap (λ b. role_by b (is_in (all_minus (xs ++ g ∷ ys)) n))
    (one_or (λ h. plus_names h.root h.branches) all_plus (λ h hs. refl) xs ys g n)
    ∙ ap (role_by (own_plus g n || is_in (all_plus (xs ++ ys)) n))
    (one_or (λ h. minus_names h.branches) all_minus (λ h hs. refl) xs ys g n)

-- where a tree is dissolved the others stay
at_without : (f : List (Option Grown)) (t s : ℕ) (h : Grown) → tree_at (set f t None) s ≡ Some h → (t ≢ s) × (tree_at f s ≡ Some h)
at_without [] t s h there = absurd (none-some h there)
at_without (o ∷ os) zero zero h there = absurd (none-some h there)
at_without (o ∷ os) zero (suc s) h there = ((λ e. omega (arith, e)), there)
at_without (o ∷ os) (suc t) zero h there = ((λ e. omega (arith, e)), there)
at_without (o ∷ os) (suc t) (suc s) h there =
    let rest = at_without os t s h there in ((λ e. rest.0 (omega (arith, e))), rest.1)

pub apart_without : (f : List (Option Grown)) (t : ℕ) → AreRootedApart f → AreRootedApart (set f t None)
apart_without f t apart = record {
  rooted = λ s g there. apart.rooted s g (at_without f t s g there).1;
  apart = λ r s n g h a b.
      apart.apart r s n g h (record { at = (at_without f t r g a.at).1; has = a.has })
      (record { at = (at_without f t s h b.at).1; has = b.has });
}

module _ (f : List (Option Grown)) (t : ℕ) (g : Grown) (at : tree_at f t ≡ Some g) (n : ℕ) where
  abbrev Before : List Grown
  Before = trees_before f t

  abbrev After : List Grown
  After = trees_after f t

  -- a node with the same place in the tree that is put there has the same role
  pub role_put : (h : Grown) → own_plus g n ≡ own_plus h n → own_minus g n ≡ own_minus h n
      → role_among f n ≡ role_among (set f t (Some h)) n
  role_put h plus minus =
      ap (λ ts. role_by (is_in (all_plus ts) n) (is_in (all_minus ts) n)) (trees_split f t g at)
      ∙ (parted Before After g n
      ∙ (ap (λ b. role_by (b || is_in (all_plus (Before ++ After)) n) (own_minus g n || is_in (all_minus (Before ++ After)) n)) plus
      ∙ (ap (λ b. role_by (own_plus h n || is_in (all_plus (Before ++ After)) n) (b || is_in (all_minus (Before ++ After)) n)) minus
      ∙ (sym (parted Before After h n)
      ∙ ap (λ ts. role_by (is_in (all_plus ts) n) (is_in (all_minus ts) n)) (sym (trees_with f t g h at))))))

  role_left : is_node g n ≡ false → role_among f n ≡ role_among (set f t None) n
  role_left out =
      ap (λ ts. role_by (is_in (all_plus ts) n) (is_in (all_minus ts) n)) (trees_split f t g at)
      ∙ (parted Before After g n
      ∙ (ap (λ b. role_by (b || is_in (all_plus (Before ++ After)) n) (own_minus g n || is_in (all_minus (Before ++ After)) n))
      (false_from_ne_true (own_plus g n) (λ h. both_ways (is_node g n) out (plus_in_tree g.root g.branches n h)))
      ∙ (ap (λ b. role_by (is_in (all_plus (Before ++ After)) n) (b || is_in (all_minus (Before ++ After)) n))
      (false_from_ne_true (own_minus g n) (λ h. both_ways (is_node g n) out (minus_in_names g.root g.branches n h)))
      ∙ ap (λ ts. role_by (is_in (all_plus ts) n) (is_in (all_minus ts) n)) (sym (trees_without f t g at)))))

  role_gone : AreRootedApart f → is_node g n ≡ true → role_among (set f t None) n ≡ Out
  role_gone apart within = sym (role_of_none (set f t None) n outside)
    where
      outside : IsOutside (set f t None) n
      outside s h there =
          let (other, same) = at_without f t s h there in
          false_from_ne_true (is_node h n)
          (λ has. other (apart.apart t s n g h (record { at = at; has = within }) (record { at = same; has = has })))

-- some nodes are given the roles of other trees, and the roles of all others are as before
pub paced_set : {S : Type 0} (before after : Paced S) (f h : List (Option Grown)) (given : ℕ → Bool)
    → ((n : ℕ) → given n ≡ true → is_live before.nodes n ≡ true)
    → ((n : ℕ) → given n ≡ false → pace_in before n ≡ role_among h n)
    → ((n : ℕ) → pace_in after n ≡ cond (given n && is_live before.nodes n) (role_among h n) (pace_in before n))
    → AreInPace after h
paced_set before after f h given live same paces n = by (given n) refl
  where
    by : (b : Bool) → given n ≡ b → pace_in after n ≡ role_among h n
    by true e =
        paces n
        ∙ (ap (λ b. cond (b && is_live before.nodes n) (role_among h n) (pace_in before n)) e
        ∙ ap (λ b. cond b (role_among h n) (pace_in before n)) (live n e))
    by false e =
        paces n ∙ (ap (λ b. cond (b && is_live before.nodes n) (role_among h n) (pace_in before n)) e ∙ same n e)

-- a tree is dissolved, and its nodes stop
pub paced_dissolved : {S : Type 0} (w : GrowingValue) (t : ℕ) (g : Grown) → tree_at w.forest t ≡ Some g → IsGrowing w
    → (f : List (Option Grown)) → tree_at f t ≡ Some g → AreRootedApart f → (before after : Paced S) → before.nodes ≡ w.part.nodes
    → AreInPace before f
    → ((n : ℕ) → pace_in after n ≡ cond (is_node g n && is_live before.nodes n) Out (pace_in before n))
    → AreInPace after (set f t None)
paced_dissolved w t g at are f there apart before after nodes paced paces n = by (is_node g n) refl
  where
    by : (b : Bool) → is_node g n ≡ b → pace_in after n ≡ role_among (set f t None) n
    by true e =
        paces n
        ∙ (ap (λ b. cond (b && is_live before.nodes n) Out (pace_in before n)) e
        ∙ (ap (λ b. cond b Out (pace_in before n))
        (ap (λ ns. is_live ns n) nodes ∙ live_in w are.state.0 are.state.1 t g at n e)
        ∙ sym (role_gone f t g there n apart e)))
    by false e =
        paces n
        ∙ (ap (λ b. cond (b && is_live before.nodes n) Out (pace_in before n)) e ∙ (paced n ∙ role_left f t g there n e))

-- a tree gets a branch, and its two nodes start
pub paced_attached : {S : Type 0} (before after : Paced S) (f : List (Option Grown)) (t : ℕ) (g : Grown) (e : EntryOf ℕ)
    → tree_at f t ≡ Some g → is_live before.nodes e.minus ≡ true → is_live before.nodes e.plus ≡ true → AreInPace before f
    → ((n : ℕ) → pace_in after n
    ≡ cond (is_in (e.minus ∷ e.plus ∷ []) n && is_live before.nodes n) (role_among (set f t (Some (attached_grown g e))) n) (pace_in before n))
    → AreInPace after (set f t (Some (attached_grown g e)))
paced_attached before after f t g e at minus plus paced paces =
    paced_set before after f (set f t (Some (attached_grown g e))) (is_in (e.minus ∷ e.plus ∷ []))
    (λ n has. live n (e.minus == n) refl has) (λ n out. paced n ∙ same n out) paces
  where
    live : (n : ℕ) (b : Bool) → (e.minus == n) ≡ b → (b || ((e.plus == n) || false)) ≡ true → is_live before.nodes n ≡ true
    live n true is has = subst (λ m. is_live before.nodes m ≡ true) (eqb-true e.minus n is) minus
    live n false is has = by (e.plus == n) refl has
      where
        by : (b : Bool) → (e.plus == n) ≡ b → (b || false) ≡ true → is_live before.nodes n ≡ true
        by true there has = subst (λ m. is_live before.nodes m ≡ true) (eqb-true e.plus n there) plus
        by false there has = absurd (both_ways false refl has)

    same : (n : ℕ) → is_in (e.minus ∷ e.plus ∷ []) n ≡ false → role_among f n ≡ role_among (set f t (Some (attached_grown g e))) n
    same n out =
        let first = or_parts (e.minus == n) ((e.plus == n) || false) out in
        role_put f t g at n (attached_grown g e)
        (sym (ap (λ b. b || own_plus g n) (or_parts (e.plus == n) false first.1).0))
        (sym (ap (λ b. b || own_minus g n) first.0))
