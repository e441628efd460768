-- The role of a node of a forest is the one that its own tree gives.
use Rattle.std.proofs.Common.{ℕ, zero, suc, ◌≡◌, ◌||◌, cond, Bool, true, false, List, [], ◌∷◌, ◌++◌, Option, Some, None, refl, sym, ap, ◌∙◌}
use Rattle.std.proofs.lemmas.Bool.{both_ways, false≢true, false_from_ne_true}
use Rattle.std.proofs.lemmas.Option.{none-some, same_Some}
use Rattle.fb_graph.specs.Parity.{is_in}
use Rattle.fb_graph.proofs.Floods.{is_in-left, is_in-right}
use Rattle.fb_graph.proofs.Members.{is_in-append}
use Rattle.fb_regions.specs.declared.roles.Role.TheVariants.{Plus, Minus, Out}
use Rattle.fb_laws.specs.Trees.{minus_names, plus_names}
use Rattle.fb_trees.specs.Branches.{Grown}
use Rattle.fb_trees.specs.Forests.{AreRootedApart, IsOutside, IsTreeOf, all_minus, all_plus, role_among, tree_at, trees_in}
use Rattle.fb_trees.specs.Rooted.{is_node, role_in}
use Rattle.fb_trees.proofs.Names.{minus_in_names, plus_in_tree}

-- a tree that has the node among its names
record IsHeldBy (names : Grown → List ℕ) (f : List (Option Grown)) (n : ℕ) : Type 0 where
  tree : ℕ
  grown : Grown
  at : tree_at f tree ≡ Some grown
  has : is_in (names grown) n ≡ true

-- names of each tree, one after another
module _ (names : Grown → List ℕ) (all : List Grown → List ℕ) (none : all [] ≡ [])
    (more : (t : Grown) (ts : List Grown) → all (t ∷ ts) ≡ names t ++ all ts) where
  all_has : (f : List (Option Grown)) (t n : ℕ) (g : Grown) → tree_at f t ≡ Some g → is_in (names g) n ≡ true
      → is_in (all (trees_in f)) n ≡ true
  all_has [] t n g at has = absurd (none-some g at)
  all_has (None ∷ f) zero n g at has = absurd (none-some g at)
  all_has (None ∷ f) (suc t) n g at has = all_has f t n g at has
  all_has (Some h ∷ f) zero n g at has =
      ap (λ l. is_in l n) (more h (trees_in f))
      ∙ is_in-left (names h) (all (trees_in f)) n (ap (λ k. is_in (names k) n) (same_Some h g at) ∙ has)
  all_has (Some h ∷ f) (suc t) n g at has =
      ap (λ l. is_in l n) (more h (trees_in f)) ∙ is_in-right (names h) (all (trees_in f)) n (all_has f t n g at has)

  later : (o : Option Grown) (f : List (Option Grown)) (n : ℕ) → IsHeldBy names f n → IsHeldBy names (o ∷ f) n
  later o f n held = record { tree = suc held.tree; grown = held.grown; at = held.at; has = held.has }

  all_from : (f : List (Option Grown)) (n : ℕ) → is_in (all (trees_in f)) n ≡ true → IsHeldBy names f n
  all_from [] n has = absurd (false≢true (ap (λ l. is_in l n) (sym none) ∙ has))
  all_from (None ∷ f) n has = later None f n (all_from f n has)
  all_from (Some h ∷ f) n has =
      by (is_in (names h) n) refl
      (sym (is_in-append (names h) (all (trees_in f)) n) ∙ (ap (λ l. is_in l n) (sym (more h (trees_in f))) ∙ has)) (all_from f n)
    where
      by : (b : Bool) → is_in (names h) n ≡ b → (is_in (names h) n || is_in (all (trees_in f)) n) ≡ true
          → (is_in (all (trees_in f)) n ≡ true → IsHeldBy names f n) → IsHeldBy names (Some h ∷ f) n
      by true e either rest = record { tree = 0; grown = h; at = refl; has = e }
      by false e either rest =
          later (Some h) f n (rest (sym (ap (λ b. b || is_in (all (trees_in f)) n) e) ∙ either))

  -- of a node of a tree it is the tree's own names that count
  all_own : ((g : Grown) (n : ℕ) → is_in (names g) n ≡ true → is_node g n ≡ true) → (f : List (Option Grown)) → AreRootedApart f
      → (t n : ℕ) (g : Grown) → IsTreeOf f n t g → is_in (all (trees_in f)) n ≡ is_in (names g) n
  all_own nodes f apart t n g is = by (is_in (names g) n) refl
    where
      own : IsHeldBy names f n → is_in (names g) n ≡ true
      own held =
          let same = apart.apart held.tree t n held.grown g (record { at = held.at; has = nodes held.grown n held.has }) is in
          let trees : held.grown ≡ g = same_Some held.grown g (sym held.at ∙ (ap (tree_at f) same ∙ is.at)) in
          ap (λ k. is_in (names k) n) (sym trees) ∙ held.has

      by : (b : Bool) → is_in (names g) n ≡ b → is_in (all (trees_in f)) n ≡ b
      by true e = all_has f t n g is.at e
      by false e =
          false_from_ne_true (is_in (all (trees_in f)) n) (λ h. both_ways (is_in (names g) n) e (own (all_from f n h)))

  all_outside : ((g : Grown) (n : ℕ) → is_in (names g) n ≡ true → is_node g n ≡ true) → (f : List (Option Grown)) (n : ℕ)
      → IsOutside f n → is_in (all (trees_in f)) n ≡ false
  all_outside nodes f n outside =
      false_from_ne_true (is_in (all (trees_in f)) n)
      (λ h.
      let held = all_from f n h in
      both_ways (is_node held.grown n) (outside held.tree held.grown held.at) (nodes held.grown n held.has))

pub role_of_tree : (f : List (Option Grown)) → AreRootedApart f → (t n : ℕ) (g : Grown) → IsTreeOf f n t g
    → role_in g n ≡ role_among f n
role_of_tree f apart t n g is =
    sym
    (ap (λ b. cond b Plus (cond (is_in (all_minus (trees_in f)) n) Minus Out))
    (all_own (λ h. plus_names h.root h.branches) all_plus refl (λ h hs. refl) (λ h m. plus_in_tree h.root h.branches m) f apart t n g is)
    ∙ ap (λ b. cond (is_in (plus_names g.root g.branches) n) Plus (cond b Minus Out))
    (all_own (λ h. minus_names h.branches) all_minus refl (λ h hs. refl) (λ h m. minus_in_names h.root h.branches m) f apart t n g is))

pub role_of_none : (f : List (Option Grown)) (n : ℕ) → IsOutside f n → Out ≡ role_among f n
role_of_none f n outside =
    sym
    (ap (λ b. cond b Plus (cond (is_in (all_minus (trees_in f)) n) Minus Out))
    (all_outside (λ h. plus_names h.root h.branches) all_plus refl (λ h hs. refl) (λ h m. plus_in_tree h.root h.branches m) f n outside)
    ∙ ap (λ b. cond b Minus Out)
    (all_outside (λ h. minus_names h.branches) all_minus refl (λ h hs. refl) (λ h m. minus_in_names h.root h.branches m) f n outside))
