-- What a forest has at the number of a tree.
use Rattle.std.proofs.Common.{ℕ, zero, suc, ◌≡◌, ◌<◌, ◌==◌, ◌||◌, cond, Bool, true, false, List, [], ◌∷◌, ◌++◌, get_or, length, map, Option, Some, None, Vec, Global, option_map, refl, sym, ap, ◌∙◌, subst, if◌then◌else◌}
use Rattle.std.proofs.lemmas.Bool.{both_ways, or_parts}
use Rattle.std.proofs.lemmas.List.{get_or-map, length-map, map-append}
use Rattle.std.proofs.lemmas.Option.{none-some, same_Some}
use Rattle.fb_graph.specs.Parity.{is_in}
use Rattle.fb_regions.specs.InternalPlaces.{place_in}
use Rattle.fb_trees.specs.declared.branch.Branch.{Branch}
use Rattle.fb_trees.specs.declared.one_tree.OneTree.{OneTree}
use Rattle.fb_trees.specs.Branches.{Grown, entries_of}
use Rattle.fb_trees.specs.Forests.{ArePlusTogether, AreRootedApart, IsInside, IsMinusNode, IsOutside, IsPlusNode, IsTreeOf, bare_trees, tree_at}
use Rattle.fb_trees.specs.InternalForests.{IsKeptForest, grown_of, seen}
use Rattle.fb_trees.specs.InternalPlaces.{IsViewed}
use Rattle.fb_trees.specs.Rooted.{IsPlus, bare, is_node}
use Rattle.fb_trees.proofs.ForestsKept.{kept_added, there_below, tree_is}
use Rattle.fb_trees.proofs.Names.{minus_in_names, plus_in_tree}

pub seen_is : (o : OneTree) (g : Grown) → grown_of o ≡ Some g → seen o ≡ g
seen_is o g is = by o.live is
  where
    by : (b : Bool) → cond b (Some (seen o)) None ≡ Some g → seen o ≡ g
    by true h = same_Some (seen o) g h
    by false h = absurd (none-some g h)

pub number_below : (trees : List OneTree) (t : ℕ) (g : Grown) → tree_at (map grown_of trees) t ≡ Some g → t < length trees
number_below trees t g at = subst (λ n. t < n) (length-map trees grown_of) (there_below (map grown_of trees) t g at)

pub tree_read : (trees : List OneTree) (t : ℕ) (d : OneTree) (g : Grown) → tree_at (map grown_of trees) t ≡ Some g
    → grown_of (get_or trees t d) ≡ Some g
tree_read trees t d g at = sym (get_or-map grown_of trees t d None (number_below trees t g at)) ∙ at

-- the tree that has the root
pub tree_there : (o : Option Grown) (root : ℕ) → Some root ≡ option_map (λ g. g.root) o → (g : Grown) × (o ≡ Some g) × (g.root ≡ root)
tree_there None root is = absurd (none-some root (sym is))
tree_there (Some g) root is = (g, refl, sym (same_Some root g.root is))

-- the tree of a number with the table
pub viewed : (f : List (Option Grown)) (owners places : List (Option ℕ)) → IsKeptForest f owners places → (t : ℕ) (g : Grown)
    → tree_at f t ≡ Some g → IsViewed g.root g.branches places
viewed f owners places kept t g at = record {
  rooted = kept.rooted t g at;
  placed = λ name within. kept.placed t name g (record { at = at; has = within });
}

-- a name that isn't among the roots is in no tree of the roots alone
pub outside_bare : (roots : List ℕ) (n : ℕ) → is_in roots n ≡ false → IsOutside (bare_trees roots) n
outside_bare [] n none t g at = absurd (none-some g at)
outside_bare (r ∷ roots) n none zero g at =
    ap (λ h. is_node h n) (sym (same_Some (bare r) g at)) ∙ ap (λ b. b || false) (or_parts (r == n) (is_in roots n) none).0
outside_bare (r ∷ roots) n none (suc t) g at =
    outside_bare roots n (or_parts (r == n) (is_in roots n) none).1 t g at

pub viewed_one : (trees : List OneTree) (owners places : List (Option ℕ)) → IsKeptForest (map grown_of trees) owners places → (t : ℕ)
    (g : Grown) → tree_at (map grown_of trees) t ≡ Some g → (one : OneTree) → one ≡ get_or trees t one
    → (branches : List Branch) → branches ≡ one.branches.items → (table : List (Option ℕ)) → table ≡ places
    → IsViewed one.root (entries_of branches) table
viewed_one trees owners places kept t g at one is branches read table same =
    subst (λ l. IsViewed one.root (entries_of l) table) (sym read)
    (subst (IsViewed one.root (entries_of one.branches.items)) (sym same)
    (subst (λ h. IsViewed h.root h.branches places)
    (sym (seen_is one g (ap grown_of is ∙ tree_read trees t one g at)))
    (viewed (map grown_of trees) owners places kept t g at)))

-- the tree of one more root
pub added_view : (trees : List OneTree) (root : ℕ) (after : List OneTree) (branches : Vec Branch Global)
    → after ≡ trees ++ record { root = root; branches = branches; live = true } ∷ [] → branches.items ≡ []
    → map grown_of after ≡ map grown_of trees ++ Some (bare root) ∷ []
added_view trees root after branches pushed none =
    ap (map grown_of) pushed
    ∙ (map-append grown_of trees (record { root = root; branches = branches; live = true } ∷ [])
    ∙ ap (λ l. map grown_of trees ++ Some (record { root = root; branches = entries_of l }) ∷ []) none)

pub added_one : (trees : List OneTree) (owners places : List (Option ℕ)) → IsKeptForest (map grown_of trees) owners places → (root : ℕ)
    → IsOutside (map grown_of trees) root → (count : ℕ) → count ≡ length trees → (after_owners : List (Option ℕ))
    → ((name : ℕ) → place_in after_owners name ≡ (if root == name then Some count else place_in owners name))
    → (after : List OneTree) (branches : Vec Branch Global)
    → after ≡ trees ++ record { root = root; branches = branches; live = true } ∷ [] → branches.items ≡ []
    → IsKeptForest (map grown_of after) after_owners places
added_one trees owners places kept root outside count count_is after_owners entries after branches pushed none =
    subst (λ f. IsKeptForest f after_owners places)
    (sym (added_view trees root after branches pushed none))
    (kept_added (map grown_of trees) owners places after_owners root kept outside
    (λ name.
    entries name
    ∙ ap (λ n. if root == name then Some n else place_in owners name) (count_is ∙ sym (length-map trees grown_of))))

-- a plus or minus node of a tree is one of its nodes
abbrev pub minus_inside : (f : List (Option Grown)) (node : ℕ) → IsMinusNode f node → IsInside f node
minus_inside f node is = record {
  tree = is.tree;
  grown = is.grown;
  is = record { at = is.at; has = minus_in_names is.grown.root is.grown.branches node is.minus };
}

abbrev pub plus_inside : (f : List (Option Grown)) (node : ℕ) → IsPlusNode f node → IsInside f node
plus_inside f node is = record {
  tree = is.tree;
  grown = is.grown;
  is = record { at = is.at; has = plus_in_tree is.grown.root is.grown.branches node is.plus };
}

abbrev pub together_inside : (f : List (Option Grown)) (a b : ℕ) → ArePlusTogether f a b → IsInside f a
together_inside f a b is = record {
  tree = is.tree;
  grown = is.grown;
  is = record { at = is.at; has = plus_in_tree is.grown.root is.grown.branches a is.first };
}

-- a plus node is in a tree, and is a plus node of that one
pub plus_outside : (f : List (Option Grown)) (node : ℕ) → IsPlusNode f node → IsOutside f node → ⊥
plus_outside f node is outside =
    both_ways (is_node is.grown node) (outside is.tree is.grown is.at) (plus_in_tree is.grown.root is.grown.branches node is.plus)

pub plus_is : (f : List (Option Grown)) → AreRootedApart f → (node : ℕ) → IsPlusNode f node → (t : ℕ) (g : Grown) → IsTreeOf f node t g
    → IsPlus g node
plus_is f kept node is t g there =
    subst (λ h. IsPlus h node)
    (tree_is f kept node is.tree t g is.grown is.grown (plus_inside f node is).is is.at there) is.plus
