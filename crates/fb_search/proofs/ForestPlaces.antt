-- A forest at the number of one of its trees: the trees before and after it, and what is made of it there.
use Rattle.std.proofs.Common.{ℕ, zero, suc, ◌≡◌, ◌⊎◌, inl, inr, true, List, [], ◌∷◌, ◌++◌, map, set, Option, Some, None, refl, sym, ap, ◌∙◌, subst, append_assoc}
use Rattle.std.specs.List.Sorted.{IsPermutation}
use Rattle.std.proofs.lemmas.Bool.{false≢true}
use Rattle.std.proofs.lemmas.List.{map-append}
use Rattle.std.proofs.lemmas.Option.{none-some, same_Some}
use Rattle.fb_graph.specs.Parity.{is_in}
use Rattle.fb_graph.proofs.Floods.{is_in-both, is_in-left, is_in-right}
use Rattle.fb_laws.specs.LinkNumbers.{tree_links}
use Rattle.fb_laws.specs.TreeCycles.{nodes_along}
use Rattle.fb_laws.specs.Trees.{minus_names, plus_names}
use Rattle.fb_laws.specs.Forests.{AnyTree}
use Rattle.fb_laws.specs.ForestStates.{among_trees}
use Rattle.fb_laws.specs.PartStates.{SearchState}
use Rattle.fb_laws.proofs.PermutedTrees.{pull}
use Rattle.fb_half.specs.Matchings.{match_links}
use Rattle.fb_half.specs.Translations.{cycles_by, entry_by, link_by}
use Rattle.fb_trees.specs.Branches.{Grown}
use Rattle.fb_trees.specs.Forests.{IsPlusNode, all_minus, all_plus, tree_at, trees_in}
use Rattle.fb_search.specs.InternalGrowing.{GrowingValue, all_along, forest_state_at, grown_ids, tree_by, waiting_in}

-- the trees of lower numbers
abbrev pub trees_before : List (Option Grown) → ℕ → List Grown
trees_before [] t = []
trees_before (o ∷ os) zero = []
trees_before (None ∷ os) (suc t) = trees_before os t
trees_before (Some g ∷ os) (suc t) = g ∷ trees_before os t

-- the trees of higher numbers
abbrev pub trees_after : List (Option Grown) → ℕ → List Grown
trees_after [] t = []
trees_after (o ∷ os) zero = trees_in os
trees_after (o ∷ os) (suc t) = trees_after os t

-- the other trees
abbrev pub trees_beside : List (Option Grown) → ℕ → List Grown
trees_beside forest t = trees_before forest t ++ trees_after forest t

pub trees_split : (forest : List (Option Grown)) (t : ℕ) (g : Grown) → tree_at forest t ≡ Some g
    → trees_in forest ≡ trees_before forest t ++ g ∷ trees_after forest t
trees_split [] t g at = absurd (none-some g at)
trees_split (None ∷ os) zero g at = absurd (none-some g at)
trees_split (Some h ∷ os) zero g at = ap (λ x. x ∷ trees_in os) (same_Some h g at)
trees_split (None ∷ os) (suc t) g at = trees_split os t g at
trees_split (Some h ∷ os) (suc t) g at = ap (λ l. h ∷ l) (trees_split os t g at)

-- the tree dissolved
pub trees_without : (forest : List (Option Grown)) (t : ℕ) (g : Grown) → tree_at forest t ≡ Some g
    → trees_in (set forest t None) ≡ trees_beside forest t
trees_without [] t g at = absurd (none-some g at)
trees_without (o ∷ os) zero g at = refl
trees_without (None ∷ os) (suc t) g at = trees_without os t g at
trees_without (Some h ∷ os) (suc t) g at = ap (λ l. h ∷ l) (trees_without os t g at)

-- another tree in its place
pub trees_with : (forest : List (Option Grown)) (t : ℕ) (g h : Grown) → tree_at forest t ≡ Some g
    → trees_in (set forest t (Some h)) ≡ trees_before forest t ++ h ∷ trees_after forest t
trees_with [] t g h at = absurd (none-some g at)
trees_with (o ∷ os) zero g h at = refl
trees_with (None ∷ os) (suc t) g h at = trees_with os t g h at
trees_with (Some x ∷ os) (suc t) g h at = ap (λ l. x ∷ l) (trees_with os t g h at)

-- what is listed of each tree, one after another
module _ (of : Grown → List ℕ) (all : List Grown → List ℕ) (none : all [] ≡ [])
    (more : (g : Grown) (gs : List Grown) → all (g ∷ gs) ≡ of g ++ all gs) where
  all_append : (xs ys : List Grown) → all (xs ++ ys) ≡ all xs ++ all ys
  all_append [] ys = ap (λ l. l ++ all ys) (sym none)
  all_append (x ∷ xs) ys =
      more x (xs ++ ys)
      ∙ (ap (λ l. of x ++ l) (all_append xs ys)
      ∙ (sym (append_assoc (of x) (all xs) (all ys)) ∙ ap (λ l. l ++ all ys) (sym (more x xs))))

  all_first : (xs ys : List Grown) (g : Grown) → IsPermutation (all (xs ++ g ∷ ys)) (of g ++ all (xs ++ ys))
  all_first xs ys g =
      subst (λ l. IsPermutation l (of g ++ all (xs ++ ys))) (sym (all_append xs (g ∷ ys) ∙ ap (λ l. all xs ++ l) (more g ys)))
      (subst (λ l. IsPermutation (all xs ++ (of g ++ all ys)) (of g ++ l)) (sym (all_append xs ys))
      (pull (all xs) (of g) (all ys)))

  -- what is among those of other trees is among those of all
  all_more : (xs ys : List Grown) (g : Grown) (n : ℕ) → is_in (all (xs ++ ys)) n ≡ true → is_in (all (xs ++ g ∷ ys)) n ≡ true
  all_more xs ys g n has =
      ap (λ l. is_in l n) (all_append xs (g ∷ ys) ∙ ap (λ l. all xs ++ l) (more g ys))
      ∙ by (is_in-both (all xs) (all ys) n (ap (λ l. is_in l n) (sym (all_append xs ys)) ∙ has))
    where
      by : (is_in (all xs) n ≡ true) ⊎ (is_in (all ys) n ≡ true) → is_in (all xs ++ (of g ++ all ys)) n ≡ true
      by (inl a) = is_in-left (all xs) (of g ++ all ys) n a
      by (inr b) = is_in-right (all xs) (of g ++ all ys) n (is_in-right (of g) (all ys) n b)

  -- what is among those of all is the one tree's or another's
  all_either : (xs ys : List Grown) (g : Grown) (n : ℕ) → is_in (all (xs ++ g ∷ ys)) n ≡ true
      → (is_in (of g) n ≡ true) ⊎ (is_in (all (xs ++ ys)) n ≡ true)
  all_either xs ys g n has =
      by (is_in-both (all xs) (of g ++ all ys) n
      (ap (λ l. is_in l n) (sym (all_append xs (g ∷ ys) ∙ ap (λ l. all xs ++ l) (more g ys))) ∙ has))
    where
      back : is_in (all xs ++ all ys) n ≡ true → is_in (all (xs ++ ys)) n ≡ true
      back h = ap (λ l. is_in l n) (all_append xs ys) ∙ h

      last : (is_in (of g) n ≡ true) ⊎ (is_in (all ys) n ≡ true) → (is_in (of g) n ≡ true) ⊎ (is_in (all (xs ++ ys)) n ≡ true)
      last (inl a) = inl a
      last (inr b) = inr (back (is_in-right (all xs) (all ys) n b))

      by : (is_in (all xs) n ≡ true) ⊎ (is_in (of g ++ all ys) n ≡ true)
          → (is_in (of g) n ≡ true) ⊎ (is_in (all (xs ++ ys)) n ≡ true)
      by (inl a) = inr (back (is_in-left (all xs) (all ys) n a))
      by (inr b) = last (is_in-both (of g) (all ys) n b)

pub ids_first : (xs ys : List Grown) (g : Grown)
    → IsPermutation (grown_ids (xs ++ g ∷ ys)) (tree_links g.branches ++ grown_ids (xs ++ ys))
ids_first xs ys g = all_first (λ g. tree_links g.branches) grown_ids refl (λ g gs. refl) xs ys g

pub along_first : (xs ys : List Grown) (g : Grown)
    → IsPermutation (all_along (xs ++ g ∷ ys)) (nodes_along g.branches ++ all_along (xs ++ ys))
along_first xs ys g = all_first (λ g. nodes_along g.branches) all_along refl (λ g gs. refl) xs ys g

pub plus_more : (xs ys : List Grown) (g : Grown) (n : ℕ) → is_in (all_plus (xs ++ ys)) n ≡ true
    → is_in (all_plus (xs ++ g ∷ ys)) n ≡ true
plus_more xs ys g n has = all_more (λ g. plus_names g.root g.branches) all_plus refl (λ g gs. refl) xs ys g n has

pub plus_either : (xs ys : List Grown) (g : Grown) (n : ℕ) → is_in (all_plus (xs ++ g ∷ ys)) n ≡ true
    → (is_in (plus_names g.root g.branches) n ≡ true) ⊎ (is_in (all_plus (xs ++ ys)) n ≡ true)
plus_either xs ys g n has = all_either (λ g. plus_names g.root g.branches) all_plus refl (λ g gs. refl) xs ys g n has

pub minus_more : (xs ys : List Grown) (g : Grown) (n : ℕ) → is_in (all_minus (xs ++ ys)) n ≡ true
    → is_in (all_minus (xs ++ g ∷ ys)) n ≡ true
minus_more xs ys g n has = all_more (λ g. minus_names g.branches) all_minus refl (λ g gs. refl) xs ys g n has

pub minus_either : (xs ys : List Grown) (g : Grown) (n : ℕ) → is_in (all_minus (xs ++ g ∷ ys)) n ≡ true
    → (is_in (minus_names g.branches) n ≡ true) ⊎ (is_in (all_minus (xs ++ ys)) n ≡ true)
minus_either xs ys g n has = all_either (λ g. minus_names g.branches) all_minus refl (λ g gs. refl) xs ys g n has

-- what is plus is a plus node of one of the trees
pub plus_node : (forest : List (Option Grown)) (n : ℕ) → is_in (all_plus (trees_in forest)) n ≡ true → IsPlusNode forest n
plus_node [] n has = absurd (false≢true has)
plus_node (None ∷ os) n has =
    let there = plus_node os n has in
    record { tree = suc there.tree; grown = there.grown; at = there.at; plus = there.plus }
plus_node (Some g ∷ os) n has = by (is_in-both (plus_names g.root g.branches) (all_plus (trees_in os)) n has) (plus_node os n)
  where
    by : (is_in (plus_names g.root g.branches) n ≡ true) ⊎ (is_in (all_plus (trees_in os)) n ≡ true)
        → (is_in (all_plus (trees_in os)) n ≡ true → IsPlusNode os n) → IsPlusNode (Some g ∷ os) n
    by (inl here) rest = record { tree = 0; grown = g; at = refl; plus = here }
    by (inr later) rest =
        let there = rest later in
        record { tree = suc there.tree; grown = there.grown; at = there.at; plus = there.plus }

-- a minus node of the one tree is one of all
pub minus_of : (xs ys : List Grown) (g : Grown) (n : ℕ) → is_in (minus_names g.branches) n ≡ true
    → is_in (all_minus (xs ++ g ∷ ys)) n ≡ true
minus_of [] ys g n has = is_in-left (minus_names g.branches) (all_minus ys) n has
minus_of (x ∷ xs) ys g n has = is_in-right (minus_names x.branches) (all_minus (xs ++ g ∷ ys)) n (minus_of xs ys g n has)

-- the state of the tree alone, as the laws see it
abbrev pub own_state : GrowingValue → Grown → ℕ → SearchState
own_state w g parity = record {
  nodes = w.part.nodes;
  cycles = cycles_by w.part.links w.part.store;
  tree = map (entry_by w.part.links) g.branches;
  rest = map (link_by w.part.links) (match_links w.part.matching.matches);
  unmatched = w.part.matching.unmatched;
  root = g.root;
  parity = parity;
}

abbrev pub before_by : GrowingValue → ℕ → List AnyTree
before_by w t = map (tree_by w.part.links) (trees_before w.forest t)

abbrev pub after_by : GrowingValue → ℕ → List AnyTree
after_by w t = map (tree_by w.part.links) (trees_after w.forest t)

-- the trees' state is that of one tree among the others
pub state_among : (w : GrowingValue) (t : ℕ) (g : Grown) (parity : ℕ) → tree_at w.forest t ≡ Some g
    → forest_state_at w parity ≡ among_trees (before_by w t) (after_by w t) (waiting_in w) (own_state w g parity)
state_among w t g parity at =
    (λ k.
    record (forest_state_at w parity) {
      trees =
          (ap (map (tree_by w.part.links)) (trees_split w.forest t g at)
          ∙ map-append (tree_by w.part.links) (trees_before w.forest t) (g ∷ trees_after w.forest t)) k;
    })
