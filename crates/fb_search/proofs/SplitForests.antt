-- One tree of a forest and the trees beside it.
use Rattle.std.proofs.Common.{ℕ, zero, suc, ◌≡◌, ◌⊎◌, inl, inr, true, List, [], ◌∷◌, ◌++◌, map, set, Option, Some, None, refl, sym, ap, ◌∙◌, append_assoc}
use Rattle.std.proofs.lemmas.List.{map-append}
use Rattle.std.proofs.lemmas.Option.{none-some, same_Some}
use Rattle.std.proofs.lemmas.Bool.{false≢true, or_cases}
use Rattle.fb_graph.specs.Parity.{is_in}
use Rattle.fb_graph.proofs.Members.{is_in-append}
use Rattle.fb_laws.specs.Forests.{AnyTree}
use Rattle.fb_laws.specs.ForestStates.{among_trees}
use Rattle.fb_laws.specs.LinkNumbers.{tree_links}
use Rattle.fb_laws.specs.PartStates.{SearchState}
use Rattle.fb_laws.specs.TreeCycles.{nodes_along}
use Rattle.fb_laws.specs.Trees.{minus_names, plus_names}
use Rattle.fb_half.specs.Matchings.{match_links}
use Rattle.fb_half.specs.Translations.{cycles_by, entry_by, link_by}
use Rattle.fb_trees.specs.Branches.{Grown}
use Rattle.fb_trees.specs.Forests.{IsPlusNode, all_minus, all_plus, tree_at, trees_in}
use Rattle.fb_search.specs.InternalGrowing.{GrowingValue, all_along, forest_state_at, grown_ids, tree_by, waiting_in}

-- the trees before that of this number, and those after it
pub record IsAmongTrees (f : List (Option Grown)) (t : ℕ) (g : Grown) : Type 0 where
  pub before : List Grown
  pub after : List Grown
  pub there : trees_in f ≡ before ++ g ∷ after
  pub put : (h : Grown) → trees_in (set f t (Some h)) ≡ before ++ h ∷ after
  pub gone : trees_in (set f t None) ≡ before ++ after

pub among_others : (f : List (Option Grown)) (t : ℕ) (g : Grown) → tree_at f t ≡ Some g → IsAmongTrees f t g
among_others [] t g at = absurd (none-some g at)
among_others (None ∷ f) zero g at = absurd (none-some g at)
among_others (Some h ∷ f) zero g at = record {
  before = [];
  after = trees_in f;
  there = ap (λ k. k ∷ trees_in f) (same_Some h g at);
  put = λ k. refl;
  gone = refl;
}
among_others (None ∷ f) (suc t) g at =
    let rest = among_others f t g at in
    record { before = rest.before; after = rest.after; there = rest.there; put = rest.put; gone = rest.gone }
among_others (Some h ∷ f) (suc t) g at =
    let rest = among_others f t g at in
    record {
      before = h ∷ rest.before;
      after = rest.after;
      there = ap (λ l. h ∷ l) rest.there;
      put = λ k. ap (λ l. h ∷ l) (rest.put k);
      gone = ap (λ l. h ∷ l) rest.gone;
    }

-- lists of all trees, in two parts
pub plus_append : (xs ys : List Grown) → all_plus (xs ++ ys) ≡ all_plus xs ++ all_plus ys
plus_append [] ys = refl
plus_append (x ∷ xs) ys =
    ap (λ l. plus_names x.root x.branches ++ l) (plus_append xs ys) ∙ sym (append_assoc (plus_names x.root x.branches) (all_plus xs) (all_plus ys))

pub minus_append : (xs ys : List Grown) → all_minus (xs ++ ys) ≡ all_minus xs ++ all_minus ys
minus_append [] ys = refl
minus_append (x ∷ xs) ys =
    ap (λ l. minus_names x.branches ++ l) (minus_append xs ys) ∙ sym (append_assoc (minus_names x.branches) (all_minus xs) (all_minus ys))

pub ids_append : (xs ys : List Grown) → grown_ids (xs ++ ys) ≡ grown_ids xs ++ grown_ids ys
ids_append [] ys = refl
ids_append (x ∷ xs) ys =
    ap (λ l. tree_links x.branches ++ l) (ids_append xs ys) ∙ sym (append_assoc (tree_links x.branches) (grown_ids xs) (grown_ids ys))

pub along_append : (xs ys : List Grown) → all_along (xs ++ ys) ≡ all_along xs ++ all_along ys
along_append [] ys = refl
along_append (x ∷ xs) ys =
    ap (λ l. nodes_along x.branches ++ l) (along_append xs ys) ∙ sym (append_assoc (nodes_along x.branches) (all_along xs) (all_along ys))

-- one of the trees as that of a search
abbrev pub tree_state : GrowingValue → Grown → ℕ → SearchState
tree_state w g parity = record {
  nodes = w.part.nodes;
  cycles = cycles_by w.part.links w.part.store;
  tree = map (entry_by w.part.links) g.branches;
  rest = map (link_by w.part.links) (match_links w.part.matching.matches);
  unmatched = w.part.matching.unmatched;
  root = g.root;
  parity = parity;
}

abbrev pub beside_by : GrowingValue → List Grown → List AnyTree
beside_by w gs = map (tree_by w.part.links) gs

-- the trees as those beside one of them
pub state_among : (w : GrowingValue) (parity : ℕ) (before after : List Grown) (g : Grown) → trees_in w.forest ≡ before ++ g ∷ after
    → forest_state_at w parity ≡ among_trees (beside_by w before) (beside_by w after) (waiting_in w) (tree_state w g parity)
state_among w parity before after g there i = record (forest_state_at w parity) {
  trees = (ap (map (tree_by w.part.links)) there ∙ map-append (tree_by w.part.links) before (g ∷ after)) i;
}

-- a plus node of some tree
pub plus_node : (f : List (Option Grown)) (n : ℕ) → is_in (all_plus (trees_in f)) n ≡ true → IsPlusNode f n
plus_node [] n has = absurd (false≢true has)
plus_node (None ∷ f) n has =
    let rest = plus_node f n has in record { tree = suc rest.tree; grown = rest.grown; at = rest.at; plus = rest.plus }
plus_node (Some h ∷ f) n has =
    by (or_cases (is_in (plus_names h.root h.branches) n) (is_in (all_plus (trees_in f)) n)
    (sym (is_in-append (plus_names h.root h.branches) (all_plus (trees_in f)) n) ∙ has)) (plus_node f n)
  where
    by : (is_in (plus_names h.root h.branches) n ≡ true) ⊎ (is_in (all_plus (trees_in f)) n ≡ true)
        → (is_in (all_plus (trees_in f)) n ≡ true → IsPlusNode f n) → IsPlusNode (Some h ∷ f) n
    by (inl here) rest = record { tree = 0; grown = h; at = refl; plus = here }
    by (inr there) rest =
        let r = rest there in record { tree = suc r.tree; grown = r.grown; at = r.at; plus = r.plus }
