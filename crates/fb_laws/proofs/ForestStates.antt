-- Several trees that grow at once: each is the tree of a search, and steps and attached nodes keep them.
use Rattle.std.proofs.Common.{ℕ, ◌≡◌, ◌%◌, ◌==◌, ◌||◌, ◌⊎◌, inl, inr, not, Bool, true, false, List, [], ◌∷◌, ◌++◌, All, Some, get_or, refl, sym, ap, ◌∙◌, subst, append_assoc}
use Rattle.std.proofs.lemmas.Bool.{both_ways, and_from, false≢true, false_from_ne_true, ne_eqb, not_from_false, or_from}
use Rattle.std.proofs.lemmas.List.Elements.{All-cons, All-head, All-tail, All-append}
use Rattle.std.proofs.lemmas.List.Sorted.{All-permutation, IsPermutation-sym, IsPermutation-middle, IsPermutation-append_comm, IsPermutation-append_left}
use Rattle.std.specs.List.Sorted.{IsPermutation}
use Rattle.fb_graph.specs.Parity.{is_in}
use Rattle.fb_graph.specs.Problem.{Problem}
use Rattle.fb_graph.specs.Certificate.{AreDistinct}
use Rattle.fb_graph.specs.Covers.{HaveParity}
use Rattle.fb_graph.specs.Laws.{Link}
use Rattle.fb_graph.specs.Dual.{Node, all_cuts, leaves, cover_of, height_of}
use Rattle.fb_graph.specs.Links.{IsTightLink}
use Rattle.fb_graph.proofs.Floods.{is_in-both, is_in-left, is_in-right}
use Rattle.fb_graph.proofs.Members.{distinct_left, is_in-append}
use Rattle.fb_graph.proofs.Nodes.{All-left, All-right}
use Rattle.fb_graph.proofs.Sets.{is_in-cases, is_in-filter, is_in-head}
use Rattle.fb_graph.proofs.Unions.{distinct_append}
use Rattle.fb_laws.specs.Fusion.{IsLinkOf}
use Rattle.fb_laws.specs.Opening.{EndsAtDefects}
use Rattle.fb_laws.specs.Works.{AreMatchedLinks}
use Rattle.fb_laws.specs.Trees.{Entry, Connects, IsTree, grown_links, paired_links, tree_names}
use Rattle.fb_laws.specs.Searches.{IsOuterNode, IsSearch}
use Rattle.fb_laws.specs.Forests.{ForestAttached, ForestTree, IsForest, TreeOf, forest_grown, forest_names, forest_paired, forest_roots, from_each}
use Rattle.fb_laws.proofs.HalvesKept.{matching_permuted}
use Rattle.fb_laws.proofs.JoinedThree.{root_plus}
use Rattle.fb_laws.proofs.MergedParts.{distinct_across}
use Rattle.fb_laws.proofs.OpenedBlossoms.{distinct_permuted, same_permuted}
use Rattle.fb_laws.proofs.SearchStates.{outside, search_attached, search_permuted, unmatched_outside}
use Rattle.fb_laws.proofs.SearchTrees.{connects_sym, plus_in_tree}
use Rattle.fb_laws.proofs.TreePaths.{distinct_right}

-- the lists of two forests, one after the other
pub each_append : {L X : Type 0} (f : TreeOf L → List X) (xs ys : List (TreeOf L)) → from_each f (xs ++ ys) ≡ from_each f xs ++ from_each f ys
each_append f [] ys = refl
each_append f (t ∷ xs) ys =
    ap (λ l. f t ++ l) (each_append f xs ys) ∙ sym (append_assoc (f t) (from_each f xs) (from_each f ys))

-- one tree's list goes first
pub each_first : {L X : Type 0} (f : TreeOf L → List X) (before after : List (TreeOf L)) (t : TreeOf L)
    → IsPermutation (from_each f (before ++ t ∷ after)) (f t ++ from_each f (before ++ after))
each_first f before after t =
    subst (λ l. IsPermutation l (f t ++ from_each f (before ++ after))) (sym (each_append f before (t ∷ after)))
    (subst (λ l. IsPermutation (from_each f before ++ (f t ++ from_each f after)) (f t ++ l)) (sym (each_append f before after))
    (subst (λ l. IsPermutation l (f t ++ (from_each f before ++ from_each f after)))
    (append_assoc (from_each f before) (f t) (from_each f after))
    (subst (IsPermutation ((from_each f before ++ f t) ++ from_each f after))
    (append_assoc (f t) (from_each f before) (from_each f after))
    (IsPermutation-append_left (from_each f after) (from_each f before ++ f t) (f t ++ from_each f before)
    (IsPermutation-append_comm (from_each f before) (f t))))))

-- links that are some of others
pub links_kept : (p : Problem) (nodes : List Node) (links more rest : List Link) → IsPermutation links (more ++ rest)
    → AreMatchedLinks p nodes links → AreMatchedLinks p nodes more × AreMatchedLinks p nodes rest
links_kept p nodes links more rest moved are =
    let tight = All-permutation (IsTightLink p (all_cuts nodes)) links (more ++ rest) moved are.tight in
    let own = All-permutation (IsLinkOf p) links (more ++ rest) moved are.own in
    let ends = All-permutation (EndsAtDefects p (leaves nodes)) links (more ++ rest) moved are.at_defects in (
      record {
        tight = All-left (IsTightLink p (all_cuts nodes)) more rest tight;
        own = All-left (IsLinkOf p) more rest own;
        at_defects = All-left (EndsAtDefects p (leaves nodes)) more rest ends;
      },
      record {
        tight = All-right (IsTightLink p (all_cuts nodes)) more rest tight;
        own = All-right (IsLinkOf p) more rest own;
        at_defects = All-right (EndsAtDefects p (leaves nodes)) more rest ends;
      },
    )

pub links_both : (p : Problem) (nodes : List Node) (links more rest : List Link) → IsPermutation (more ++ rest) links
    → AreMatchedLinks p nodes more → AreMatchedLinks p nodes rest → AreMatchedLinks p nodes links
links_both p nodes links more rest moved one other = record {
  tight =
      All-permutation (IsTightLink p (all_cuts nodes)) (more ++ rest) links moved
      (All-append (IsTightLink p (all_cuts nodes)) more rest one.tight other.tight);
  own = All-permutation (IsLinkOf p) (more ++ rest) links moved (All-append (IsLinkOf p) more rest one.own other.own);
  at_defects =
      All-permutation (EndsAtDefects p (leaves nodes)) (more ++ rest) links moved
      (All-append (EndsAtDefects p (leaves nodes)) more rest one.at_defects other.at_defects);
}

-- what holds of a tree in the middle, and of all others
pub all_mid : {L : Type 0} (P : TreeOf L → Type 0) (before after : List (TreeOf L)) (t : TreeOf L) → All P (before ++ t ∷ after)
    → P t × All P (before ++ after)
all_mid P before after t all =
    let moved = All-permutation P (before ++ t ∷ after) (t ∷ (before ++ after)) (IsPermutation-middle before t after) all in
    (All-head P t (before ++ after) moved, All-tail P t (before ++ after) moved)

all_back : {L : Type 0} (P : TreeOf L → Type 0) (before after : List (TreeOf L)) (t : TreeOf L) → P t → All P (before ++ after)
    → All P (before ++ t ∷ after)
all_back P before after t one others =
    All-permutation P (t ∷ (before ++ after)) (before ++ t ∷ after)
    (IsPermutation-sym (before ++ t ∷ after) (t ∷ (before ++ after)) (IsPermutation-middle before t after))
    (All-cons P t (before ++ after) one others)

-- the matched links of all trees and the rest, those of one tree first
pub paired_first : (before after : List (TreeOf Link)) (t : TreeOf Link) (rest : List Link)
    → IsPermutation (forest_paired (before ++ t ∷ after) ++ rest)
    (paired_links t.branches ++ (forest_paired (before ++ after) ++ rest))
paired_first before after t rest =
    subst (IsPermutation (forest_paired (before ++ t ∷ after) ++ rest))
    (append_assoc (paired_links t.branches) (forest_paired (before ++ after)) rest)
    (IsPermutation-append_left rest (forest_paired (before ++ t ∷ after)) (paired_links t.branches ++ forest_paired (before ++ after))
    (each_first (λ s. paired_links s.branches) before after t))

-- the names of a tree in the middle first
pub names_first : (before after : List (TreeOf Link)) (t : TreeOf Link)
    → IsPermutation (forest_names (before ++ t ∷ after)) (tree_names t.root t.branches ++ forest_names (before ++ after))
names_first before after t = each_first (λ s. tree_names s.root s.branches) before after t

pub in_forest : (before after : List (TreeOf Link)) (t : TreeOf Link) (n : ℕ) → is_in (tree_names t.root t.branches) n ≡ true
    → is_in (forest_names (before ++ t ∷ after)) n ≡ true
in_forest before after t n within =
    ap (λ l. is_in l n) (each_append (λ s. tree_names s.root s.branches) before (t ∷ after))
    ∙ is_in-right (forest_names before) (forest_names (t ∷ after)) n
    (is_in-left (tree_names t.root t.branches) (forest_names after) n within)

root_of_one : (before after : List (TreeOf Link)) (t : TreeOf Link) → is_in (forest_roots (before ++ t ∷ after)) t.root ≡ true
root_of_one [] after t = is_in-head t.root (forest_roots after)
root_of_one (s ∷ before) after t =
    is_in-right (s.root ∷ []) (forest_roots (before ++ t ∷ after)) t.root (root_of_one before after t)

pub forest_tree : ForestTree
forest_tree p nodes before after t rest unmatched waiting r state = record {
  matching =
      matching_permuted p nodes (forest_paired (before ++ t ∷ after) ++ rest)
      (paired_links t.branches ++ (forest_paired (before ++ after) ++ rest)) unmatched (paired_first before after t rest)
      state.matching;
  root_is = (all_mid (λ s. IsOuterNode nodes s.root) before after t state.outer).0;
  open_root =
      state.roots t.root
      ∙ is_in-left (forest_roots (before ++ t ∷ after)) waiting t.root (root_of_one before after t);
  names =
      distinct_left (tree_names t.root t.branches) (forest_names (before ++ after))
      (distinct_permuted (forest_names (before ++ t ∷ after)) (tree_names t.root t.branches ++ forest_names (before ++ after))
      (names_first before after t) state.names);
  joined = (all_mid (λ s. IsTree nodes s.root s.branches) before after t state.joined).0;
  grown =
      (links_kept p nodes (forest_grown (before ++ t ∷ after)) (grown_links t.branches) (forest_grown (before ++ after))
      (each_first (λ s. grown_links s.branches) before after t) state.grown).0;
  parity = λ d name leaf cover among. state.parity d name leaf cover (in_forest before after t name among);
}

-- a tree that has the name
pub record IsHeld (trees : List (TreeOf Link)) (n : ℕ) : Type 0 where
  pub before : List (TreeOf Link)
  pub tree : TreeOf Link
  pub after : List (TreeOf Link)
  pub there : trees ≡ before ++ tree ∷ after
  pub has : is_in (tree_names tree.root tree.branches) n ≡ true

pub held_by : (trees : List (TreeOf Link)) (n : ℕ) → is_in (forest_names trees) n ≡ true → IsHeld trees n
held_by [] n has = absurd (false≢true has)
held_by (t ∷ ts) n has =
    by (is_in (tree_names t.root t.branches) n) refl
    (sym (is_in-append (tree_names t.root t.branches) (forest_names ts) n) ∙ has) (held_by ts n)
  where
    by : (b : Bool) → is_in (tree_names t.root t.branches) n ≡ b
        → (is_in (tree_names t.root t.branches) n || is_in (forest_names ts) n) ≡ true
        → (is_in (forest_names ts) n ≡ true → IsHeld ts n) → IsHeld (t ∷ ts) n
    by true e either rest = record { before = []; tree = t; after = ts; there = refl; has = e }
    by false e either rest =
        let held = rest (sym (ap (λ b. b || is_in (forest_names ts) n) e) ∙ either) in
        record {
          before = t ∷ held.before;
          tree = held.tree;
          after = held.after;
          there = ap (λ l. t ∷ l) held.there;
          has = held.has;
        }

-- no other link ends under a tree
pub rest_beside : (p : Problem) (nodes : List Node) (trees : List (TreeOf Link)) (rest : List Link) (unmatched waiting : List ℕ) (r : ℕ)
    → IsForest p nodes trees rest unmatched waiting r
    → All
    (λ l. ((name : ℕ) → cover_of nodes l.from ≡ Some name → is_in (forest_names trees) name ≡ false)
    × ((name : ℕ) → cover_of nodes l.to ≡ Some name → is_in (forest_names trees) name ≡ false)) rest
rest_beside p nodes trees rest unmatched waiting r state i d less = (
  λ name cover. false_from_ne_true (is_in (forest_names trees) name) (λ among. (by name (held_by trees name among)).0 cover),
  λ name cover. false_from_ne_true (is_in (forest_names trees) name) (λ among. (by name (held_by trees name among)).1 cover),
)
  where
    by : (name : ℕ) → IsHeld trees name
        → (cover_of nodes (get_or rest i d).from ≡ Some name → ⊥) × (cover_of nodes (get_or rest i d).to ≡ Some name → ⊥)
    by name held =
        let moved : IsForest p nodes (held.before ++ held.tree ∷ held.after) rest unmatched waiting r =
        subst (λ ts. IsForest p nodes ts rest unmatched waiting r) held.there state in
        let search = forest_tree p nodes held.before held.after held.tree rest unmatched waiting r moved in
        let away =
        All-right
        (λ l. ((n : ℕ) → cover_of nodes l.from ≡ Some n → is_in (tree_names held.tree.root held.tree.branches) n ≡ false)
        × ((n : ℕ) → cover_of nodes l.to ≡ Some n → is_in (tree_names held.tree.root held.tree.branches) n ≡ false))
        (forest_paired (held.before ++ held.after)) rest
        (outside p nodes held.tree.branches (forest_paired (held.before ++ held.after) ++ rest) unmatched held.tree.root r search) in (
          λ cover.
              both_ways (is_in (tree_names held.tree.root held.tree.branches) name) ((away i d less).0 name cover) held.has,
          λ cover.
              both_ways (is_in (tree_names held.tree.root held.tree.branches) name) ((away i d less).1 name cover) held.has,
        )

-- trees of a forest, whatever is matched beside them
pub record AreTrees (p : Problem) (nodes : List Node) (trees : List (TreeOf Link)) (r : ℕ) : Type 0 where
  pub outer : All (λ t. IsOuterNode nodes t.root) trees
  pub names : AreDistinct (forest_names trees)
  pub joined : All (λ t. IsTree nodes t.root t.branches) trees
  pub grown : AreMatchedLinks p nodes (forest_grown trees)
  pub parity : HaveParity (is_in (forest_names trees)) nodes r

-- those beside one tree
pub trees_beside : (p : Problem) (nodes : List Node) (before after : List (TreeOf Link)) (t : TreeOf Link) (rest : List Link)
    (unmatched waiting : List ℕ) (r : ℕ) → IsForest p nodes (before ++ t ∷ after) rest unmatched waiting r
    → AreTrees p nodes (before ++ after) r
trees_beside p nodes before after t rest unmatched waiting r state = record {
  outer = (all_mid (λ s. IsOuterNode nodes s.root) before after t state.outer).1;
  names =
      distinct_right (tree_names t.root t.branches) (forest_names (before ++ after))
      (distinct_permuted (forest_names (before ++ t ∷ after)) (tree_names t.root t.branches ++ forest_names (before ++ after))
      (names_first before after t) state.names);
  joined = (all_mid (λ s. IsTree nodes s.root s.branches) before after t state.joined).1;
  grown =
      (links_kept p nodes (forest_grown (before ++ t ∷ after)) (grown_links t.branches) (forest_grown (before ++ after))
      (each_first (λ s. grown_links s.branches) before after t) state.grown).1;
  parity = λ d name leaf cover among.
      state.parity d name leaf cover
      (sym
      (same_permuted (forest_names (before ++ t ∷ after)) (tree_names t.root t.branches ++ forest_names (before ++ after))
      (names_first before after t) name)
      ∙ is_in-right (tree_names t.root t.branches) (forest_names (before ++ after)) name among);
}

-- what is in a tree is in none of those beside it
pub tree_apart : (p : Problem) (nodes : List Node) (before after : List (TreeOf Link)) (t : TreeOf Link) (rest : List Link)
    (unmatched waiting : List ℕ) (r : ℕ) → IsForest p nodes (before ++ t ∷ after) rest unmatched waiting r
    → (n : ℕ) → is_in (tree_names t.root t.branches) n ≡ true → is_in (forest_names (before ++ after)) n ≡ false
tree_apart p nodes before after t rest unmatched waiting r state n within =
    distinct_across (tree_names t.root t.branches) (forest_names (before ++ after)) n
    (distinct_permuted (forest_names (before ++ t ∷ after)) (tree_names t.root t.branches ++ forest_names (before ++ after))
    (names_first before after t) state.names)
    within

-- Nodes that wait are in none of these trees, and their potentials are even.
pub record AreWaiting (nodes : List Node) (trees : List (TreeOf Link)) (waiting : List ℕ) : Type 0 where
  pub apart : (n : ℕ) → is_in waiting n ≡ true → is_in (forest_names trees) n ≡ false
  pub even : HaveParity (is_in waiting) nodes 0

-- they are in none of the trees beside one
pub waiting_beside : (p : Problem) (nodes : List Node) (before after : List (TreeOf Link)) (t : TreeOf Link) (rest : List Link)
    (unmatched waiting : List ℕ) (r : ℕ) → IsForest p nodes (before ++ t ∷ after) rest unmatched waiting r
    → AreWaiting nodes (before ++ after) waiting
waiting_beside p nodes before after t rest unmatched waiting r state = record {
  apart = λ n waits.
      false_from_ne_true (is_in (forest_names (before ++ after)) n)
      (λ there.
      both_ways (is_in (forest_names (before ++ t ∷ after)) n) (state.apart n waits)
      (sym
      (same_permuted (forest_names (before ++ t ∷ after)) (tree_names t.root t.branches ++ forest_names (before ++ after))
      (names_first before after t) n)
      ∙ is_in-right (tree_names t.root t.branches) (forest_names (before ++ after)) n there));
  even = state.even;
}

-- no root waits
pub root_not_waiting : (p : Problem) (nodes : List Node) (before after : List (TreeOf Link)) (t : TreeOf Link) (rest : List Link)
    (unmatched waiting : List ℕ) (r : ℕ) → IsForest p nodes (before ++ t ∷ after) rest unmatched waiting r
    → is_in waiting t.root ≡ false
root_not_waiting p nodes before after t rest unmatched waiting r state =
    false_from_ne_true (is_in waiting t.root)
    (λ waits.
    both_ways (is_in (forest_names (before ++ t ∷ after)) t.root) (state.apart t.root waits)
    (in_forest before after t t.root (plus_in_tree t.root t.branches t.root (root_plus t.root t.branches))))

-- of the nodes in the tree of a search the root alone is unmatched
pub waiting_outside : (p : Problem) (nodes : List Node) (tree : List Entry) (rest : List Link) (unmatched waiting : List ℕ) (root r : ℕ)
    → IsSearch p nodes tree rest unmatched root r → ((n : ℕ) → is_in waiting n ≡ true → is_in unmatched n ≡ true)
    → is_in waiting root ≡ false → (n : ℕ) → is_in waiting n ≡ true → is_in (tree_names root tree) n ≡ false
waiting_outside p nodes tree rest unmatched waiting root r search within grows n waits =
    unmatched_outside p nodes tree rest unmatched root r search n
    (is_in-filter (λ m. not (m == root)) unmatched n
    ∙ and_from (is_in unmatched n) (not (n == root)) (within n waits)
    (not_from_false (n == root)
    (ne_eqb n root (λ same. both_ways (is_in waiting root) grows (ap (is_in waiting) (sym same) ∙ waits)))))

-- the tree of a search put among trees
pub forest_put : (p : Problem) (nodes : List Node) (before after : List (TreeOf Link)) (t : TreeOf Link) (rest : List Link)
    (unmatched waiting : List ℕ) (r : ℕ) → AreTrees p nodes (before ++ after) r → AreWaiting nodes (before ++ after) waiting
    → is_in waiting t.root ≡ false
    → IsSearch p nodes t.branches (forest_paired (before ++ after) ++ rest) unmatched t.root r
    → ((n : ℕ) → is_in (tree_names t.root t.branches) n ≡ true → is_in (forest_names (before ++ after)) n ≡ false)
    → ((n : ℕ) → is_in unmatched n ≡ is_in (forest_roots (before ++ t ∷ after) ++ waiting) n)
    → IsForest p nodes (before ++ t ∷ after) rest unmatched waiting r
forest_put p nodes before after t rest unmatched waiting r beside waits grows found apart roots = record {
  matching =
      matching_permuted p nodes (paired_links t.branches ++ (forest_paired (before ++ after) ++ rest))
      (forest_paired (before ++ t ∷ after) ++ rest) unmatched
      (IsPermutation-sym (forest_paired (before ++ t ∷ after) ++ rest)
      (paired_links t.branches ++ (forest_paired (before ++ after) ++ rest)) (paired_first before after t rest))
      found.matching;
  outer = all_back (λ s. IsOuterNode nodes s.root) before after t found.root_is beside.outer;
  roots = roots;
  apart = λ n waiting_n.
      sym
      (same_permuted (forest_names (before ++ t ∷ after)) (tree_names t.root t.branches ++ forest_names (before ++ after))
      (names_first before after t) n)
      ∙ (is_in-append (tree_names t.root t.branches) (forest_names (before ++ after)) n
      ∙ or_from (is_in (tree_names t.root t.branches) n) (is_in (forest_names (before ++ after)) n)
      (waiting_outside p nodes t.branches (forest_paired (before ++ after) ++ rest) unmatched waiting t.root r found
      (λ m waits_m. roots m ∙ is_in-right (forest_roots (before ++ t ∷ after)) waiting m waits_m) grows n waiting_n)
      (waits.apart n waiting_n));
  even = waits.even;
  names =
      distinct_permuted (tree_names t.root t.branches ++ forest_names (before ++ after)) (forest_names (before ++ t ∷ after))
      (IsPermutation-sym (forest_names (before ++ t ∷ after)) (tree_names t.root t.branches ++ forest_names (before ++ after))
      (names_first before after t))
      (distinct_append (tree_names t.root t.branches) (forest_names (before ++ after)) found.names beside.names apart);
  joined = all_back (λ s. IsTree nodes s.root s.branches) before after t found.joined beside.joined;
  grown =
      links_both p nodes (forest_grown (before ++ t ∷ after)) (grown_links t.branches) (forest_grown (before ++ after))
      (IsPermutation-sym (forest_grown (before ++ t ∷ after)) (grown_links t.branches ++ forest_grown (before ++ after))
      (each_first (λ s. grown_links s.branches) before after t))
      found.grown beside.grown;
  parity = λ d name leaf cover among.
      by d name leaf cover
      (is_in-both (tree_names t.root t.branches) (forest_names (before ++ after)) name
      (same_permuted (forest_names (before ++ t ∷ after)) (tree_names t.root t.branches ++ forest_names (before ++ after))
      (names_first before after t) name
      ∙ among));
}
  where
    by : (d name : ℕ) → is_in (leaves nodes) d ≡ true → cover_of nodes d ≡ Some name
        → (is_in (tree_names t.root t.branches) name ≡ true) ⊎ (is_in (forest_names (before ++ after)) name ≡ true)
        → height_of (all_cuts nodes) d % 2 ≡ r
    by d name leaf cover (inl here) = found.parity d name leaf cover here
    by d name leaf cover (inr there) = beside.parity d name leaf cover there

-- the forest with other branches of one tree, as a search has them
forest_with : (p : Problem) (nodes : List Node) (before after : List (TreeOf Link)) (t : TreeOf Link) (branches : List Entry)
    (first rest : List Link) (unmatched waiting : List ℕ) (r : ℕ) → IsForest p nodes (before ++ t ∷ after) first unmatched waiting r
    → IsSearch p nodes branches (forest_paired (before ++ after) ++ rest) unmatched t.root r
    → ((n : ℕ) → is_in (tree_names t.root branches) n ≡ true → is_in (forest_names (before ++ after)) n ≡ false)
    → IsForest p nodes (before ++ record { root = t.root; branches = branches } ∷ after) rest unmatched waiting r
forest_with p nodes before after t branches first rest unmatched waiting r state found apart =
    forest_put p nodes before after (record { root = t.root; branches = branches }) rest unmatched waiting r
    (trees_beside p nodes before after t first unmatched waiting r state)
    (waiting_beside p nodes before after t first unmatched waiting r state)
    (root_not_waiting p nodes before after t first unmatched waiting r state) found apart
    (λ n. state.roots n ∙ ap (λ l. is_in (l ++ waiting) n) (same_roots before))
  where
    same_roots : (trees : List (TreeOf Link))
        → forest_roots (trees ++ t ∷ after) ≡ forest_roots (trees ++ record { root = t.root; branches = branches } ∷ after)
    same_roots [] = refl
    same_roots (s ∷ trees) = ap (λ l. s.root ∷ l) (same_roots trees)

pub forest_attached : ForestAttached
forest_attached p nodes before after t e rest unmatched waiting r even state parent tree matched links =
    forest_with p nodes before after t (e ∷ t.branches) (e.matched ∷ rest) rest unmatched waiting r state
    (search_attached p nodes t.branches e (forest_paired (before ++ after) ++ rest) unmatched t.root r even
    (search_permuted p nodes t.branches (forest_paired (before ++ after) ++ e.matched ∷ rest)
    (e.matched ∷ (forest_paired (before ++ after) ++ rest)) unmatched t.root r
    (IsPermutation-middle (forest_paired (before ++ after)) e.matched rest)
    (forest_tree p nodes before after t (e.matched ∷ rest) unmatched waiting r state))
    parent tree matched links)
    (λ n within. apart n (is_in-cases e.minus (e.plus ∷ tree_names t.root t.branches) n within))
  where
    away : ((name : ℕ) → cover_of nodes e.matched.from ≡ Some name → is_in (forest_names (before ++ t ∷ after)) name ≡ false)
        × ((name : ℕ) → cover_of nodes e.matched.to ≡ Some name → is_in (forest_names (before ++ t ∷ after)) name ≡ false)
    away =
        All-head
        (λ l. ((name : ℕ) → cover_of nodes l.from ≡ Some name → is_in (forest_names (before ++ t ∷ after)) name ≡ false)
        × ((name : ℕ) → cover_of nodes l.to ≡ Some name → is_in (forest_names (before ++ t ∷ after)) name ≡ false)) e.matched rest
        (rest_beside p nodes (before ++ t ∷ after) (e.matched ∷ rest) unmatched waiting r state)

    others : (n : ℕ) → is_in (forest_names (before ++ t ∷ after)) n ≡ false → is_in (forest_names (before ++ after)) n ≡ false
    others n out =
        false_from_ne_true (is_in (forest_names (before ++ after)) n)
        (λ there.
        both_ways (is_in (forest_names (before ++ t ∷ after)) n) out
        (sym
        (same_permuted (forest_names (before ++ t ∷ after)) (tree_names t.root t.branches ++ forest_names (before ++ after))
        (names_first before after t) n)
        ∙ is_in-right (tree_names t.root t.branches) (forest_names (before ++ after)) n there))

    new : (a b : ℕ) → Connects nodes e.matched a b → is_in (forest_names (before ++ after)) a ≡ false
    new a b (inl (from, to)) = others a (away.0 a from)
    new a b (inr (to, from)) = others a (away.1 a to)

    apart : (n : ℕ) → (e.minus ≡ n) ⊎ (is_in (e.plus ∷ tree_names t.root t.branches) n ≡ true)
        → is_in (forest_names (before ++ after)) n ≡ false
    apart n (inl same) = ap (is_in (forest_names (before ++ after))) (sym same) ∙ new e.minus e.plus matched
    apart n (inr there) = later (is_in-cases e.plus (tree_names t.root t.branches) n there)
      where
        later : (e.plus ≡ n) ⊎ (is_in (tree_names t.root t.branches) n ≡ true) → is_in (forest_names (before ++ after)) n ≡ false
        later (inl same) =
            ap (is_in (forest_names (before ++ after))) (sym same)
            ∙ new e.plus e.minus (connects_sym nodes e.matched e.minus e.plus matched)
        later (inr here) = tree_apart p nodes before after t (e.matched ∷ rest) unmatched waiting r state n here
