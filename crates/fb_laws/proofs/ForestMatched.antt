-- One of several trees that meets a node that waits: this begins a tree of its own, and the two trees are matched.
use Rattle.std.proofs.Common.{ℕ, ◌≡◌, ◌==◌, not, Bool, true, false, cond, List, [], ◌∷◌, ◌++◌, refl, ap, ◌∙◌, subst, append_assoc}
use Rattle.std.proofs.lemmas.List.Sorted.{IsPermutation-append_left, IsPermutation-cons, IsPermutation-middle, IsPermutation-to_front, IsPermutation-trans}
use Rattle.std.specs.List.Sorted.{IsPermutation}
use Rattle.fb_graph.specs.Parity.{is_in}
use Rattle.fb_graph.specs.Problem.{Problem}
use Rattle.fb_graph.specs.Laws.{Link}
use Rattle.fb_graph.specs.Links.{AreEven}
use Rattle.fb_graph.proofs.Floods.{is_in-left, is_in-right}
use Rattle.fb_graph.proofs.Sets.{is_in-head}
use Rattle.fb_laws.specs.Forests.{AnyTree, bare_tree, forest_plus}
use Rattle.fb_laws.specs.ForestMoves.{ForestStateMatched, IsFewer, met_forest}
use Rattle.fb_laws.specs.ForestStates.{ForestState, IsForestState, among_trees, tree_of, with_trees}
use Rattle.fb_laws.specs.PartStates.{SearchState}
use Rattle.fb_laws.specs.StateMoves.{LeavesTree}
use Rattle.fb_laws.specs.Trees.{Connects, branches_beside, grown_links, paired_links, path_to, plus_names}
use Rattle.fb_laws.specs.Works.{names_without}
use Rattle.fb_laws.proofs.ForestMoves.{forest_state_met, forest_state_woken}
use Rattle.fb_laws.proofs.ForestStates.{each_append}

-- Of two names either may be taken away first.
names_swapped : (a b : ℕ) (names : List ℕ) → names_without a (names_without b names) ≡ names_without b (names_without a names)
names_swapped a b [] = refl
names_swapped a b (x ∷ xs) = step (not (x == a)) (not (x == b)) refl refl (names_swapped a b xs)
  where
    step : (s t : Bool) → not (x == a) ≡ s → not (x == b) ≡ t
        → names_without a (names_without b xs) ≡ names_without b (names_without a xs)
        → names_without a (cond t (x ∷ names_without b xs) (names_without b xs))
        ≡ names_without b (cond s (x ∷ names_without a xs) (names_without a xs))
    step true true at_a at_b ih = rw (at_a, at_b) (ap (λ l. x ∷ l) ih)
    step true false at_a at_b ih = rw at_b ih
    step false true at_a at_b ih = rw at_a ih
    step false false at_a at_b ih = ih

-- one of the trees first, then the last one
tree_and_last : (before after : List AnyTree) (t u : AnyTree)
    → IsPermutation ((before ++ t ∷ after) ++ u ∷ []) (t ∷ u ∷ (before ++ after))
tree_and_last before after t u =
    IsPermutation-trans ((before ++ t ∷ after) ++ u ∷ []) (t ∷ ((before ++ after) ++ u ∷ [])) (t ∷ u ∷ (before ++ after))
    (IsPermutation-append_left (u ∷ []) (before ++ t ∷ after) (t ∷ (before ++ after)) (IsPermutation-middle before t after))
    (IsPermutation-cons t ((before ++ after) ++ u ∷ []) (u ∷ (before ++ after)) (IsPermutation-to_front (before ++ after) u))

-- a plus node of one tree is a plus node of the forest
plus_among : (before after : List AnyTree) (t : AnyTree) (n : ℕ) → is_in (plus_names t.root t.branches) n ≡ true
    → is_in (forest_plus (before ++ t ∷ after)) n ≡ true
plus_among before after t n plus =
    ap (λ l. is_in l n) (each_append (λ u. plus_names u.root u.branches) before (t ∷ after))
    ∙ is_in-right (forest_plus before) (forest_plus (t ∷ after)) n
    (is_in-left (plus_names t.root t.branches) (forest_plus after) n plus)

module _ (p : Problem) (before after : List AnyTree) (waiting others : List ℕ) (s : SearchState) (name other : ℕ) (out : Link)
    (even : AreEven p) (leaves : LeavesTree p s name out) (connects : Connects s.nodes out name other)
    (moved : IsPermutation waiting (other ∷ others)) (state : IsForestState p (among_trees before after waiting s)) where
  abbrev start : ForestState
  start = among_trees before after waiting s

  -- the other node has begun a tree
  abbrev woken : ForestState
  woken = record start { trees = start.trees ++ bare_tree other ∷ []; waiting = others }

  -- the other trees stay, with these matched links and unmatched nodes
  abbrev left_with : List Link → List ℕ → ForestState
  left_with links unmatched =
      with_trees (before ++ after) others s.parity
      (record { nodes = s.nodes; cycles = s.cycles; matches = links; unmatched = unmatched })

  met : IsFewer p woken (met_forest (tree_of s) name out (bare_tree other) other (before ++ after) woken)
  met =
      forest_state_met p woken (tree_of s) (bare_tree other) (before ++ after) name other out
      (tree_and_last before after (tree_of s) (bare_tree other)) leaves.plus (is_in-head other []) leaves.tight connects
      (forest_state_woken p start others name other out even moved (plus_among before after (tree_of s) name leaves.plus)
      leaves.tight connects state)

  matched : IsFewer p start
      (left_with (grown_links (path_to s.tree name) ++ out ∷ (paired_links (branches_beside s.tree name) ++ s.rest))
      (names_without other (names_without s.root s.unmatched)))
  matched =
      subst (λ l. IsFewer p start (left_with l (names_without other (names_without s.root s.unmatched))))
      (append_assoc (grown_links (path_to s.tree name)) (out ∷ paired_links (branches_beside s.tree name)) s.rest)
      (subst
      (λ l. IsFewer p start
      (left_with ((grown_links (path_to s.tree name) ++ out ∷ paired_links (branches_beside s.tree name)) ++ s.rest) l))
      (names_swapped s.root other s.unmatched) (record { state = met.state; fewer = met.fewer }))

pub forest_state_matched : ForestStateMatched
forest_state_matched = matched
