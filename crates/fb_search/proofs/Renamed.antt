-- The names of a tree after some of its nodes are joined: the new node's name in the place of theirs.
use Rattle.std.proofs.Common.{ℕ, ◌≡◌, ◌≢◌, ◌⊎◌, inl, inr, not, cond, Bool, true, false, List, [], ◌∷◌, ◌++◌, map, All, Some, refl, sym, ap, ◌∙◌, subst, append_assoc}
use Rattle.std.specs.List.Sorted.{IsPermutation}
use Rattle.std.proofs.lemmas.Bool.{both_ways, false≢true}
use Rattle.std.proofs.lemmas.List.Elements.{All-head, All-tail}
use Rattle.std.proofs.lemmas.List.Sorted.{IsPermutation-append_comm, IsPermutation-append_left, IsPermutation-trans}
use Rattle.fb_graph.specs.Parity.{is_in}
use Rattle.fb_graph.specs.Problem.{Problem}
use Rattle.fb_graph.specs.Laws.{Link}
use Rattle.fb_graph.specs.Dual.{AreOuterApart, Node, cover_of, is_outer}
use Rattle.fb_graph.specs.Moves.{blossom, joined_nodes}
use Rattle.fb_graph.specs.Nests.{IsNest}
use Rattle.fb_graph.proofs.Among.{IsAmong, among_either, among_left, among_outer, cover_among, covered_by, outer_among}
use Rattle.fb_graph.proofs.Sets.{is_in-cases, is_in-head, is_in-tail}
use Rattle.fb_laws.specs.Forming.{Child, names_of}
use Rattle.fb_laws.specs.PartStates.{SearchState}
use Rattle.fb_laws.specs.SearchBlossoms.{IsJoining, child_at, joined_tree, outer_branches, renamed_name, renamed_entry}
use Rattle.fb_laws.specs.Searches.{IsSearch}
use Rattle.fb_laws.specs.StateBlossoms.{MayClose}
use Rattle.fb_laws.specs.TreeCycles.{ArePaths, cycle_nodes, last_plus, nodes_along}
use Rattle.fb_laws.specs.Trees.{Entry, EntryOf, plus_names, tree_names}
use Rattle.fb_laws.proofs.JoinedTrees.{distinct_kept, names_kept, new_in, new_out, plus_kept}
use Rattle.fb_laws.proofs.SearchTrees.{plus_in_tree}
use Rattle.fb_laws.proofs.StateBlossoms.{child_in_tree, ring_joining}
use Rattle.fb_laws.proofs.TreeCycles.{names_at}
use Rattle.fb_search.proofs.Cycles.{cycle_from}
use Rattle.fb_search.proofs.Matched.{IsRenamed}

-- a node that is not joined stays in the tree
kept_names : (joins : ℕ → Bool) (name root : ℕ) (tree : List Entry)
    → All (λ e. joins e.minus ≡ true → (joins e.parent ≡ true) × (joins e.plus ≡ true)) tree
    → (n : ℕ) → is_in (tree_names root tree) n ≡ true → joins n ≡ false
    → is_in (tree_names (renamed_name joins name root) (joined_tree joins name tree)) n ≡ true
kept_names joins name root [] inner n there out = by (is_in-cases root [] n there)
  where
    by : (root ≡ n) ⊎ (is_in [] n ≡ true) → is_in (renamed_name joins name root ∷ []) n ≡ true
    by (inl same) =
        subst (λ m. is_in (renamed_name joins name root ∷ []) m ≡ true) (ap (renamed_name joins name) same ∙ new_out joins name 0 0 n out)
        (is_in-head (renamed_name joins name root) [])
    by (inr none) = absurd (false≢true none)
kept_names joins name root (e ∷ es) inner n there out =
    put (joins e.minus) refl
    (kept_names joins name root es
    (All-tail (λ x. joins x.minus ≡ true → (joins x.parent ≡ true) × (joins x.plus ≡ true)) e es inner) n)
  where
    first : joins e.minus ≡ true → (joins e.parent ≡ true) × (joins e.plus ≡ true)
    first = All-head (λ x. joins x.minus ≡ true → (joins x.parent ≡ true) × (joins x.plus ≡ true)) e es inner

    rest : List ℕ
    rest = tree_names (renamed_name joins name root) (joined_tree joins name es)

    put : (b : Bool) → joins e.minus ≡ b
        → (is_in (tree_names root es) n ≡ true → joins n ≡ false
        → is_in (tree_names (renamed_name joins name root) (joined_tree joins name es)) n ≡ true)
        → is_in
        (tree_names (renamed_name joins name root)
        (map (renamed_entry joins name) (cond (not b) (e ∷ outer_branches joins es) (outer_branches joins es)))) n
        ≡ true
    put true h later = minus (is_in-cases e.minus (e.plus ∷ tree_names root es) n there)
      where
        plus : (e.plus ≡ n) ⊎ (is_in (tree_names root es) n ≡ true)
            → is_in (tree_names (renamed_name joins name root) (joined_tree joins name es)) n ≡ true
        plus (inl same) = absurd (both_ways (joins n) out (ap joins (sym same) ∙ (first h).1))
        plus (inr older) = later older out

        minus : (e.minus ≡ n) ⊎ (is_in (e.plus ∷ tree_names root es) n ≡ true)
            → is_in (tree_names (renamed_name joins name root) (joined_tree joins name es)) n ≡ true
        minus (inl same) = absurd (both_ways (joins n) out (ap joins (sym same) ∙ h))
        minus (inr more) = plus (is_in-cases e.plus (tree_names root es) n more)
    put false h later = minus (is_in-cases e.minus (e.plus ∷ tree_names root es) n there)
      where
        plus : (e.plus ≡ n) ⊎ (is_in (tree_names root es) n ≡ true)
            → is_in (renamed_name joins name e.plus ∷ tree_names (renamed_name joins name root) (joined_tree joins name es)) n ≡ true
        plus (inl same) =
            subst
            (λ m.
            is_in (renamed_name joins name e.plus ∷ tree_names (renamed_name joins name root) (joined_tree joins name es)) m ≡ true)
            (ap (renamed_name joins name) same ∙ new_out joins name 0 0 n out)
            (is_in-head (renamed_name joins name e.plus) (tree_names (renamed_name joins name root) (joined_tree joins name es)))
        plus (inr older) =
            is_in-tail (renamed_name joins name e.plus) (tree_names (renamed_name joins name root) (joined_tree joins name es)) n
            (later older out)

        minus : (e.minus ≡ n) ⊎ (is_in (e.plus ∷ tree_names root es) n ≡ true)
            → is_in
            (e.minus ∷ renamed_name joins name e.plus ∷ tree_names (renamed_name joins name root) (joined_tree joins name es)) n
            ≡ true
        minus (inl same) =
            subst
            (λ m.
            is_in
            (e.minus ∷ renamed_name joins name e.plus ∷ tree_names (renamed_name joins name root) (joined_tree joins name es)) m
            ≡ true)
            same
            (is_in-head e.minus
            (renamed_name joins name e.plus ∷ tree_names (renamed_name joins name root) (joined_tree joins name es)))
        minus (inr more) =
            is_in-tail e.minus
            (renamed_name joins name e.plus ∷ tree_names (renamed_name joins name root) (joined_tree joins name es)) n
            (plus (is_in-cases e.plus (tree_names root es) n more))

pub tree_renamed : (p : Problem) (nodes : List Node) (tree : List Entry) (rest : List Link) (unmatched : List ℕ)
    (root r name : ℕ) (base : Child) (others : List Child) → IsJoining nodes tree root name base others
    → IsSearch p nodes tree rest unmatched root r → is_in (tree_names root tree) name ≡ false
    → IsRenamed (names_of (base ∷ others)) (tree_names root tree)
    (tree_names (renamed_name (is_in (names_of (base ∷ others))) name root)
    (joined_tree (is_in (names_of (base ∷ others))) name tree)) name
tree_renamed p nodes tree rest unmatched root r name base others joining search fresh = record {
  distinct = distinct_kept joins name base.name root tree joining.branches search.names fresh;
  made =
      plus_in_tree (renamed_name joins name root) (joined_tree joins name tree) name
      (subst (λ m. is_in (plus_names (renamed_name joins name root) (joined_tree joins name tree)) m ≡ true)
      (new_in joins name base.name root base.name (is_in-head base.name (names_of others)))
      (plus_kept joins name base.name root nodes tree search.joined joining.branches base.name joining.plus));
  from = λ n there differ. before n differ (names_kept joins name base.name root tree joining.branches n there);
  kept = λ n there out. kept_names joins name root tree joining.branches.inner n there out;
}
  where
    joins : ℕ → Bool
    joins = is_in (names_of (base ∷ others))

    before : (n : ℕ) → n ≢ name
        → ((is_in (tree_names root tree) n ≡ true) × (is_in (names_of (base ∷ others)) n ≡ false))
        ⊎ ((n ≡ name) × (is_in (tree_names root tree) base.name ≡ true))
        → (is_in (tree_names root tree) n ≡ true) × (is_in (names_of (base ∷ others)) n ≡ false)
    before n differ (inl is) = is
    before n differ (inr (same, among)) = absurd (differ same)

-- so for a cycle that a link closes, whose nodes are all in the tree
pub closed_renamed : (p : Problem) (s : SearchState) (name a b : ℕ) (closing : Link) (shared up down : List Entry)
    → MayClose p s name a b closing → ArePaths s.tree a b shared up down → (rest : List Link) → IsNest p s.nodes
    → IsSearch p s.nodes s.tree rest s.unmatched s.root s.parity
    → is_in (tree_names s.root s.tree) name ≡ false
    → IsRenamed (cycle_from s.root shared up down) (tree_names s.root s.tree)
    (tree_names (renamed_name (is_in (cycle_from s.root shared up down)) name s.root)
    (joined_tree (is_in (cycle_from s.root shared up down)) name s.tree)) name
closed_renamed p s name a b closing shared up down may paths rest nest search fresh =
    subst
    (λ names.
    IsRenamed (last_plus s.root shared ∷ names) (tree_names s.root s.tree)
    (tree_names (renamed_name (is_in (last_plus s.root shared ∷ names)) name s.root)
    (joined_tree (is_in (last_plus s.root shared ∷ names)) name s.tree)) name)
    (names_at s.nodes (cycle_nodes up down))
    (tree_renamed p s.nodes s.tree rest s.unmatched s.root s.parity name
    (child_at s.nodes (last_plus s.root shared)) (map (child_at s.nodes) (cycle_nodes up down))
    (ring_joining p s name a b closing shared up down may paths rest nest search) search fresh)

pub closed_within : (p : Problem) (s : SearchState) (name a b : ℕ) (closing : Link) (shared up down : List Entry)
    → MayClose p s name a b closing → ArePaths s.tree a b shared up down → (rest : List Link) → IsNest p s.nodes
    → IsSearch p s.nodes s.tree rest s.unmatched s.root s.parity
    → (n : ℕ) → is_in (cycle_from s.root shared up down) n ≡ true
    → is_in (tree_names s.root s.tree) n ≡ true
closed_within p s name a b closing shared up down may paths rest nest search n within =
    child_in_tree s.root s.tree
    (child_at s.nodes (last_plus s.root shared) ∷ map (child_at s.nodes) (cycle_nodes up down))
    (ring_joining p s name a b closing shared up down may paths rest nest search).in_tree n
    (subst (λ names. is_in (last_plus s.root shared ∷ names) n ≡ true)
    (sym (names_at s.nodes (cycle_nodes up down))) within)

pub along_names : {L : Type 0} (root : ℕ) (tree : List (EntryOf L)) → tree_names root tree ≡ nodes_along tree ++ root ∷ []
along_names root [] = refl
along_names root (e ∷ es) = ap (λ l. e.minus ∷ e.plus ∷ l) (along_names root es)

-- what a matching lists, with a tree whose root it lists as unmatched: the others, and the tree's nodes
pub tree_listed : {L : Type 0} (unmatched beside matched : List ℕ) (root : ℕ) (tree : List (EntryOf L))
    → IsPermutation unmatched (root ∷ beside)
    → IsPermutation ((unmatched ++ matched) ++ nodes_along tree) ((beside ++ matched) ++ tree_names root tree)
tree_listed unmatched beside matched root tree moved =
    subst (λ l. IsPermutation ((unmatched ++ matched) ++ nodes_along tree) ((beside ++ matched) ++ l))
    (sym (along_names root tree))
    (IsPermutation-trans ((unmatched ++ matched) ++ nodes_along tree) (((root ∷ beside) ++ matched) ++ nodes_along tree)
    ((beside ++ matched) ++ (nodes_along tree ++ root ∷ []))
    (IsPermutation-append_left (nodes_along tree) (unmatched ++ matched) ((root ∷ beside) ++ matched)
    (IsPermutation-append_left matched unmatched (root ∷ beside) moved))
    (subst (IsPermutation (root ∷ ((beside ++ matched) ++ nodes_along tree)))
    (append_assoc (beside ++ matched) (nodes_along tree) (root ∷ []))
    (IsPermutation-append_comm (root ∷ []) ((beside ++ matched) ++ nodes_along tree))))

-- the node over a vertex stays where it is not joined
pub cover_joined : (nodes : List Node) (name : ℕ) (children : List ℕ) → AreOuterApart (joined_nodes name children nodes)
    → (v n : ℕ) → cover_of nodes v ≡ Some n → is_in children n ≡ false → cover_of (joined_nodes name children nodes) v ≡ Some n
cover_joined nodes name children apart v n cover out =
    let over = cover_among nodes v n cover in
    covered_by (joined_nodes name children nodes) v apart over.node
    (among_left nodes (blossom name children nodes ∷ []) over.node over.among)
    (among_outer (joined_nodes name children nodes) over.node.name
    (λ r b.
    still r over.node.name over.outer (ap (is_in children) over.named ∙ out)
    (among_either nodes (blossom name children nodes ∷ []) r b)))
    over.holds
    ∙ ap Some over.named
  where
    still : (r : Node) (m : ℕ) → is_outer nodes m ≡ true → is_in children m ≡ false
        → IsAmong r nodes ⊎ IsAmong r (blossom name children nodes ∷ []) → is_in r.children m ≡ false
    still r m outer free (inl b) = outer_among nodes m outer r b
    still r m outer free (inr (inl e)) = ap (λ (x : Node). is_in x.children m) (sym e) ∙ free
    still r m outer free (inr (inr b)) = absurd b
