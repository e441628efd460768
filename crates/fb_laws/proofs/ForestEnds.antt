-- Trees of a forest that meet, or reach the boundary, are dissolved.
use Rattle.std.proofs.Common.{ℕ, ◌≡◌, ◌+◌, ◌<◌, ◌==◌, length, ◌&&◌, ◌||◌, ◌⊎◌, inl, inr, not, Bool, true, false, List, [], ◌∷◌, ◌++◌, All, Some, get_or, refl, sym, ap, ◌∙◌, subst, append_assoc, arith}
use Rattle.std.proofs.lemmas.Bool.{both_ways, and_from, cases_Bool, eqb-true, false≢true, false_from_ne_true, ne_eqb, not_from_false, or_cases, or_from, or_parts}
use Rattle.std.proofs.lemmas.List.Elements.{All-cons, All-from_get_or, All-tail}
use Rattle.std.proofs.lemmas.List.Sorted.{IsPermutation-append_comm, IsPermutation-append_left, IsPermutation-append_right, IsPermutation-middle, IsPermutation-trans}
use Rattle.std.specs.List.Sorted.{IsPermutation}
use Rattle.fb_graph.specs.Counts.{as_count}
use Rattle.fb_graph.specs.Ends.{ends_in}
use Rattle.fb_graph.specs.Parity.{is_in}
use Rattle.fb_graph.specs.Problem.{Problem}
use Rattle.fb_graph.specs.Laws.{Link}
use Rattle.fb_graph.specs.Dual.{Node, cover_of, is_outer, no_node, node_at, top_at}
use Rattle.fb_graph.proofs.EndSums.{ends_append}
use Rattle.fb_graph.proofs.Floods.{is_in-left, is_in-right}
use Rattle.fb_graph.proofs.Members.{is_in-append}
use Rattle.fb_graph.proofs.Sets.{equal_sym, is_in-filter, is_in-head, is_in-tail}
use Rattle.fb_laws.specs.Paths.{AreWholeOnPath, IsPath, matched_links, tip_of, tree_links}
use Rattle.fb_laws.specs.Works.{AreMatchedLinks, IsBranchOf, IsMatching, IsSetOf, names_without}
use Rattle.fb_laws.specs.Trees.{Connects, IsTree, branches_beside, branches_of, grown_links, paired_links, path_to, plus_names, tree_names}
use Rattle.fb_laws.specs.Searches.{IsOuterNode, IsSearch, LeavesNode}
use Rattle.fb_laws.specs.Forests.{ForestDone, ForestEnded, ForestFirst, ForestMet, ForestReleased, IsForest, MatchingRerooted, TreeOf, forest_grown, forest_names, forest_paired, forest_roots, met_links}
use Rattle.fb_laws.proofs.ForestStates.{all_mid, each_first, forest_tree, links_kept, names_first, root_not_waiting, waiting_beside}
use Rattle.fb_laws.proofs.HalvesKept.{matching_permuted}
use Rattle.fb_laws.proofs.MatchedNodes.{matching_augmented, matching_met, matching_released, set_held, set_whole}
use Rattle.fb_laws.proofs.MergedParts.{distinct_across}
use Rattle.fb_laws.proofs.OpenedBlossoms.{distinct_permuted, same_permuted}
use Rattle.fb_laws.proofs.PermutedTrees.{pull}
use Rattle.fb_laws.proofs.PathSums.{path_ends}
use Rattle.fb_laws.proofs.SearchEnds as ends
use Rattle.fb_laws.proofs.SearchStates.{links_joined, named_set, root_set, search_path, unmatched_outside}
use Rattle.fb_laws.proofs.SearchTrees.{branches_matched, branches_tree, cover_set, leads_from, plus_in_tree}
use Rattle.fb_laws.proofs.TreePaths.{distinct_right}
use Rattle.fb_laws.proofs.JoinedThree.{root_plus}

-- matched links and unmatched names, of which only membership counts
pub matching_named : (p : Problem) (nodes : List Node) (links : List Link) (unmatched other : List ℕ)
    → ((n : ℕ) → is_in other n ≡ is_in unmatched n) → IsMatching p nodes links unmatched → IsMatching p nodes links other
matching_named p nodes links unmatched other same matching = record {
  dual = matching.dual;
  defects = matching.defects;
  links_are = matching.links_are;
  matched = λ i d less outer.
      ap (λ b. ends_in (get_or nodes i d).top.vertices links + as_count b) (same (get_or nodes i d).name)
      ∙ matching.matched i d less outer;
  one_parity = matching.one_parity;
}

rerooted : (u here there : Bool) (old new : ℕ) → (here ≡ true → u ≡ true) → old + as_count u ≡ 1
    → new + as_count there ≡ old + as_count here → new + as_count (there || (u && not here)) ≡ 1
rerooted true true true old new h one e = omega arith
rerooted true true false old new h one e = omega arith
rerooted true false true old new h one e = omega arith
rerooted true false false old new h one e = omega arith
rerooted false true there old new h one e = absurd (false≢true (h refl))
rerooted false false true old new h one e = omega arith
rerooted false false false old new h one e = omega arith

pub matching_rerooted : MatchingRerooted
matching_rerooted p nodes name tip root path rest unmatched work is tip_is among branches on links = record {
  dual = work.dual;
  defects = work.defects;
  links_are =
      links_joined p nodes (tree_links path) rest links
      (ends.links_part p nodes (matched_links path ++ rest) rest (matched_links path)
      (IsPermutation-append_comm (matched_links path) rest) work.links_are);
  matched =
      All-from_get_or
      (λ n. is_outer nodes n.name ≡ true
      → ends_in n.top.vertices (tree_links path ++ rest) + as_count (is_in (tip ∷ names_without name unmatched) n.name) ≡ 1)
      nodes no_node
      (λ i less outer.
      ap (λ b. ends_in (node_at nodes i).top.vertices (tree_links path ++ rest) + as_count b)
      (ap (λ b. b || is_in (names_without name unmatched) (node_at nodes i).name) (equal_sym tip (node_at nodes i).name)
      ∙ ap (λ b. ((node_at nodes i).name == tip) || b) (is_in-filter (λ n. not (n == name)) unmatched (node_at nodes i).name))
      ∙ rerooted (is_in unmatched (node_at nodes i).name) ((node_at nodes i).name == name) ((node_at nodes i).name == tip)
      (ends_in (node_at nodes i).top.vertices (matched_links path ++ rest))
      (ends_in (node_at nodes i).top.vertices (tree_links path ++ rest))
      (λ h. ap (is_in unmatched) (eqb-true (node_at nodes i).name name h) ∙ among)
      (work.matched i no_node less outer)
      (omega (
        arith,
        ends_append (node_at nodes i).top.vertices (tree_links path) rest,
        ends_append (node_at nodes i).top.vertices (matched_links path) rest,
        path_ends (node_at nodes i).top.vertices root path on (whole i less outer),
        ap as_count (set_held p nodes name root i work.dual less outer is),
        ap as_count (set_held p nodes tip (tip_of root path) i work.dual less outer tip_is),
      )));
  one_parity = work.one_parity;
}
  where
    whole : (i : ℕ) → i < length nodes → is_outer nodes (node_at nodes i).name ≡ true
        → AreWholeOnPath (node_at nodes i).top.vertices root path
    whole i less outer = (
      set_whole p nodes name root i work.dual less outer is,
      λ j d below.
          let (minus, plus, minus_is, plus_is) = branches j d below in (
            set_whole p nodes minus (get_or path j d).minus i work.dual less outer minus_is,
            set_whole p nodes plus (get_or path j d).plus i work.dual less outer plus_is,
          ),
    )

swap_two : (a b c : Bool) → (a || (b || c)) ≡ (b || (a || c))
swap_two true true c = refl
swap_two true false c = refl
swap_two false true c = refl
swap_two false false c = refl

-- a name that is in both lists or in neither, each followed by one more list
pub with_waiting : (xs ys waiting : List ℕ) (n : ℕ) → is_in xs n ≡ is_in ys n → is_in (xs ++ waiting) n ≡ is_in (ys ++ waiting) n
with_waiting xs ys waiting n same =
    is_in-append xs waiting n ∙ (ap (λ b. b || is_in waiting n) same ∙ sym (is_in-append ys waiting n))

pub forest_first : ForestFirst
forest_first p nodes before after t rest unmatched waiting r state = record {
  matching =
      matching_permuted p nodes (forest_paired (before ++ t ∷ after) ++ rest) (forest_paired (t ∷ (before ++ after)) ++ rest)
      unmatched
      (IsPermutation-append_left rest (forest_paired (before ++ t ∷ after)) (forest_paired (t ∷ (before ++ after)))
      (each_first (λ s. paired_links s.branches) before after t))
      state.matching;
  outer =
      let (one, others) = all_mid (λ s. IsOuterNode nodes s.root) before after t state.outer in
      All-cons (λ s. IsOuterNode nodes s.root) t (before ++ after) one others;
  roots = λ n.
      state.roots n
      ∙ with_waiting (forest_roots (before ++ t ∷ after)) (forest_roots (t ∷ (before ++ after))) waiting n (root_first before n);
  apart = λ n waits.
      same_permuted (forest_names (before ++ t ∷ after)) (forest_names (t ∷ (before ++ after))) (names_first before after t) n
      ∙ state.apart n waits;
  even = state.even;
  names =
      distinct_permuted (forest_names (before ++ t ∷ after)) (forest_names (t ∷ (before ++ after))) (names_first before after t)
      state.names;
  joined =
      let (one, others) = all_mid (λ s. IsTree nodes s.root s.branches) before after t state.joined in
      All-cons (λ s. IsTree nodes s.root s.branches) t (before ++ after) one others;
  grown =
      let (one, others) =
      links_kept p nodes (forest_grown (before ++ t ∷ after)) (grown_links t.branches) (forest_grown (before ++ after))
      (each_first (λ s. grown_links s.branches) before after t) state.grown in
      links_joined p nodes (grown_links t.branches) (forest_grown (before ++ after)) one others;
  parity = λ d name leaf cover among.
      state.parity d name leaf cover
      (sym (same_permuted (forest_names (before ++ t ∷ after)) (forest_names (t ∷ (before ++ after))) (names_first before after t) name)
      ∙ among);
}
  where
    root_first : (ts : List (TreeOf Link)) (n : ℕ)
        → is_in (forest_roots (ts ++ t ∷ after)) n ≡ is_in (t.root ∷ forest_roots (ts ++ after)) n
    root_first [] n = refl
    root_first (s ∷ ts) n =
        ap (λ b. (s.root == n) || b) (root_first ts n) ∙ swap_two (s.root == n) (t.root == n) (is_in (forest_roots (ts ++ after)) n)

-- unmatched names without one of the roots
without_root : (unmatched roots : List ℕ) (root : ℕ) → ((n : ℕ) → is_in unmatched n ≡ is_in (root ∷ roots) n)
    → is_in roots root ≡ false → (n : ℕ) → is_in (names_without root unmatched) n ≡ is_in roots n
without_root unmatched roots root are new n =
    is_in-filter (λ m. not (m == root)) unmatched n
    ∙ (ap (λ b. b && not (n == root)) (are n)
    ∙ (ap (λ b. ((root == n) || is_in roots n) && not b) (equal_sym n root) ∙ by (cases_Bool (root == n))))
  where
    by : ((root == n) ≡ true) ⊎ ((root == n) ≡ false) → (((root == n) || is_in roots n) && not (root == n)) ≡ is_in roots n
    by (inl same) =
        ap (λ b. (b || is_in roots n) && not b) same ∙ (sym new ∙ ap (is_in roots) (eqb-true root n same))
    by (inr other) = ap (λ b. (b || is_in roots n) && not b) other ∙ kept (is_in roots n)
      where
        kept : (b : Bool) → (b && true) ≡ b
        kept true = refl
        kept false = refl

pub root_in_names : (trees : List (TreeOf Link)) (n : ℕ) → is_in (forest_roots trees) n ≡ true → is_in (forest_names trees) n ≡ true
root_in_names [] n has = has
root_in_names (t ∷ ts) n has = by (or_cases (t.root == n) (is_in (forest_roots ts) n) has) (root_in_names ts n)
  where
    by : ((t.root == n) ≡ true) ⊎ (is_in (forest_roots ts) n ≡ true)
        → (is_in (forest_roots ts) n ≡ true → is_in (forest_names ts) n ≡ true) → is_in (tree_names t.root t.branches ++ forest_names ts) n ≡ true
    by (inl same) rest =
        is_in-left (tree_names t.root t.branches) (forest_names ts) n
        (ap (is_in (tree_names t.root t.branches)) (sym (eqb-true t.root n same))
        ∙ plus_in_tree t.root t.branches t.root (root_plus t.root t.branches))
    by (inr there) rest = is_in-right (tree_names t.root t.branches) (forest_names ts) n (rest there)

-- the forest without its first tree
forest_left : (p : Problem) (nodes : List Node) (t : TreeOf Link) (others : List (TreeOf Link)) (rest more : List Link)
    (unmatched remaining waiting : List ℕ) (r : ℕ) → IsForest p nodes (t ∷ others) rest unmatched waiting r
    → IsMatching p nodes (forest_paired others ++ more) remaining
    → ((n : ℕ) → is_in remaining n ≡ is_in (forest_roots others ++ waiting) n) → IsForest p nodes others more remaining waiting r
forest_left p nodes t others rest more unmatched remaining waiting r state matching roots = record {
  matching = matching;
  outer = All-tail (λ s. IsOuterNode nodes s.root) t others state.outer;
  roots = roots;
  apart = (waiting_beside p nodes [] others t rest unmatched waiting r state).apart;
  even = state.even;
  names = distinct_right (tree_names t.root t.branches) (forest_names others) state.names;
  joined = All-tail (λ s. IsTree nodes s.root s.branches) t others state.joined;
  grown =
      ends.links_part p nodes (forest_grown (t ∷ others)) (forest_grown others) (grown_links t.branches)
      (IsPermutation-append_comm (grown_links t.branches) (forest_grown others)) state.grown;
  parity = λ d name leaf cover among.
      state.parity d name leaf cover (is_in-right (tree_names t.root t.branches) (forest_names others) name among);
}

-- the root of the first tree is in no other one
root_apart : (p : Problem) (nodes : List Node) (t : TreeOf Link) (others : List (TreeOf Link)) (rest : List Link)
    (unmatched waiting : List ℕ) (r : ℕ) → IsForest p nodes (t ∷ others) rest unmatched waiting r
    → is_in (forest_names others) t.root ≡ false
root_apart p nodes t others rest unmatched waiting r state =
    distinct_across (tree_names t.root t.branches) (forest_names others) t.root state.names
    (plus_in_tree t.root t.branches t.root (root_plus t.root t.branches))

root_only : (p : Problem) (nodes : List Node) (t : TreeOf Link) (others : List (TreeOf Link)) (rest : List Link)
    (unmatched waiting : List ℕ) (r : ℕ) → IsForest p nodes (t ∷ others) rest unmatched waiting r
    → is_in (forest_roots others ++ waiting) t.root ≡ false
root_only p nodes t others rest unmatched waiting r state =
    is_in-append (forest_roots others) waiting t.root
    ∙ or_from (is_in (forest_roots others) t.root) (is_in waiting t.root)
    (false_from_ne_true (is_in (forest_roots others) t.root)
    (λ h.
    both_ways (is_in (forest_names others) t.root) (root_apart p nodes t others rest unmatched waiting r state)
    (root_in_names others t.root h)))
    (root_not_waiting p nodes [] others t rest unmatched waiting r state)

pub forest_ended : ForestEnded
forest_ended p nodes t others rest unmatched waiting r name out v state among are leaving boundary =
    forest_left p nodes t others rest ((grown_links (path_to t.branches name) ++ out ∷ paired_links (branches_beside t.branches name)) ++ rest)
    unmatched (names_without t.root unmatched) waiting r state
    (matching_permuted p nodes
    (grown_links (path_to t.branches name)
    ++ out ∷ (paired_links (branches_beside t.branches name) ++ (forest_paired others ++ rest)))
    (forest_paired others ++ ((grown_links (path_to t.branches name) ++ out ∷ paired_links (branches_beside t.branches name)) ++ rest))
    (names_without t.root unmatched)
    (subst
    (λ l. IsPermutation l
    (forest_paired others ++ ((grown_links (path_to t.branches name) ++ out ∷ paired_links (branches_beside t.branches name)) ++ rest)))
    (append_assoc (grown_links (path_to t.branches name)) (out ∷ paired_links (branches_beside t.branches name)) (forest_paired others ++ rest))
    (pull (grown_links (path_to t.branches name) ++ out ∷ paired_links (branches_beside t.branches name)) (forest_paired others) rest))
    (subst
    (λ l. IsMatching p nodes (l ++ out ∷ (paired_links (branches_beside t.branches name) ++ (forest_paired others ++ rest))) (names_without t.root unmatched))
    (branches_tree nodes (path_to t.branches name))
    (matching_augmented p nodes t.root (top_at nodes t.root) (branches_of nodes (path_to t.branches name)) out v
    (paired_links (branches_beside t.branches name) ++ (forest_paired others ++ rest)) unmatched
    (ends.matching p nodes t.branches (forest_paired others ++ rest) unmatched t.root r name found among)
    (root_set p nodes t.branches (forest_paired others ++ rest) unmatched t.root r found) found.open_root
    path.2 path.0
    (ends.links p nodes t.branches (forest_paired others ++ rest) unmatched t.root r name found among out are)
    (ends.leads p nodes t.branches (forest_paired others ++ rest) unmatched t.root r name found among out v leaving) boundary)))
    (without_root unmatched (forest_roots others ++ waiting) t.root state.roots
    (root_only p nodes t others rest unmatched waiting r state))
  where
    found : IsSearch p nodes t.branches (forest_paired others ++ rest) unmatched t.root r
    found = forest_tree p nodes [] others t rest unmatched waiting r state

    path : IsPath (top_at nodes t.root) (branches_of nodes (path_to t.branches name))
        × (tip_of (top_at nodes t.root) (branches_of nodes (path_to t.branches name)) ≡ top_at nodes name)
        × All (IsBranchOf nodes) (branches_of nodes (path_to t.branches name))
        × IsPermutation (path_to t.branches name ++ branches_beside t.branches name) t.branches
    path = search_path p nodes t.branches (forest_paired others ++ rest) unmatched t.root r name found among

pub forest_released : ForestReleased
forest_released p nodes t others old rest unmatched waiting r name other out b state among are connects leaving_old boundary =
    let (v, leaving, cover) = ends.out_of nodes out name other connects in
    let (set, within) = cover_set nodes v other state.matching.dual.names cover in
    forest_left p nodes t others (old ∷ rest) ((grown_links (path_to t.branches name) ++ out ∷ beside) ++ rest) unmatched
    (names_without t.root unmatched) waiting r state
    (matching_permuted p nodes (grown_links (path_to t.branches name) ++ out ∷ (beside ++ (forest_paired others ++ rest)))
    (forest_paired others ++ ((grown_links (path_to t.branches name) ++ out ∷ beside) ++ rest)) (names_without t.root unmatched)
    (subst (λ l. IsPermutation l (forest_paired others ++ ((grown_links (path_to t.branches name) ++ out ∷ beside) ++ rest)))
    (append_assoc (grown_links (path_to t.branches name)) (out ∷ beside) (forest_paired others ++ rest))
    (pull (grown_links (path_to t.branches name) ++ out ∷ beside) (forest_paired others) rest))
    (subst (λ l. IsMatching p nodes (l ++ out ∷ (beside ++ (forest_paired others ++ rest))) (names_without t.root unmatched))
    (branches_tree nodes (path_to t.branches name))
    (matching_released p nodes t.root other (top_at nodes t.root) (top_at nodes other) (branches_of nodes (path_to t.branches name))
    out old v b (beside ++ (forest_paired others ++ rest)) unmatched
    (matching_permuted p nodes (along ++ (beside ++ (forest_paired others ++ old ∷ rest)))
    (along ++ old ∷ (beside ++ (forest_paired others ++ rest))) unmatched
    (IsPermutation-append_right along (beside ++ (forest_paired others ++ old ∷ rest))
    (old ∷ (beside ++ (forest_paired others ++ rest)))
    (subst (λ l. IsPermutation l (old ∷ (beside ++ (forest_paired others ++ rest))))
    (append_assoc beside (forest_paired others) (old ∷ rest))
    (subst (λ l. IsPermutation ((beside ++ forest_paired others) ++ old ∷ rest) (old ∷ l))
    (append_assoc beside (forest_paired others) rest)
    (IsPermutation-middle (beside ++ forest_paired others) old rest))))
    (ends.matching p nodes t.branches (forest_paired others ++ old ∷ rest) unmatched t.root r name found among))
    (root_set p nodes t.branches (forest_paired others ++ old ∷ rest) unmatched t.root r found) found.open_root set path.2 path.0
    (ends.links p nodes t.branches (forest_paired others ++ old ∷ rest) unmatched t.root r name found among out are)
    (ends.leads p nodes t.branches (forest_paired others ++ old ∷ rest) unmatched t.root r name found among out v leaving) within
    (leads_from nodes old other b state.matching.dual.names leaving_old) boundary)))
    (without_root unmatched (forest_roots others ++ waiting) t.root state.roots
    (root_only p nodes t others (old ∷ rest) unmatched waiting r state))
  where
    beside : List Link
    beside = paired_links (branches_beside t.branches name)

    along : List Link
    along = matched_links (branches_of nodes (path_to t.branches name))

    found : IsSearch p nodes t.branches (forest_paired others ++ old ∷ rest) unmatched t.root r
    found = forest_tree p nodes [] others t (old ∷ rest) unmatched waiting r state

    path : IsPath (top_at nodes t.root) (branches_of nodes (path_to t.branches name))
        × (tip_of (top_at nodes t.root) (branches_of nodes (path_to t.branches name)) ≡ top_at nodes name)
        × All (IsBranchOf nodes) (branches_of nodes (path_to t.branches name))
        × IsPermutation (path_to t.branches name ++ branches_beside t.branches name) t.branches
    path = search_path p nodes t.branches (forest_paired others ++ old ∷ rest) unmatched t.root r name found among

pub forest_done : ForestDone
forest_done p nodes rest unmatched waiting r state = (
  record {
    matching = state.matching;
    even = λ d name leaf cover among. state.even d name leaf cover (sym (state.roots name) ∙ among);
  },
  state.roots,
)

module _ (p : Problem) (nodes : List Node) (t s : TreeOf Link) (others : List (TreeOf Link)) (rest : List Link)
    (unmatched waiting : List ℕ) (r a b : ℕ) (out : Link) (state : IsForest p nodes (t ∷ s ∷ others) rest unmatched waiting r)
    (at_a : is_in (plus_names t.root t.branches) a ≡ true) (at_b : is_in (plus_names s.root s.branches) b ≡ true)
    (are : AreMatchedLinks p nodes (out ∷ [])) (connects : Connects nodes out a b) where
  abbrev along_t : List Link
  along_t = grown_links (path_to t.branches a)

  abbrev along_s : List Link
  along_s = grown_links (path_to s.branches b)

  abbrev beside_t : List Link
  beside_t = paired_links (branches_beside t.branches a)

  abbrev beside_s : List Link
  beside_s = paired_links (branches_beside s.branches b)

  abbrev beyond : List Link
  beyond = forest_paired others ++ rest

  abbrev left : List ℕ
  left = names_without s.root unmatched

  first : IsSearch p nodes t.branches (forest_paired (s ∷ others) ++ rest) unmatched t.root r
  first = forest_tree p nodes [] (s ∷ others) t rest unmatched waiting r state

  second : IsSearch p nodes s.branches (forest_paired (t ∷ others) ++ rest) unmatched s.root r
  second = forest_tree p nodes (t ∷ []) others s rest unmatched waiting r state

  path_a : IsPath (top_at nodes t.root) (branches_of nodes (path_to t.branches a))
      × (tip_of (top_at nodes t.root) (branches_of nodes (path_to t.branches a)) ≡ top_at nodes a)
      × All (IsBranchOf nodes) (branches_of nodes (path_to t.branches a))
      × IsPermutation (path_to t.branches a ++ branches_beside t.branches a) t.branches
  path_a = search_path p nodes t.branches (forest_paired (s ∷ others) ++ rest) unmatched t.root r a first at_a

  path_b : IsPath (top_at nodes s.root) (branches_of nodes (path_to s.branches b))
      × (tip_of (top_at nodes s.root) (branches_of nodes (path_to s.branches b)) ≡ top_at nodes b)
      × All (IsBranchOf nodes) (branches_of nodes (path_to s.branches b))
      × IsPermutation (path_to s.branches b ++ branches_beside s.branches b) s.branches
  path_b = search_path p nodes s.branches (forest_paired (t ∷ others) ++ rest) unmatched s.root r b second at_b

  b_in : is_in (tree_names s.root s.branches) b ≡ true
  b_in = plus_in_tree s.root s.branches b at_b

  b_set : IsSetOf nodes b (top_at nodes b)
  b_set = named_set p nodes s.branches (forest_paired (t ∷ others) ++ rest) unmatched s.root r second b b_in

  -- the second tree has that node for its root
  turned : IsMatching p nodes (along_s ++ (beside_s ++ (forest_paired (t ∷ others) ++ rest))) (b ∷ left)
  turned =
      subst (λ l. IsMatching p nodes (l ++ (beside_s ++ (forest_paired (t ∷ others) ++ rest))) (b ∷ left))
      (branches_tree nodes (path_to s.branches b))
      (matching_rerooted p nodes s.root b (top_at nodes s.root) (branches_of nodes (path_to s.branches b))
      (beside_s ++ (forest_paired (t ∷ others) ++ rest)) unmatched
      (ends.matching p nodes s.branches (forest_paired (t ∷ others) ++ rest) unmatched s.root r b second at_b)
      (root_set p nodes s.branches (forest_paired (t ∷ others) ++ rest) unmatched s.root r second)
      (subst (IsSetOf nodes b) (sym path_b.1) b_set) second.open_root path_b.2 path_b.0
      (subst (AreMatchedLinks p nodes) (sym (branches_tree nodes (path_to s.branches b)))
      (ends.links_part p nodes (grown_links s.branches) along_s (grown_links (branches_beside s.branches b))
      (ends.grown_split p nodes s.branches (forest_paired (t ∷ others) ++ rest) unmatched s.root r b second at_b) second.grown)))

  -- the links along the first tree's path come first
  first_path : IsPermutation (along_s ++ (beside_s ++ (forest_paired (t ∷ others) ++ rest)))
      (paired_links (path_to t.branches a) ++ (along_s ++ (beside_s ++ (beside_t ++ beyond))))
  first_path =
      IsPermutation-trans (along_s ++ (beside_s ++ (forest_paired (t ∷ others) ++ rest)))
      (along_s ++ (beside_s ++ (paired_links (path_to t.branches a) ++ (beside_t ++ beyond))))
      (paired_links (path_to t.branches a) ++ (along_s ++ (beside_s ++ (beside_t ++ beyond))))
      (IsPermutation-append_right along_s (beside_s ++ (forest_paired (t ∷ others) ++ rest))
      (beside_s ++ (paired_links (path_to t.branches a) ++ (beside_t ++ beyond)))
      (IsPermutation-append_right beside_s (forest_paired (t ∷ others) ++ rest) (paired_links (path_to t.branches a) ++ (beside_t ++ beyond))
      (subst (λ l. IsPermutation l (paired_links (path_to t.branches a) ++ (beside_t ++ beyond)))
      (sym (append_assoc (paired_links t.branches) (forest_paired others) rest))
      (subst (IsPermutation (paired_links t.branches ++ beyond)) (append_assoc (paired_links (path_to t.branches a)) beside_t beyond)
      (IsPermutation-append_left beyond (paired_links t.branches) (paired_links (path_to t.branches a) ++ beside_t)
      (ends.paired_split p nodes t.branches (forest_paired (s ∷ others) ++ rest) unmatched t.root r a first at_a))))))
      (IsPermutation-trans (along_s ++ (beside_s ++ (paired_links (path_to t.branches a) ++ (beside_t ++ beyond))))
      (along_s ++ (paired_links (path_to t.branches a) ++ (beside_s ++ (beside_t ++ beyond))))
      (paired_links (path_to t.branches a) ++ (along_s ++ (beside_s ++ (beside_t ++ beyond))))
      (IsPermutation-append_right along_s (beside_s ++ (paired_links (path_to t.branches a) ++ (beside_t ++ beyond)))
      (paired_links (path_to t.branches a) ++ (beside_s ++ (beside_t ++ beyond)))
      (pull beside_s (paired_links (path_to t.branches a)) (beside_t ++ beyond)))
      (pull along_s (paired_links (path_to t.branches a)) (beside_s ++ (beside_t ++ beyond))))

  prepared : IsMatching p nodes
      (matched_links (branches_of nodes (path_to t.branches a)) ++ (along_s ++ (beside_s ++ (beside_t ++ beyond)))) (b ∷ left)
  prepared =
      subst (λ l. IsMatching p nodes (l ++ (along_s ++ (beside_s ++ (beside_t ++ beyond)))) (b ∷ left))
      (sym (branches_matched nodes (path_to t.branches a)))
      (matching_permuted p nodes (along_s ++ (beside_s ++ (forest_paired (t ∷ others) ++ rest)))
      (paired_links (path_to t.branches a) ++ (along_s ++ (beside_s ++ (beside_t ++ beyond)))) (b ∷ left) first_path turned)

  -- the two roots are in different trees
  roots_differ : is_in (tree_names s.root s.branches) t.root ≡ false
  roots_differ =
      false_from_ne_true (is_in (tree_names s.root s.branches) t.root)
      (λ h.
      both_ways (is_in (forest_names (s ∷ others)) t.root) (root_apart p nodes t (s ∷ others) rest unmatched waiting r state)
      (is_in-left (tree_names s.root s.branches) (forest_names others) t.root h))

  root_left : is_in left t.root ≡ true
  root_left =
      is_in-filter (λ m. not (m == s.root)) unmatched t.root
      ∙ and_from (is_in unmatched t.root) (not (t.root == s.root)) first.open_root
      (not_from_false (t.root == s.root)
      (ne_eqb t.root s.root
      (λ same.
      both_ways (is_in (tree_names s.root s.branches) t.root) roots_differ
      (ap (is_in (tree_names s.root s.branches)) same
      ∙ plus_in_tree s.root s.branches s.root (root_plus s.root s.branches)))))

  root_other : t.root ≡ b → ⊥
  root_other same =
      both_ways (is_in (tree_names s.root s.branches) t.root) roots_differ
      (ap (is_in (tree_names s.root s.branches)) same ∙ b_in)

  met : (v : ℕ) → LeavesNode nodes out a v → cover_of nodes v ≡ Some b
      → IsMatching p nodes (along_t ++ out ∷ (along_s ++ (beside_s ++ (beside_t ++ beyond))))
      (names_without t.root (names_without b (b ∷ left)))
  met v leaving cover =
      subst
      (λ l. IsMatching p nodes (l ++ out ∷ (along_s ++ (beside_s ++ (beside_t ++ beyond)))) (names_without t.root (names_without b (b ∷ left))))
      (branches_tree nodes (path_to t.branches a))
      (matching_met p nodes t.root b (top_at nodes t.root) (top_at nodes b) (branches_of nodes (path_to t.branches a)) out v
      (along_s ++ (beside_s ++ (beside_t ++ beyond))) (b ∷ left) prepared
      (root_set p nodes t.branches (forest_paired (s ∷ others) ++ rest) unmatched t.root r first) (is_in-tail b left t.root root_left)
      b_set (is_in-head b left) root_other path_a.2 path_a.0
      (ends.links p nodes t.branches (forest_paired (s ∷ others) ++ rest) unmatched t.root r a first at_a out are)
      (ends.leads p nodes t.branches (forest_paired (s ∷ others) ++ rest) unmatched t.root r a first at_a out v leaving)
      (cover_set nodes v b state.matching.dual.names cover).1)

  -- that node was the root, or not unmatched
  same_names : (n : ℕ) → is_in (names_without t.root left) n ≡ is_in (names_without t.root (names_without b (b ∷ left))) n
  same_names n =
      is_in-filter (λ m. not (m == t.root)) left n
      ∙ (ap (λ c. c && not (n == t.root)) (sym inner)
      ∙ sym (is_in-filter (λ m. not (m == t.root)) (names_without b (b ∷ left)) n))
    where
      unopen : is_in left b ≡ false
      unopen =
          false_from_ne_true (is_in left b)
          (λ h.
          both_ways (is_in (tree_names s.root s.branches) b)
          (unmatched_outside p nodes s.branches (forest_paired (t ∷ others) ++ rest) unmatched s.root r second b h) b_in)

      inner : is_in (names_without b (b ∷ left)) n ≡ is_in left n
      inner = without_root (b ∷ left) left b (λ m. refl) unopen n

  together : IsPermutation (along_t ++ out ∷ (along_s ++ (beside_s ++ (beside_t ++ beyond))))
      (forest_paired others ++ (met_links t a out s b ++ rest))
  together =
      subst (λ l. IsPermutation l (forest_paired others ++ (met_links t a out s b ++ rest)))
      (append_assoc along_t (out ∷ (along_s ++ (beside_s ++ beside_t))) beyond
      ∙ ap (λ l. along_t ++ out ∷ l)
      (append_assoc along_s (beside_s ++ beside_t) beyond ∙ ap (λ l. along_s ++ l) (append_assoc beside_s beside_t beyond)))
      (pull (met_links t a out s b) (forest_paired others) rest)

  remaining_roots : (n : ℕ) → is_in (names_without t.root left) n ≡ is_in (forest_roots others ++ waiting) n
  remaining_roots =
      without_root left (forest_roots others ++ waiting) t.root
      (without_root unmatched (t.root ∷ (forest_roots others ++ waiting)) s.root
      (λ n. state.roots n ∙ swap_two (t.root == n) (s.root == n) (is_in (forest_roots others ++ waiting) n))
      (or_from (t.root == s.root) (is_in (forest_roots others ++ waiting) s.root)
      (ne_eqb t.root s.root
      (λ same.
      both_ways (is_in (tree_names s.root s.branches) t.root) roots_differ
      (ap (is_in (tree_names s.root s.branches)) same
      ∙ plus_in_tree s.root s.branches s.root (root_plus s.root s.branches))))
      second_only))
      (or_parts (s.root == t.root) (is_in (forest_roots others ++ waiting) t.root)
      (root_only p nodes t (s ∷ others) rest unmatched waiting r state)).1
    where
      second_only : is_in (forest_roots others ++ waiting) s.root ≡ false
      second_only =
          is_in-append (forest_roots others) waiting s.root
          ∙ or_from (is_in (forest_roots others) s.root) (is_in waiting s.root)
          (false_from_ne_true (is_in (forest_roots others) s.root)
          (λ h.
          both_ways (is_in (forest_names others) s.root)
          (distinct_across (tree_names s.root s.branches) (forest_names others) s.root
          (distinct_right (tree_names t.root t.branches) (forest_names (s ∷ others)) state.names)
          (plus_in_tree s.root s.branches s.root (root_plus s.root s.branches)))
          (root_in_names others s.root h)))
          (root_not_waiting p nodes (t ∷ []) others s rest unmatched waiting r state)

  met_forest : (v : ℕ) → LeavesNode nodes out a v → cover_of nodes v ≡ Some b
      → IsForest p nodes others (met_links t a out s b ++ rest) (names_without t.root left) waiting r
  met_forest v leaving cover = record {
    matching =
        matching_named p nodes (forest_paired others ++ (met_links t a out s b ++ rest))
        (names_without t.root (names_without b (b ∷ left))) (names_without t.root left) same_names
        (matching_permuted p nodes (along_t ++ out ∷ (along_s ++ (beside_s ++ (beside_t ++ beyond))))
        (forest_paired others ++ (met_links t a out s b ++ rest)) (names_without t.root (names_without b (b ∷ left))) together
        (met v leaving cover));
    outer =
        All-tail (λ x. IsOuterNode nodes x.root) s others (All-tail (λ x. IsOuterNode nodes x.root) t (s ∷ others) state.outer);
    roots = remaining_roots;
    apart = λ n waits.
        false_from_ne_true (is_in (forest_names others) n)
        (λ there.
        both_ways (is_in (forest_names (t ∷ s ∷ others)) n) (state.apart n waits)
        (is_in-right (tree_names t.root t.branches) (forest_names (s ∷ others)) n
        (is_in-right (tree_names s.root s.branches) (forest_names others) n there)));
    even = state.even;
    names =
        distinct_right (tree_names s.root s.branches) (forest_names others)
        (distinct_right (tree_names t.root t.branches) (forest_names (s ∷ others)) state.names);
    joined =
        All-tail (λ x. IsTree nodes x.root x.branches) s others
        (All-tail (λ x. IsTree nodes x.root x.branches) t (s ∷ others) state.joined);
    grown =
        ends.links_part p nodes (forest_grown (s ∷ others)) (forest_grown others) (grown_links s.branches)
        (IsPermutation-append_comm (grown_links s.branches) (forest_grown others))
        (ends.links_part p nodes (forest_grown (t ∷ s ∷ others)) (forest_grown (s ∷ others)) (grown_links t.branches)
        (IsPermutation-append_comm (grown_links t.branches) (forest_grown (s ∷ others))) state.grown);
    parity = λ d name leaf cover_ among.
        state.parity d name leaf cover_
        (is_in-right (tree_names t.root t.branches) (forest_names (s ∷ others)) name
        (is_in-right (tree_names s.root s.branches) (forest_names others) name among));
  }

pub forest_met : ForestMet
forest_met p nodes t s others rest unmatched waiting r a b out state at_a at_b are connects =
    let (v, leaving, cover) = ends.out_of nodes out a b connects in
    met_forest p nodes t s others rest unmatched waiting r a b out state at_a at_b are connects v leaving cover
