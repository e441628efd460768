-- How a search ends.
use Rattle.std.proofs.Common.{ℕ, ◌≡◌, ◌==◌, inl, inr, not, true, List, [], ◌∷◌, ◌++◌, Some, refl, sym, ◌∙◌, subst}
use Rattle.std.specs.List.Sorted.{IsPermutation}
use Rattle.std.proofs.lemmas.Bool.{and_parts, and_from}
use Rattle.std.proofs.lemmas.List.{append_assoc, map-append}
use Rattle.std.proofs.lemmas.List.Sorted.{All-permutation, IsPermutation-sym, IsPermutation-map, IsPermutation-middle, IsPermutation-append_left, IsPermutation-append_right}
use Rattle.fb_graph.specs.Parity.{is_in}
use Rattle.fb_graph.specs.Problem.{Problem}
use Rattle.fb_graph.specs.Laws.{Link}
use Rattle.fb_graph.specs.Dual.{Node, all_cuts, leaves, cover_of, top_at}
use Rattle.fb_graph.proofs.Sets.{is_in-filter}
use Rattle.fb_laws.specs.Paths.{LeadsOut, tip_of, tree_links, matched_links}
use Rattle.fb_graph.specs.Links.{IsTightLink}
use Rattle.fb_laws.specs.Fusion.{IsLinkOf}
use Rattle.fb_laws.specs.Works.{AreMatchedLinks, IsMatching, names_without}
use Rattle.fb_laws.specs.Trees.{Entry, Connects, grown_links, paired_links, plus_names, path_to, branches_beside, branches_of}
use Rattle.fb_laws.specs.Searches.{LeavesNode, IsSearch, SearchEnded, SearchMet, SearchReleased}
use Rattle.fb_laws.specs.Opening.{EndsAtDefects}
use Rattle.fb_laws.proofs.HalvesKept.{matching_permuted}
use Rattle.fb_laws.proofs.MatchedNodes.{matching_augmented, matching_met, matching_released}
use Rattle.fb_laws.proofs.SearchStates.{links_joined, root_set, search_path}
use Rattle.fb_laws.proofs.SearchTrees.{cover_set, leads_from, branches_tree, branches_matched}
use Rattle.fb_graph.proofs.Nodes.{All-left}

-- links of the first of two lists, in any order
pub links_part : (p : Problem) (nodes : List Node) (links first other : List Link) → IsPermutation links (first ++ other)
    → AreMatchedLinks p nodes links → AreMatchedLinks p nodes first
links_part p nodes links first other moved are = record {
  tight = All-left (IsTightLink p (all_cuts nodes)) first other (All-permutation (IsTightLink p (all_cuts nodes)) links (first ++ other) moved are.tight);
  own = All-left (IsLinkOf p) first other (All-permutation (IsLinkOf p) links (first ++ other) moved are.own);
  at_defects = All-left (EndsAtDefects p (leaves nodes)) first other (All-permutation (EndsAtDefects p (leaves nodes)) links (first ++ other) moved are.at_defects);
}

pub out_of : (nodes : List Node) (l : Link) (a b : ℕ) → Connects nodes l a b → (v : ℕ) × LeavesNode nodes l a v × (cover_of nodes v ≡ Some b)
out_of nodes l a b (inl (from, to)) = (l.to, inl (from, refl), to)
out_of nodes l a b (inr (to, from)) = (l.from, inr (to, refl), from)

module _ (p : Problem) (nodes : List Node) (tree : List Entry) (rest : List Link) (unmatched : List ℕ) (root r name : ℕ) (state : IsSearch p nodes tree rest unmatched root r) (among : is_in (plus_names root tree) name ≡ true) where
  split : IsPermutation tree (path_to tree name ++ branches_beside tree name)
  split = IsPermutation-sym _ _ (search_path p nodes tree rest unmatched root r name state among).3

  pub grown_split : IsPermutation (grown_links tree) (grown_links (path_to tree name) ++ grown_links (branches_beside tree name))
  grown_split =
      subst (IsPermutation (grown_links tree)) (map-append (λ (e : Entry). e.tree) (path_to tree name) (branches_beside tree name))
      (IsPermutation-map (λ (e : Entry). e.tree) tree (path_to tree name ++ branches_beside tree name) split)

  pub paired_split : IsPermutation (paired_links tree) (paired_links (path_to tree name) ++ paired_links (branches_beside tree name))
  paired_split =
      subst (IsPermutation (paired_links tree)) (map-append (λ (e : Entry). e.matched) (path_to tree name) (branches_beside tree name))
      (IsPermutation-map (λ (e : Entry). e.matched) tree (path_to tree name ++ branches_beside tree name) split)

  -- the matched links, those of the path first
  pub matching : IsMatching p nodes (matched_links (branches_of nodes (path_to tree name)) ++ (paired_links (branches_beside tree name) ++ rest)) unmatched
  matching =
      subst (λ l. IsMatching p nodes (l ++ (paired_links (branches_beside tree name) ++ rest)) unmatched) (sym (branches_matched nodes (path_to tree name)))
      (matching_permuted p nodes (paired_links tree ++ rest) (paired_links (path_to tree name) ++ (paired_links (branches_beside tree name) ++ rest)) unmatched
      (subst (IsPermutation (paired_links tree ++ rest)) (append_assoc (paired_links (path_to tree name)) (paired_links (branches_beside tree name)) rest)
      (IsPermutation-append_left rest (paired_links tree) (paired_links (path_to tree name) ++ paired_links (branches_beside tree name)) paired_split))
      state.matching)

  pub links : (out : Link) → AreMatchedLinks p nodes (out ∷ []) → AreMatchedLinks p nodes (tree_links (branches_of nodes (path_to tree name)) ++ out ∷ [])
  links out are =
      subst (λ l. AreMatchedLinks p nodes (l ++ out ∷ [])) (sym (branches_tree nodes (path_to tree name)))
      (links_joined p nodes (grown_links (path_to tree name)) (out ∷ [])
      (links_part p nodes (grown_links tree) (grown_links (path_to tree name)) (grown_links (branches_beside tree name)) grown_split state.grown) are)

  pub leads : (out : Link) (v : ℕ) → LeavesNode nodes out name v → LeadsOut out (tip_of (top_at nodes root) (branches_of nodes (path_to tree name))) v
  leads out v leaving =
      subst (λ s. LeadsOut out s v) (sym (search_path p nodes tree rest unmatched root r name state among).1)
      (leads_from nodes out name v state.matching.dual.names leaving)

pub search_ended : SearchEnded
search_ended p nodes tree rest unmatched root r name out v state even among are leaving boundary = record {
  matching =
      subst (λ l. IsMatching p nodes (l ++ out ∷ (paired_links (branches_beside tree name) ++ rest)) (names_without root unmatched))
      (branches_tree nodes (path_to tree name))
      (matching_augmented p nodes root (top_at nodes root) (branches_of nodes (path_to tree name)) out v
      (paired_links (branches_beside tree name) ++ rest) unmatched
      (matching p nodes tree rest unmatched root r name state among)
      (root_set p nodes tree rest unmatched root r state) state.open_root
      (search_path p nodes tree rest unmatched root r name state among).2
      (search_path p nodes tree rest unmatched root r name state among).0
      (links p nodes tree rest unmatched root r name state among out are)
      (leads p nodes tree rest unmatched root r name state among out v leaving) boundary);
  even = even;
}

pub search_met : SearchMet
search_met p nodes tree rest unmatched root r name other out state even among that differ_ are connects =
    let (v, leaving, cover) = out_of nodes out name other connects in
    let (set, within) = cover_set nodes v other state.matching.dual.names cover in
    let found = search_path p nodes tree rest unmatched root r name state among in
    record {
      matching =
          subst (λ l. IsMatching p nodes (l ++ out ∷ (paired_links (branches_beside tree name) ++ rest)) (names_without root (names_without other unmatched)))
          (branches_tree nodes (path_to tree name))
          (matching_met p nodes root other (top_at nodes root) (top_at nodes other) (branches_of nodes (path_to tree name)) out v
          (paired_links (branches_beside tree name) ++ rest) unmatched
          (matching p nodes tree rest unmatched root r name state among)
          (root_set p nodes tree rest unmatched root r state) state.open_root set that differ_
          found.2 found.0
          (links p nodes tree rest unmatched root r name state among out are)
          (leads p nodes tree rest unmatched root r name state among out v leaving) within);
      even = λ d n leaf covered here. even d n leaf covered (fewer n here);
    }
  where
    fewer : (n : ℕ) → is_in (names_without root (names_without other unmatched)) n ≡ true → is_in (names_without root unmatched) n ≡ true
    fewer n here =
        let first =
        and_parts (is_in (names_without other unmatched) n) (not (n == root))
        (sym (is_in-filter (λ m. not (m == root)) (names_without other unmatched) n) ∙ here) in
        let second =
        and_parts (is_in unmatched n) (not (n == other)) (sym (is_in-filter (λ m. not (m == other)) unmatched n) ∙ first.0) in
        is_in-filter (λ m. not (m == root)) unmatched n ∙ and_from (is_in unmatched n) (not (n == root)) second.0 first.1

pub search_released : SearchReleased
search_released p nodes tree old rest unmatched root r name other out b state even among are connects leaving_old boundary =
    let (v, leaving, cover) = out_of nodes out name other connects in
    let (set, within) = cover_set nodes v other state.matching.dual.names cover in
    let found = search_path p nodes tree (old ∷ rest) unmatched root r name state among in
    record {
      matching =
          subst (λ l. IsMatching p nodes (l ++ out ∷ (paired_links (branches_beside tree name) ++ rest)) (names_without root unmatched))
          (branches_tree nodes (path_to tree name))
          (matching_released p nodes root other (top_at nodes root) (top_at nodes other) (branches_of nodes (path_to tree name)) out old v b
          (paired_links (branches_beside tree name) ++ rest) unmatched
          (matching_permuted p nodes
          (matched_links (branches_of nodes (path_to tree name)) ++ (paired_links (branches_beside tree name) ++ old ∷ rest))
          (matched_links (branches_of nodes (path_to tree name)) ++ old ∷ (paired_links (branches_beside tree name) ++ rest)) unmatched
          (IsPermutation-append_right (matched_links (branches_of nodes (path_to tree name)))
          (paired_links (branches_beside tree name) ++ old ∷ rest) (old ∷ (paired_links (branches_beside tree name) ++ rest))
          (IsPermutation-middle (paired_links (branches_beside tree name)) old rest))
          (matching p nodes tree (old ∷ rest) unmatched root r name state among))
          (root_set p nodes tree (old ∷ rest) unmatched root r state) state.open_root set
          found.2 found.0
          (links p nodes tree (old ∷ rest) unmatched root r name state among out are)
          (leads p nodes tree (old ∷ rest) unmatched root r name state among out v leaving) within
          (leads_from nodes old other b state.matching.dual.names leaving_old) boundary);
      even = even;
    }
