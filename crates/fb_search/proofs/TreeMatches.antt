-- The matches beside trees that grow: a match that is taken out, and that matched nodes are in no tree.
use Rattle.std.proofs.Common.{ℕ, ◌≡◌, ◌≢◌, ◌==◌, inl, inr, true, false, List, [], ◌∷◌, ◌++◌, map, Option, Some, None, sym, ap, subst, ◌∙◌}
use Rattle.std.specs.List.Sorted.{IsPermutation}
use Rattle.std.proofs.lemmas.Bool.{both_ways, false_from_ne_true, ne_eqb, or_from}
use Rattle.std.proofs.lemmas.List.Elements.{All-head}
use Rattle.std.proofs.lemmas.List.Sorted.{All-permutation, IsPermutation-refl}
use Rattle.fb_graph.specs.Parity.{is_in}
use Rattle.fb_graph.specs.Problem.{Problem}
use Rattle.fb_graph.specs.Certificate.{AreDistinct}
use Rattle.fb_graph.specs.Dual.{Node, is_live}
use Rattle.fb_graph.proofs.Floods.{is_in-left, is_in-right}
use Rattle.fb_graph.proofs.Members.{distinct_left}
use Rattle.fb_graph.proofs.Sets.{is_in-head, is_in-tail}
use Rattle.fb_laws.specs.Forests.{forest_roots}
use Rattle.fb_laws.specs.Searches.{LeavesNode}
use Rattle.fb_laws.specs.TreeCycles.{nodes_along}
use Rattle.fb_laws.specs.Trees.{Connects, tree_names}
use Rattle.fb_laws.proofs.MergedParts.{distinct_across}
use Rattle.fb_laws.proofs.OpenedBlossoms.{distinct_permuted, same_permuted}
use Rattle.fb_laws.proofs.SearchTrees.{connects_sym}
use Rattle.fb_laws.proofs.TreePaths.{distinct_right}
use Rattle.fb_links.specs.declared.walk.Step.{Step}
use Rattle.fb_half.specs.declared.matches.Match.{Match}
use Rattle.fb_half.specs.Matchings.{IsMatchOf, IsMatchingOf, MatchingValue, listed_names, matched_names, names_of}
use Rattle.fb_half.specs.Translations.{link_by}
use Rattle.fb_half.proofs.FlatPermutations.{flat_permuted}
use Rattle.fb_trees.specs.Branches.{Grown}
use Rattle.fb_trees.specs.Forests.{IsOutside, trees_in}
use Rattle.fb_search.specs.InternalGrowing.{GrowingValue, IsGrowingBeside, all_along, tree_by, waiting_in}
use Rattle.fb_search.specs.InternalMeetings.{IsBoundaryMatch, IsCouple}
use Rattle.fb_search.proofs.MetMatches.{couple_names}
use Rattle.fb_search.proofs.Renamed.{tree_listed}
use Rattle.fb_search.proofs.SplitForests.{IsAmongTrees, along_append, among_others}

module _ (p : Problem) (nodes : List Node) (links : List (Option (List Step))) (m : MatchingValue) (others : List ℕ)
    (are : IsMatchingOf p nodes links m others) where
  pub live_matched : (n : ℕ) → is_in (matched_names m.matches) n ≡ true → is_live nodes n ≡ true
  live_matched n matched =
      (are.live n (is_in-left (listed_names m) others n (is_in-right m.unmatched (matched_names m.matches) n matched))).0

  module _ (taken : Match) (matches : List Match) (moved : IsPermutation m.matches (taken ∷ matches)) where
    pub names_without : IsPermutation (matched_names m.matches) (names_of taken ++ matched_names matches)
    names_without = flat_permuted names_of m.matches (taken ∷ matches) moved

    taken_in : (n : ℕ) → is_in (names_of taken) n ≡ true → is_in (matched_names m.matches) n ≡ true
    taken_in n within =
        sym (same_permuted (matched_names m.matches) (names_of taken ++ matched_names matches) names_without n)
        ∙ is_in-left (names_of taken) (matched_names matches) n within

    taken_apart : AreDistinct (names_of taken)
    taken_apart =
        distinct_left (names_of taken) (matched_names matches)
        (distinct_permuted (matched_names m.matches) (names_of taken ++ matched_names matches) names_without
        (distinct_right m.unmatched (matched_names m.matches) (distinct_left (listed_names m) others are.distinct)))

    abbrev leads_to : Option ℕ → ℕ → Type 0
    leads_to second first = IsMatchOf p nodes (link_by links taken.link) first second

    leads : IsMatchOf p nodes (link_by links taken.link) taken.first taken.second
    leads =
        All-head (λ e. IsMatchOf p nodes (link_by links e.link) e.first e.second) taken matches
        (All-permutation (λ e. IsMatchOf p nodes (link_by links e.link) e.first e.second) m.matches (taken ∷ matches) moved are.connects)

    pub couple_joins : (a b : ℕ) → IsCouple taken a b → Connects nodes (link_by links taken.link) a b
    couple_joins a b (inl (first, second)) = subst (leads_to (Some b)) first (subst (λ o. leads_to o taken.first) second leads)
    couple_joins a b (inr (first, second)) =
        connects_sym nodes (link_by links taken.link) b a
        (subst (leads_to (Some a)) first (subst (λ o. leads_to o taken.first) second leads))

    pub boundary_left : (a : ℕ) → IsBoundaryMatch taken a
        → (v : ℕ) × LeavesNode nodes (link_by links taken.link) a v × (p.is_real v ≡ false)
    boundary_left a (first, second) = subst (leads_to None) first (subst (λ o. leads_to o taken.first) second leads)

    pub couple_in : (a b : ℕ) → IsCouple taken a b
        → (is_in (matched_names m.matches) a ≡ true) × (is_in (matched_names m.matches) b ≡ true)
    couple_in a b couple = (
      taken_in a (within a (is_in-head a (b ∷ []))),
      taken_in b (within b (is_in-tail a (b ∷ []) b (is_in-head b []))),
    )
      where
        within : (n : ℕ) → is_in (a ∷ b ∷ []) n ≡ true → is_in (names_of taken) n ≡ true
        within n there = sym (same_permuted (names_of taken) (a ∷ b ∷ []) (couple_names taken a b couple) n) ∙ there

    pub couple_apart : (a b : ℕ) → IsCouple taken a b → a ≢ b
    couple_apart a b couple same =
        both_ways (is_in (b ∷ []) a)
        (distinct_permuted (names_of taken) (a ∷ b ∷ []) (couple_names taken a b couple) taken_apart).0
        (ap (is_in (b ∷ [])) same ∙ is_in-head b [])

-- roots of trees
root_there : (table : List (Option (List Step))) (before after : List Grown) (g : Grown)
    → is_in (forest_roots (map (tree_by table) (before ++ g ∷ after))) g.root ≡ true
root_there table [] after g = is_in-head g.root (forest_roots (map (tree_by table) after))
root_there table (b ∷ bs) after g =
    is_in-tail b.root (forest_roots (map (tree_by table) (bs ++ g ∷ after))) g.root (root_there table bs after g)

-- a matched node is in no tree
pub matched_in_none : (more : List ℕ) (w : GrowingValue) → IsGrowingBeside more w → (n : ℕ)
    → is_in (matched_names w.part.matching.matches) n ≡ true → IsOutside w.forest n
matched_in_none more w are n matched t g at =
    same_permuted (g.root ∷ nodes_along g.branches) (tree_names g.root g.branches)
    (tree_listed (g.root ∷ []) [] [] g.root g.branches (IsPermutation-refl (g.root ∷ []))) n
    ∙ or_from (g.root == n) (is_in (nodes_along g.branches) n) (ne_eqb g.root n other) free
  where
    names : List ℕ
    names = matched_names w.part.matching.matches

    split : IsAmongTrees w.forest t g
    split = among_others w.forest t g at

    away : is_in (all_along (trees_in w.forest)) n ≡ false
    away =
        distinct_across (listed_names w.part.matching) (all_along (trees_in w.forest)) n are.matching.distinct
        (is_in-right w.part.matching.unmatched names n matched)

    free : is_in (nodes_along g.branches) n ≡ false
    free =
        false_from_ne_true (is_in (nodes_along g.branches) n)
        (λ h.
        both_ways (is_in (all_along (trees_in w.forest)) n) away
        (ap (λ ts. is_in (all_along ts) n) split.there
        ∙ (ap (λ l. is_in l n) (along_append split.before (g ∷ split.after))
        ∙ is_in-right (all_along split.before) (nodes_along g.branches ++ all_along split.after) n
        (is_in-left (nodes_along g.branches) (all_along split.after) n h))))

    open_root : is_in w.part.matching.unmatched g.root ≡ true
    open_root =
        are.state.1.forest.roots g.root
        ∙ is_in-left (forest_roots (map (tree_by w.part.links) (trees_in w.forest))) (waiting_in w) g.root
        (ap (λ ts. is_in (forest_roots (map (tree_by w.part.links) ts)) g.root) split.there
        ∙ root_there w.part.links split.before split.after g)

    other : g.root ≡ n → ⊥
    other same =
        both_ways (is_in names n)
        (ap (is_in names) (sym same)
        ∙ distinct_across w.part.matching.unmatched names g.root
        (distinct_left (listed_names w.part.matching) (all_along (trees_in w.forest)) are.matching.distinct) open_root)
        matched
