-- The matching of a part where a search has ended.
use Rattle.std.proofs.Common.{ℕ, ◌≡◌, ◌⊎◌, inl, inr, true, All, List, [], ◌∷◌, ◌++◌, map, unwrap_or, refl, sym, ap, subst, ◌∙◌, append_assoc}
use Rattle.std.specs.List.Sorted.{IsPermutation}
use Rattle.std.proofs.lemmas.Grind.{flat_map-append}
use Rattle.std.proofs.lemmas.List.Sorted.{All-permutation, IsPermutation-sym}
use Rattle.fb_graph.specs.Parity.{is_in}
use Rattle.fb_graph.specs.Dual.{Node}
use Rattle.fb_graph.specs.Problem.{Problem}
use Rattle.fb_graph.proofs.Among.{IsAmong, All_among, among_All, among_either, among_left, among_map, among_right}
use Rattle.fb_laws.specs.TreeCycles.{nodes_along}
use Rattle.fb_laws.specs.Trees.{Connects, EntryOf, IsTree, branches_beside, path_to, plus_names}
use Rattle.fb_laws.proofs.OpenedBlossoms.{distinct_permuted, same_permuted}
use Rattle.fb_laws.proofs.SearchTrees.{path_beside}
use Rattle.fb_links.specs.Table.{link_at}
use Rattle.fb_trees.specs.Rooted.{AreHung}
use Rattle.fb_half.specs.declared.matches.Match.{Match}
use Rattle.fb_half.specs.Matchings.{IsMatchOf, IsMatchingOf, MatchingValue, listed_names, match_links, matched_names, names_of}
use Rattle.fb_half.specs.Translations.{entry_by, link_by, link_of}
use Rattle.fb_search.specs.InternalEndings.{all_matches, beside_match, ended_matches, path_match}
use Rattle.fb_search.proofs.EndedLinks.{names_listed}
use Rattle.fb_links.proofs.MovedLinks.{Table}
use Rattle.fb_half.proofs.FreedMatches.{link_in}

-- the links of the branch lead where they should
abbrev IsBranchBy : List Node → Table → EntryOf ℕ → Type 0
IsBranchBy nodes table e =
    Connects nodes (link_by table e.tree) e.parent e.minus × Connects nodes (link_by table e.matched) e.minus e.plus

branches_lead : (nodes : List Node) (root : ℕ) (table : Table) (tree : List (EntryOf ℕ))
    → IsTree nodes root (map (entry_by table) tree) → (e : EntryOf ℕ) → IsAmong e tree → IsBranchBy nodes table e
branches_lead nodes root table [] tree_is e a = absurd a
branches_lead nodes root table (x ∷ xs) (parent, first, second, rest) e (inl same) =
    subst (IsBranchBy nodes table) same (first, second)
branches_lead nodes root table (x ∷ xs) (parent, first, second, rest) e (inr a) =
    branches_lead nodes root table xs rest e a

-- the link of the match, by this table, leads to its nodes
abbrev pub LeadsBy : Problem → List Node → Table → Match → Type 0
LeadsBy p nodes table e = IsMatchOf p nodes (link_by table e.link) e.first e.second

-- the matches made of the tree
pub tree_matches_lead : (p : Problem) (nodes : List Node) (root name : ℕ) (table : Table) (tree : List (EntryOf ℕ))
    → IsTree nodes root (map (entry_by table) tree) → (m : Match) → IsAmong m (ended_matches tree name)
    → LeadsBy p nodes table m
tree_matches_lead p nodes root name table tree tree_is m a =
    by (among_either (map path_match (path_to tree name)) (map beside_match (branches_beside tree name)) m a)
  where
    whole : All (IsBranchBy nodes table) (path_to tree name ++ branches_beside tree name)
    whole =
        All-permutation (IsBranchBy nodes table) tree (path_to tree name ++ branches_beside tree name)
        (IsPermutation-sym _ _ (path_beside tree name))
        (among_All (IsBranchBy nodes table) tree (branches_lead nodes root table tree tree_is))

    by : IsAmong m (map path_match (path_to tree name)) ⊎ IsAmong m (map beside_match (branches_beside tree name)) → LeadsBy p nodes table m
    by (inl up) =
        let (e, there, is) = among_map path_match (path_to tree name) m up in
        subst (LeadsBy p nodes table) is
        (All_among (IsBranchBy nodes table) (path_to tree name ++ branches_beside tree name) whole e
        (among_left (path_to tree name) (branches_beside tree name) e there)).0
    by (inr off) =
        let (e, there, is) = among_map beside_match (branches_beside tree name) m off in
        subst (LeadsBy p nodes table) is
        (All_among (IsBranchBy nodes table) (path_to tree name ++ branches_beside tree name) whole e
        (among_right (path_to tree name) (branches_beside tree name) e there)).1

-- matches whose links stay lead where they led
pub leads_still : (p : Problem) (nodes : List Node) (old new : Table) (ms : List Match)
    → ((id : ℕ) → is_in (match_links ms) id ≡ true → link_at new id ≡ link_at old id)
    → ((m : Match) → IsAmong m ms → LeadsBy p nodes old m) → All (LeadsBy p nodes new) ms
leads_still p nodes old new ms stays lead = among_All (LeadsBy p nodes new) ms each
  where
    each : (m : Match) → IsAmong m ms → LeadsBy p nodes new m
    each m a =
        subst (λ l. IsMatchOf p nodes l m.first m.second)
        (ap (λ o. link_of (unwrap_or o [])) (sym (stays m.link (link_in ms m a)))) (lead m a)

append_empty : (xs : List ℕ) → xs ++ [] ≡ xs
append_empty [] = refl
append_empty (x ∷ xs) = ap (λ l. x ∷ l) (append_empty xs)

names_all : (kept : List Match) (tree : List (EntryOf ℕ)) (name : ℕ) (out : Match) (unmatched : List ℕ)
    → (unmatched ++ matched_names (all_matches kept tree name out)) ++ []
    ≡ (unmatched ++ matched_names kept) ++ (matched_names (ended_matches tree name) ++ names_of out)
names_all kept tree name out unmatched =
    append_empty (unmatched ++ matched_names (all_matches kept tree name out))
    ∙ (ap (λ l. unmatched ++ l)
    (flat_map-append names_of kept (ended_matches tree name ++ out ∷ [])
    ∙ ap (λ l. matched_names kept ++ l)
    (flat_map-append names_of (ended_matches tree name) (out ∷ [])
    ∙ ap (λ l. matched_names (ended_matches tree name) ++ l) (append_empty (names_of out))))
    ∙ sym (append_assoc unmatched (matched_names kept) (matched_names (ended_matches tree name) ++ names_of out)))

-- the names beside the new match, and what stays of the lists
pub record AreTaken (m : MatchingValue) (root name : ℕ) (unmatched : List ℕ) (kept : List Match) (out : Match) : Type 0 where
  pub taken : List ℕ
  pub names : names_of out ≡ name ∷ taken
  pub listed : IsPermutation (listed_names m) (root ∷ (taken ++ (unmatched ++ matched_names kept)))
  pub kept_are : (e : Match) → IsAmong e kept → IsAmong e m.matches

-- The matching where a search has ended lists all outer nodes.
pub ended_matching : (p : Problem) (nodes : List Node) (old new : Table) (m : MatchingValue) (root name : ℕ)
    (tree : List (EntryOf ℕ)) (unmatched : List ℕ) (kept : List Match) (out : Match)
    → IsMatchingOf p nodes old m (nodes_along tree) → IsTree nodes root (map (entry_by old) tree) → AreHung root tree
    → is_in (plus_names root tree) name ≡ true → AreTaken m root name unmatched kept out
    → ((id : ℕ) → is_in (match_links (kept ++ ended_matches tree name)) id ≡ true → link_at new id ≡ link_at old id)
    → LeadsBy p nodes new out
    → IsMatchingOf p nodes new (record { matches = all_matches kept tree name out; unmatched = unmatched }) []
ended_matching p nodes old new m root name tree unmatched kept out are tree_is hung plus takes stays leads = record {
  distinct = distinct_permuted _ _ moved are.distinct;
  live = λ n within. are.live n (sym (same_permuted _ _ moved n) ∙ within);
  all = λ n live outer. same_permuted _ _ moved n ∙ are.all n live outer;
  connects = among_All (LeadsBy p nodes new) (all_matches kept tree name out) each;
}
  where
    moved : IsPermutation (listed_names m ++ nodes_along tree) ((unmatched ++ matched_names (all_matches kept tree name out)) ++ [])
    moved =
        subst (IsPermutation (listed_names m ++ nodes_along tree)) (sym (names_all kept tree name out unmatched))
        (subst (λ l. IsPermutation (listed_names m ++ nodes_along tree)
        ((unmatched ++ matched_names kept) ++ (matched_names (ended_matches tree name) ++ l))) (sym takes.names)
        (names_listed m root name tree takes.taken unmatched kept hung plus takes.listed))

    old_leads : (e : Match) → IsAmong e kept ⊎ IsAmong e (ended_matches tree name) → LeadsBy p nodes old e
    old_leads e (inl a) = All_among (LeadsBy p nodes old) m.matches are.connects e (takes.kept_are e a)
    old_leads e (inr a) = tree_matches_lead p nodes root name old tree tree_is e a

    before : All (LeadsBy p nodes new) (kept ++ ended_matches tree name)
    before =
        leads_still p nodes old new (kept ++ ended_matches tree name) stays
        (λ e a. old_leads e (among_either kept (ended_matches tree name) e a))

    each : (e : Match) → IsAmong e (all_matches kept tree name out) → LeadsBy p nodes new e
    each e a = by (among_either kept (ended_matches tree name ++ out ∷ []) e a)
      where
        last : IsAmong e (ended_matches tree name) ⊎ IsAmong e (out ∷ []) → LeadsBy p nodes new e
        last (inl b) =
            All_among (LeadsBy p nodes new) (kept ++ ended_matches tree name) before e
            (among_right kept (ended_matches tree name) e b)
        last (inr (inl same)) = subst (LeadsBy p nodes new) same leads
        last (inr (inr none)) = absurd none

        by : IsAmong e kept ⊎ IsAmong e (ended_matches tree name ++ out ∷ []) → LeadsBy p nodes new e
        by (inl b) =
            All_among (LeadsBy p nodes new) (kept ++ ended_matches tree name) before e
            (among_left kept (ended_matches tree name) e b)
        by (inr b) = last (among_either (ended_matches tree name) (out ∷ []) e b)
