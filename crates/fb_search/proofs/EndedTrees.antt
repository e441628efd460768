-- Which nodes and links of a tree are matched where a search ends.
use Rattle.std.proofs.Common.{ℕ, ◌≡◌, ◌==◌, ◌⊎◌, inl, inr, cond, true, List, [], ◌∷◌, ◌++◌, map, refl, sym, ap, subst, ◌∙◌, append_assoc}
use Rattle.std.proofs.lemmas.Bool.{cases_eq, eq-eqb, ne_eqb}
use Rattle.std.specs.List.Sorted.{IsPermutation}
use Rattle.std.proofs.lemmas.Simd.{map-map}
use Rattle.std.proofs.lemmas.Grind.{flat_map-append}
use Rattle.std.proofs.lemmas.List.{map-append}
use Rattle.std.proofs.lemmas.List.Sorted.{IsPermutation-cons, IsPermutation-middle, IsPermutation-refl, IsPermutation-sym, IsPermutation-trans}
use Rattle.fb_graph.specs.Parity.{is_in}
use Rattle.fb_graph.proofs.Sets.{is_in-cases}
use Rattle.fb_laws.specs.LinkNumbers.{links_matched}
use Rattle.fb_laws.specs.TreeCycles.{nodes_along}
use Rattle.fb_laws.specs.Trees.{EntryOf, branches_beside, grown_links, paired_links, path_to, plus_names}
use Rattle.fb_trees.specs.Branches.{entry_of}
use Rattle.fb_trees.specs.Rooted.{AreHung}
use Rattle.fb_trees.specs.declared.branch.Branch.{Branch}
use Rattle.fb_half.specs.Matchings.{match_links, matched_names, names_of}
use Rattle.fb_search.specs.InternalEndings.{beside_match, ended_matches, path_match}

-- two elements in front go behind a third
third_first : (a b c : ℕ) (xs : List ℕ) → IsPermutation (a ∷ b ∷ c ∷ xs) (c ∷ a ∷ b ∷ xs)
third_first a b c xs = IsPermutation-middle (a ∷ b ∷ []) c xs

-- two elements in the middle go to the front
middle_two : (xs : List ℕ) (a b : ℕ) (ys : List ℕ) → IsPermutation (xs ++ a ∷ b ∷ ys) (a ∷ b ∷ (xs ++ ys))
middle_two xs a b ys =
    IsPermutation-trans _ _ _ (IsPermutation-middle xs a (b ∷ ys)) (IsPermutation-cons a _ _ (IsPermutation-middle xs b ys))

abbrev pub on_path : (tree : List (EntryOf ℕ)) (name : ℕ) → List ℕ
on_path tree name = matched_names (map path_match (path_to tree name))

abbrev pub off_path : (tree : List (EntryOf ℕ)) (name : ℕ) → List ℕ
off_path tree name = matched_names (map beside_match (branches_beside tree name))

-- the names at a branch more at the path's end
pushed_names : (es : List (EntryOf ℕ)) (e : EntryOf ℕ)
    → matched_names (map path_match (es ++ e ∷ [])) ≡ matched_names (map path_match es) ++ e.parent ∷ e.minus ∷ []
pushed_names es e =
    ap matched_names (map-append path_match es (e ∷ []))
    ∙ flat_map-append names_of (map path_match es) (path_match e ∷ [])

-- Where a search ends at the named plus node, all nodes of the tree but this one are matched, each once.
pub names_ended : (root : ℕ) (tree : List (EntryOf ℕ)) (name : ℕ) → AreHung root tree
    → is_in (plus_names root tree) name ≡ true
    → IsPermutation (root ∷ nodes_along tree) (name ∷ (on_path tree name ++ off_path tree name))
names_ended root [] name hung plus = at (is_in-cases root [] name plus)
  where
    at : (root ≡ name) ⊎ (is_in [] name ≡ true) → IsPermutation (root ∷ []) (name ∷ [])
    at (inl same) = subst (λ n. IsPermutation (root ∷ []) (n ∷ [])) same (IsPermutation-refl (root ∷ []))
    at (inr none) = cc
names_ended root (e ∷ es) name (parent, hung) plus =
    step (cases_eq e.plus name) (λ n there. names_ended root es n hung there)
  where
    among_rest : (e.plus ≡ name → ⊥) → (e.plus ≡ name) ⊎ (is_in (plus_names root es) name ≡ true)
        → is_in (plus_names root es) name ≡ true
    among_rest other (inl same) = absurd (other same)
    among_rest other (inr there) = there

    front : IsPermutation (root ∷ e.minus ∷ e.plus ∷ nodes_along es) (e.minus ∷ e.plus ∷ root ∷ nodes_along es)
    front = IsPermutation-sym _ _ (third_first e.minus e.plus root (nodes_along es))

    Ended : List (EntryOf ℕ) → List (EntryOf ℕ) → ℕ → Type 0
    Ended path others n =
        IsPermutation (root ∷ e.minus ∷ e.plus ∷ nodes_along es)
        (n ∷ (matched_names (map path_match path) ++ matched_names (map beside_match others)))

    through : IsPermutation (root ∷ nodes_along es) (e.parent ∷ (on_path es e.parent ++ off_path es e.parent))
        → Ended (path_to es e.parent ++ e ∷ []) (branches_beside es e.parent) e.plus
    through rest =
        subst (λ l. IsPermutation (root ∷ e.minus ∷ e.plus ∷ nodes_along es) (e.plus ∷ (l ++ off_path es e.parent)))
        (sym (pushed_names (path_to es e.parent) e))
        (subst (λ l. IsPermutation (root ∷ e.minus ∷ e.plus ∷ nodes_along es) (e.plus ∷ l))
        (sym (append_assoc (on_path es e.parent) (e.parent ∷ e.minus ∷ []) (off_path es e.parent)))
        (IsPermutation-trans _ _ _ front
        (IsPermutation-trans _ _ _ (IsPermutation-cons e.minus _ _ (IsPermutation-cons e.plus _ _ rest))
        (IsPermutation-trans _ _ _ (IsPermutation-middle (e.minus ∷ []) e.plus _)
        (IsPermutation-cons e.plus _ _
        (IsPermutation-trans _ _ _ (IsPermutation-middle (e.minus ∷ []) e.parent _)
        (IsPermutation-sym _ _ (middle_two (on_path es e.parent) e.parent e.minus (off_path es e.parent)))))))))

    past : IsPermutation (root ∷ nodes_along es) (name ∷ (on_path es name ++ off_path es name))
        → Ended (path_to es name) (e ∷ branches_beside es name) name
    past rest =
        IsPermutation-trans _ _ _ front
        (IsPermutation-trans _ _ _ (IsPermutation-cons e.minus _ _ (IsPermutation-cons e.plus _ _ rest))
        (IsPermutation-trans _ _ _ (third_first e.minus e.plus name _)
        (IsPermutation-cons name _ _ (IsPermutation-sym _ _ (middle_two (on_path es name) e.minus e.plus (off_path es name))))))

    step : (e.plus ≡ name) ⊎ (e.plus ≡ name → ⊥)
        → ((n : ℕ) → is_in (plus_names root es) n ≡ true → IsPermutation (root ∷ nodes_along es) (n ∷ (on_path es n ++ off_path es n)))
        → Ended (cond (e.plus == name) (path_to es e.parent ++ e ∷ []) (path_to es name))
        (cond (e.plus == name) (branches_beside es e.parent) (e ∷ branches_beside es name)) name
    step (inl same) rest =
        subst (λ b. Ended (cond b (path_to es e.parent ++ e ∷ []) (path_to es name)) (cond b (branches_beside es e.parent) (e ∷ branches_beside es name)) name)
        (sym (eq-eqb e.plus name same))
        (subst (Ended (path_to es e.parent ++ e ∷ []) (branches_beside es e.parent)) same (through (rest e.parent parent)))
    step (inr other) rest =
        subst (λ b. Ended (cond b (path_to es e.parent ++ e ∷ []) (path_to es name)) (cond b (branches_beside es e.parent) (e ∷ branches_beside es name)) name)
        (sym (ne_eqb e.plus name other))
        (past (rest name (among_rest other (is_in-cases e.plus (plus_names root es) name plus))))

pub matches_named : (tree : List (EntryOf ℕ)) (name : ℕ)
    → matched_names (ended_matches tree name) ≡ on_path tree name ++ off_path tree name
matches_named tree name =
    flat_map-append names_of (map path_match (path_to tree name)) (map beside_match (branches_beside tree name))

path_links : (es : List (EntryOf ℕ)) → match_links (map path_match es) ≡ grown_links es
path_links [] = refl
path_links (e ∷ es) = ap (λ l. e.tree ∷ l) (path_links es)

pub beside_links : (es : List (EntryOf ℕ)) → match_links (map beside_match es) ≡ paired_links es
beside_links [] = refl
beside_links (e ∷ es) = ap (λ l. e.matched ∷ l) (beside_links es)

-- their links are those that are matched
pub matches_linked : (tree : List (EntryOf ℕ)) (name : ℕ) → match_links (ended_matches tree name) ≡ links_matched tree name
matches_linked tree name =
    map-append (λ m. m.link) (map path_match (path_to tree name)) (map beside_match (branches_beside tree name))
    ∙ ap (λ l. l ++ match_links (map beside_match (branches_beside tree name))) (path_links (path_to tree name))
    ∙ ap (λ l. grown_links (path_to tree name) ++ l) (beside_links (branches_beside tree name))

-- what is read of each branch of a list, from its form as an entry
pub read_as : {X : Type 0} (f : EntryOf ℕ → X) (bs : List Branch) (es : List (EntryOf ℕ)) → map entry_of bs ≡ es
    → map (λ b. f (entry_of b)) bs ≡ map f es
read_as f bs es is = sym (map-map f entry_of bs) ∙ ap (map f) is
