-- Which links and which names a part has where a search has ended.
use Rattle.std.proofs.Common.{ℕ, ◌≡◌, ◌==◌, ◌⊎◌, inl, inr, ◌||◌, cond, true, false, Bool, List, [], ◌∷◌, ◌++◌, Some, None, is_some, unwrap_or, sym, ap, subst, ◌∙◌, append_assoc}
use Rattle.std.proofs.Math.Bool.{or-false}
use Rattle.std.specs.List.Sorted.{IsPermutation}
use Rattle.std.proofs.lemmas.Bool.{cases_Bool, cases_eq, false_from_ne_true, false≢true, ne_eqb, or_from, or_parts}
use Rattle.std.proofs.lemmas.List.Sorted.{IsPermutation-append_comm, IsPermutation-append_left, IsPermutation-append_right, IsPermutation-cons, IsPermutation-middle, IsPermutation-sym, IsPermutation-trans}
use Rattle.fb_graph.specs.Parity.{is_in}
use Rattle.fb_graph.specs.Certificate.{AreDistinct}
use Rattle.fb_graph.specs.Problem.{Problem}
use Rattle.fb_graph.proofs.Members.{is_in-append, distinct_left}
use Rattle.fb_graph.proofs.Sets.{is_in-head}
use Rattle.fb_laws.specs.TreeCycles.{nodes_along}
use Rattle.fb_laws.specs.Trees.{EntryOf, plus_names}
use Rattle.fb_laws.proofs.MergedParts.{distinct_across}
use Rattle.fb_laws.proofs.OpenedBlossoms.{distinct_permuted, same_permuted}
use Rattle.fb_links.specs.declared.walk.Step.{Step}
use Rattle.fb_links.specs.Table.{Adds, is_live, link_at}
use Rattle.fb_trees.specs.Rooted.{AreHung}
use Rattle.fb_half.specs.declared.matches.Match.{Match}
use Rattle.fb_half.specs.Matchings.{MatchingValue, listed_names, matched_names}
use Rattle.fb_half.specs.Parts.{AreLinksOf, AreStepsOf}
use Rattle.fb_search.specs.InternalEndings.{Forgets, ended_matches}
use Rattle.fb_search.proofs.EndedTrees.{matches_named, names_ended, off_path, on_path}
use Rattle.fb_links.proofs.MovedLinks.{Table}

-- a number that no link has is none of the links' numbers
pub new_number : (p : Problem) (old mid : Table) (ids kept gone : List ℕ) (id : ℕ) (walk : List Step) → AreLinksOf p old ids
    → IsPermutation ids (kept ++ gone) → Adds old mid id walk → (is_in kept id ≡ false) × (is_in gone id ≡ false)
new_number p old mid ids kept gone id walk are moved adds =
    or_parts (is_in kept id) (is_in gone id)
    (sym (is_in-append kept gone id)
    ∙ (same_permuted ids (kept ++ gone) moved id ∙ (sym (are.live id) ∙ ap is_some adds.fresh)))

-- a link that is neither made nor forgotten stays
pub link_kept : (p : Problem) (old mid new : Table) (ids kept gone : List ℕ) (id : ℕ) (walk : List Step) → AreLinksOf p old ids
    → IsPermutation ids (kept ++ gone) → Adds old mid id walk → Forgets gone mid new → (k : ℕ) → is_in kept k ≡ true
    → link_at new k ≡ link_at old k
link_kept p old mid new ids kept gone id walk are moved adds forgets k within =
    forgets k
    ∙ ap (λ b. cond b None (link_at mid k))
    (distinct_across kept gone k (distinct_permuted ids (kept ++ gone) moved are.distinct) within)
    ∙ adds.others k other
  where
    other : k ≡ id → ⊥
    other same =
        false≢true (sym (new_number p old mid ids kept gone id walk are moved adds).0 ∙ (ap (is_in kept) (sym same) ∙ within))

-- One link is made, and some are forgotten.
pub links_kept : (p : Problem) (old mid new : Table) (ids kept gone : List ℕ) (id : ℕ) (walk : List Step) → AreLinksOf p old ids
    → IsPermutation ids (kept ++ gone) → Adds old mid id walk → Forgets gone mid new → AreStepsOf p walk
    → AreLinksOf p new (id ∷ kept)
links_kept p old mid new ids kept gone id walk are moved adds forgets steps = record {
  distinct = (unused.0, distinct_left kept gone apart);
  live = λ k. live k (cases_Bool (is_in gone k)) (cases_eq k id);
  steps = λ k path there. along k path there (cases_Bool (is_in gone k)) (cases_eq k id);
}
  where
    unused : (is_in kept id ≡ false) × (is_in gone id ≡ false)
    unused = new_number p old mid ids kept gone id walk are moved adds

    apart : AreDistinct (kept ++ gone)
    apart = distinct_permuted ids (kept ++ gone) moved are.distinct

    read : (k : ℕ) (b : Bool) → is_in gone k ≡ b → link_at new k ≡ cond b None (link_at mid k)
    read k b e = forgets k ∙ ap (λ c. cond c None (link_at mid k)) e

    live : (k : ℕ) → (is_in gone k ≡ true) ⊎ (is_in gone k ≡ false) → (k ≡ id) ⊎ (k ≡ id → ⊥)
        → is_live new k ≡ is_in (id ∷ kept) k
    live k (inl g) c =
        ap is_some (read k true g)
        ∙ sym (or_from (id == k) (is_in kept k)
        (ne_eqb id k (λ e. false≢true (sym unused.1 ∙ (ap (is_in gone) e ∙ g))))
        (false_from_ne_true (is_in kept k) (λ h. false≢true (sym (distinct_across kept gone k apart h) ∙ g))))
    live k (inr g) (inl e) =
        ap is_some (read k false g ∙ (ap (link_at mid) e ∙ adds.added)) ∙ sym (ap (is_in (id ∷ kept)) e ∙ is_in-head id kept)
    live k (inr g) (inr other) =
        ap is_some (read k false g ∙ adds.others k other)
        ∙ (are.live k
        ∙ (sym (same_permuted ids (kept ++ gone) moved k)
        ∙ (is_in-append kept gone k
        ∙ (ap (λ b. is_in kept k || b) g
        ∙ (or-false (is_in kept k) ∙ sym (ap (λ b. b || is_in kept k) (ne_eqb id k (λ e. other (sym e)))))))))

    along : (k : ℕ) (path : List Step) → link_at new k ≡ Some path → (is_in gone k ≡ true) ⊎ (is_in gone k ≡ false)
        → (k ≡ id) ⊎ (k ≡ id → ⊥) → AreStepsOf p path
    along k path there (inl g) c = absurd (false≢true (ap is_some (sym (read k true g) ∙ there)))
    along k path there (inr g) (inl e) =
        subst (AreStepsOf p) (ap (λ o. unwrap_or o []) made) steps
      where
        made : Some walk ≡ Some path
        made = sym adds.added ∙ (ap (link_at mid) (sym e) ∙ (sym (read k false g) ∙ there))
    along k path there (inr g) (inr other) =
        are.steps k path (sym (read k false g ∙ adds.others k other) ∙ there)

-- the order of the numbers doesn't count
pub links_permuted : (p : Problem) (table : Table) (ids others : List ℕ) → IsPermutation ids others → AreLinksOf p table ids
    → AreLinksOf p table others
links_permuted p table ids others moved are = record {
  distinct = distinct_permuted ids others moved are.distinct;
  live = λ id. are.live id ∙ sym (same_permuted ids others moved id);
  steps = are.steps;
}

-- Each name listed before, or in the tree, is listed once after: the new match has the last plus node and the names
-- that are taken with it.
pub names_listed : (m : MatchingValue) (root name : ℕ) (tree : List (EntryOf ℕ)) (taken unmatched : List ℕ) (kept : List Match)
    → AreHung root tree → is_in (plus_names root tree) name ≡ true
    → IsPermutation (listed_names m) (root ∷ (taken ++ (unmatched ++ matched_names kept)))
    → IsPermutation (listed_names m ++ nodes_along tree)
    ((unmatched ++ matched_names kept) ++ (matched_names (ended_matches tree name) ++ name ∷ taken))
names_listed m root name tree taken unmatched kept hung plus moved =
    subst (λ l. IsPermutation (listed_names m ++ nodes_along tree) (rest ++ (l ++ name ∷ taken))) (sym (matches_named tree name))
    (IsPermutation-trans _ _ _ (IsPermutation-append_left (nodes_along tree) _ _ moved)
    (IsPermutation-trans _ _ _ (IsPermutation-sym _ _ (IsPermutation-middle (taken ++ rest) root (nodes_along tree)))
    (IsPermutation-trans _ _ _ (IsPermutation-append_right (taken ++ rest) _ _ (names_ended root tree name hung plus))
    (IsPermutation-trans _ _ _ (IsPermutation-middle (taken ++ rest) name ends)
    (IsPermutation-trans _ _ _ (IsPermutation-cons name _ _ swapped)
    (IsPermutation-trans _ _ _ (IsPermutation-append_comm ((name ∷ taken) ++ ends) rest)
    (IsPermutation-append_right rest _ _ (IsPermutation-append_comm (name ∷ taken) ends))))))))
  where
    rest : List ℕ
    rest = unmatched ++ matched_names kept

    ends : List ℕ
    ends = on_path tree name ++ off_path tree name

    swapped : IsPermutation ((taken ++ rest) ++ ends) ((taken ++ ends) ++ rest)
    swapped =
        subst (λ l. IsPermutation l ((taken ++ ends) ++ rest)) (sym (append_assoc taken rest ends))
        (subst (IsPermutation (taken ++ (rest ++ ends))) (sym (append_assoc taken ends rest))
        (IsPermutation-append_right taken _ _ (IsPermutation-append_comm rest ends)))
