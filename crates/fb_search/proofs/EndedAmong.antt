-- One tree of several ends: which links are kept, and which names are listed, while others may end after it.
use Rattle.std.proofs.Common.{ℕ, ◌≡◌, ◌||◌, cond, true, false, Bool, List, [], ◌∷◌, ◌++◌, Option, None, refl, sym, ap, subst, ◌∙◌, append_assoc}
use Rattle.std.specs.List.Sorted.{IsPermutation}
use Rattle.std.proofs.lemmas.Grind.{flat_map-append}
use Rattle.std.proofs.lemmas.List.Sorted.{IsPermutation-append_left, IsPermutation-append_right, IsPermutation-to_front, IsPermutation-trans}
use Rattle.fb_graph.specs.Certificate.{AreDistinct}
use Rattle.fb_graph.specs.Parity.{is_in}
use Rattle.fb_graph.proofs.Members.{distinct_left, is_in-append}
use Rattle.fb_laws.specs.LinkNumbers.{links_dropped, tree_links}
use Rattle.fb_laws.specs.TreeCycles.{nodes_along}
use Rattle.fb_laws.proofs.OpenedBlossoms.{distinct_permuted}
use Rattle.fb_laws.proofs.PermutedTrees.{pull}
use Rattle.fb_links.specs.declared.walk.Step.{Step}
use Rattle.fb_links.specs.Table.{link_at}
use Rattle.fb_links.proofs.MovedLinks.{Table}
use Rattle.fb_trees.specs.Branches.{Grown}
use Rattle.fb_trees.specs.Rooted.{AreHung, IsPlus}
use Rattle.fb_half.specs.declared.matches.Match.{Match}
use Rattle.fb_half.specs.Matchings.{MatchingValue, listed_names, match_links, matched_names, names_of}
use Rattle.fb_search.specs.InternalEndings.{Forgets, ended_matches}
use Rattle.fb_search.specs.InternalGrowing.{grown_ids}
use Rattle.fb_search.proofs.EndedCases.{links_counted}
use Rattle.fb_search.proofs.EndedLinks.{names_listed}

-- each link is kept or dropped
pub counted_step : (g : Grown) (name : ℕ) (left : List Grown) (kept : List Match) (rings : List ℕ)
    → IsPermutation (grown_ids (g ∷ left) ++ (match_links kept ++ rings))
    ((match_links (kept ++ ended_matches g.branches name) ++ (grown_ids left ++ rings)) ++ links_dropped g.branches name)
counted_step g name left kept rings =
    subst (λ l. IsPermutation l target) (sym (append_assoc (tree_links g.branches) (grown_ids left) (match_links kept ++ rings)))
    (IsPermutation-trans _ _ _ (pull (tree_links g.branches) (grown_ids left) (match_links kept ++ rings))
    (IsPermutation-trans _ _ _
    (IsPermutation-append_right (grown_ids left) _ _ (links_counted g.branches name kept rings))
    (subst (λ l. IsPermutation l target)
    (append_assoc (grown_ids left) (match_links (kept ++ ended_matches g.branches name) ++ rings) (links_dropped g.branches name))
    (IsPermutation-append_left (links_dropped g.branches name) _ _
    (pull (grown_ids left) (match_links (kept ++ ended_matches g.branches name)) rings)))))
  where
    target : List ℕ
    target =
        (match_links (kept ++ ended_matches g.branches name) ++ (grown_ids left ++ rings)) ++ links_dropped g.branches name

-- links are forgotten in two turns
pub forgets_both : (first second : List ℕ) (old mid new : Table) → Forgets first old mid → Forgets second mid new
    → Forgets (first ++ second) old new
forgets_both first second old mid new one two k =
    two k
    ∙ (ap (cond (is_in second k) None) (one k)
    ∙ (by (is_in first k) (is_in second k) (link_at old k)
    ∙ ap (λ b. cond b None (link_at old k)) (sym (is_in-append first second k))))
  where
    by : (x y : Bool) (o : Option (List Step)) → cond y None (cond x None o) ≡ cond (x || y) None o
    by true true o = refl
    by true false o = refl
    by false y o = refl

-- the matching once the tree is matched at its plus node, which isn't listed
abbrev pub matched_but : MatchingValue → Grown → ℕ → List ℕ → MatchingValue
matched_but m g name unmatched = record { matches = m.matches ++ ended_matches g.branches name; unmatched = unmatched }

module _ (m : MatchingValue) (g : Grown) (name : ℕ) (rest : List ℕ) (hung : AreHung g.root g.branches) (plus : IsPlus g name)
    (unmatched : List ℕ) (moved : IsPermutation m.unmatched (g.root ∷ unmatched)) where
  abbrev ends : List Match
  ends = ended_matches g.branches name

  joined : unmatched ++ matched_names (m.matches ++ ended_matches g.branches name)
      ≡ (unmatched ++ matched_names m.matches) ++ matched_names (ended_matches g.branches name)
  joined =
      ap (λ l. unmatched ++ l) (flat_map-append names_of m.matches ends)
      ∙ sym (append_assoc unmatched (matched_names m.matches) (matched_names ends))

  -- that node is the only one that is listed no more
  pub listed_step : IsPermutation (listed_names m ++ (nodes_along g.branches ++ rest))
      (name ∷ (listed_names (matched_but m g name unmatched) ++ rest))
  listed_step =
      subst (λ l. IsPermutation l (name ∷ (listed_names (matched_but m g name unmatched) ++ rest)))
      (append_assoc (listed_names m) (nodes_along g.branches) rest)
      (IsPermutation-append_left rest _ _
      (subst (λ l. IsPermutation (listed_names m ++ nodes_along g.branches) (name ∷ l)) (sym joined)
      (IsPermutation-trans _ _ _
      (names_listed m g.root name g.branches [] unmatched m.matches hung plus
      (IsPermutation-append_left (matched_names m.matches) _ _ moved))
      (subst (λ l. IsPermutation l (name ∷ ((unmatched ++ matched_names m.matches) ++ matched_names ends)))
      (append_assoc (unmatched ++ matched_names m.matches) (matched_names ends) (name ∷ []))
      (IsPermutation-to_front ((unmatched ++ matched_names m.matches) ++ matched_names ends) name)))))

  module _ (distinct : AreDistinct (listed_names m ++ (nodes_along g.branches ++ rest))) where
    pub still_distinct : AreDistinct (name ∷ (listed_names (matched_but m g name unmatched) ++ rest))
    still_distinct = distinct_permuted _ _ listed_step distinct

    -- so no name is matched twice
    pub made_distinct : AreDistinct ((unmatched ++ matched_names m.matches) ++ matched_names (ended_matches g.branches name))
    made_distinct = subst AreDistinct joined (distinct_left (listed_names (matched_but m g name unmatched)) rest still_distinct.1)
