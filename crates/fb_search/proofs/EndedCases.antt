-- The ways in which a search ends: which names and links stay in each.
use Rattle.std.proofs.Common.{ℕ, ◌≡◌, List, [], ◌∷◌, ◌++◌, sym, ap, subst, ◌∙◌, append_assoc}
use Rattle.std.specs.List.Sorted.{IsPermutation}
use Rattle.std.proofs.lemmas.List.{map-append}
use Rattle.std.proofs.lemmas.List.Sorted.{IsPermutation-append_comm, IsPermutation-append_left, IsPermutation-append_right, IsPermutation-trans}
use Rattle.fb_laws.specs.LinkNumbers.{links_dropped, links_matched, tree_links}
use Rattle.fb_laws.specs.Trees.{EntryOf}
use Rattle.fb_laws.proofs.LinkNumbers.{links_ended_of}
use Rattle.fb_half.specs.declared.matches.Match.{Match}
use Rattle.fb_half.specs.Matchings.{MatchingValue, match_links, matched_names, names_of}
use Rattle.fb_search.specs.InternalEndings.{ended_matches}
use Rattle.fb_search.proofs.EndedMatches.{AreTaken}
use Rattle.fb_search.proofs.EndedTrees.{matches_linked}

-- at the boundary the root alone is no more unmatched
pub taken_at_boundary : (m : MatchingValue) (root name : ℕ) (unmatched : List ℕ) (out : Match) → names_of out ≡ name ∷ []
    → IsPermutation m.unmatched (root ∷ unmatched) → AreTaken m root name unmatched m.matches out
taken_at_boundary m root name unmatched out names moved = record {
  taken = [];
  names = names;
  listed = IsPermutation-append_left (matched_names m.matches) _ _ moved;
  kept_are = λ e a. a;
}

-- at another unmatched node this one is matched too
pub taken_with : (m : MatchingValue) (root name other : ℕ) (unmatched : List ℕ) (out : Match) → names_of out ≡ name ∷ other ∷ []
    → IsPermutation m.unmatched (root ∷ other ∷ unmatched) → AreTaken m root name unmatched m.matches out
taken_with m root name other unmatched out names moved = record {
  taken = other ∷ [];
  names = names;
  listed = IsPermutation-append_left (matched_names m.matches) _ _ moved;
  kept_are = λ e a. a;
}

-- Where all matches stay, each link of the search is kept or dropped.
pub links_counted : (tree : List (EntryOf ℕ)) (name : ℕ) (kept : List Match) (rings : List ℕ)
    → IsPermutation (tree_links tree ++ (match_links kept ++ rings))
    ((match_links (kept ++ ended_matches tree name) ++ rings) ++ links_dropped tree name)
links_counted tree name kept rings =
    subst (λ l. IsPermutation (tree_links tree ++ (ms ++ rings)) ((l ++ rings) ++ dropped))
    (sym (map-append (λ m. m.link) kept (ended_matches tree name) ∙ ap (λ l. ms ++ l) (matches_linked tree name)))
    (IsPermutation-trans _ _ _ (IsPermutation-append_left (ms ++ rings) _ _ (links_ended_of tree name))
    (IsPermutation-trans _ _ _ (IsPermutation-append_comm (made ++ dropped) (ms ++ rings))
    (subst (λ l. IsPermutation l (((ms ++ made) ++ rings) ++ dropped)) (append_assoc (ms ++ rings) made dropped)
    (IsPermutation-append_left dropped _ _
    (subst (λ l. IsPermutation l ((ms ++ made) ++ rings)) (sym (append_assoc ms rings made))
    (subst (IsPermutation (ms ++ (rings ++ made))) (sym (append_assoc ms made rings))
    (IsPermutation-append_right ms _ _ (IsPermutation-append_comm rings made))))))))
  where
    ms : List ℕ
    ms = match_links kept

    made : List ℕ
    made = links_matched tree name

    dropped : List ℕ
    dropped = links_dropped tree name
