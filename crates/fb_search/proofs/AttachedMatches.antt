-- A matching whose match is taken out, its two nodes being in a tree from then on.
use Rattle.std.proofs.Common.{ℕ, ◌≡◌, List, [], ◌∷◌, ◌++◌, Option, sym, ap, ◌∙◌, subst, append_assoc}
use Rattle.std.specs.List.Sorted.{IsPermutation}
use Rattle.std.proofs.lemmas.List.Elements.{All-tail}
use Rattle.std.proofs.lemmas.List.Sorted.{All-permutation, IsPermutation-append_comm, IsPermutation-append_left, IsPermutation-append_right, IsPermutation-trans}
use Rattle.fb_graph.specs.Problem.{Problem}
use Rattle.fb_graph.specs.Dual.{Node}
use Rattle.fb_links.specs.declared.walk.Step.{Step}
use Rattle.fb_laws.proofs.OpenedBlossoms.{distinct_permuted, same_permuted}
use Rattle.fb_half.specs.Matchings.{IsMatchOf, IsMatchingOf, MatchingValue, listed_names, matched_names, names_of}
use Rattle.fb_half.specs.Translations.{link_by}
use Rattle.fb_half.specs.declared.matches.Match.{Match}

module _ (p : Problem) (nodes : List Node) (links : List (Option (List Step))) (old new : MatchingValue) (found : Match)
    (minus plus : ℕ) (others : List ℕ) (taken : IsPermutation old.matches (found ∷ new.matches))
    (names : IsPermutation (matched_names old.matches) (names_of found ++ matched_names new.matches))
    (same : new.unmatched ≡ old.unmatched) (two : IsPermutation (names_of found) (minus ∷ plus ∷ []))
    (was : IsMatchingOf p nodes links old others) where
  abbrev both : List ℕ
  both = minus ∷ plus ∷ []

  abbrev before : List ℕ
  before = listed_names old ++ others

  abbrev after : List ℕ
  after = listed_names new ++ (both ++ others)

  matched_moved : IsPermutation (matched_names old.matches) (matched_names new.matches ++ both)
  matched_moved =
      IsPermutation-trans (matched_names old.matches) (names_of found ++ matched_names new.matches) (matched_names new.matches ++ both)
      names
      (IsPermutation-trans (names_of found ++ matched_names new.matches) (matched_names new.matches ++ names_of found)
      (matched_names new.matches ++ both) (IsPermutation-append_comm (names_of found) (matched_names new.matches))
      (IsPermutation-append_right (matched_names new.matches) (names_of found) both two))

  regrouped : (old.unmatched ++ (matched_names new.matches ++ both)) ++ others ≡ after
  regrouped =
      ap (λ l. l ++ others) (sym (append_assoc old.unmatched (matched_names new.matches) both))
      ∙ (append_assoc (old.unmatched ++ matched_names new.matches) both others
      ∙ ap (λ u. (u ++ matched_names new.matches) ++ (both ++ others)) (sym same))

  moved : IsPermutation before after
  moved =
      subst (IsPermutation before) regrouped
      (IsPermutation-append_left others (old.unmatched ++ matched_names old.matches)
      (old.unmatched ++ (matched_names new.matches ++ both))
      (IsPermutation-append_right old.unmatched (matched_names old.matches) (matched_names new.matches ++ both) matched_moved))

  abbrev Connected : Match → Type 0
  Connected e = IsMatchOf p nodes (link_by links e.link) e.first e.second

  pub matching_attached : IsMatchingOf p nodes links new (minus ∷ plus ∷ others)
  matching_attached = record {
    distinct = distinct_permuted before after moved was.distinct;
    live = λ n h. was.live n (sym (same_permuted before after moved n) ∙ h);
    all = λ n live outer. same_permuted before after moved n ∙ was.all n live outer;
    connects =
        All-tail Connected found new.matches (All-permutation Connected old.matches (found ∷ new.matches) taken was.connects);
  }
