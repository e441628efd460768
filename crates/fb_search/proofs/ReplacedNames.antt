-- A matching that lists a new unmatched name in the place of an old one.
use Rattle.std.proofs.Common.{ℕ, ◌≡◌, ◌==◌, true, false, [], ◌∷◌, ◌++◌, refl, sym, ap, ◌∙◌, subst}
use Rattle.std.specs.List.Sorted.{IsPermutation}
use Rattle.std.proofs.lemmas.Bool.{or_parts}
use Rattle.std.proofs.lemmas.List.Sorted.{IsPermutation-append_comm, IsPermutation-append_left, IsPermutation-middle, IsPermutation-sym}
use Rattle.fb_graph.specs.Parity.{is_in}
use Rattle.fb_laws.proofs.OpenedBlossoms.{same_permuted}
use Rattle.fb_half.specs.Matchings.{MatchingValue, listed_names, matched_names}
use Rattle.fb_search.specs.InternalClosings.{IsReplacedBy}
use Rattle.fb_laws.proofs.CycleWays.{split_in}

-- with a name taken off, the matching lists no further name
pub unlisted : (before taken : MatchingValue) (old new : ℕ) → is_in (listed_names before) new ≡ false
    → taken.matches ≡ before.matches → IsPermutation before.unmatched (old ∷ taken.unmatched)
    → is_in (listed_names taken) new ≡ false
unlisted before taken old new out same moved =
    let listed : is_in (old ∷ (taken.unmatched ++ matched_names before.matches)) new ≡ false =
    same_permuted (listed_names before) ((old ∷ taken.unmatched) ++ matched_names before.matches)
    (IsPermutation-append_left (matched_names before.matches) before.unmatched (old ∷ taken.unmatched) moved) new
    ∙ out in
    ap (λ ms. is_in (taken.unmatched ++ matched_names ms) new) same
    ∙ (or_parts (old == new) (is_in (taken.unmatched ++ matched_names before.matches) new) listed).1

pub replaced_by : (before taken after : MatchingValue) (old new : ℕ) → taken.matches ≡ before.matches
    → IsPermutation before.unmatched (old ∷ taken.unmatched)
    → after ≡ record { matches = taken.matches; unmatched = taken.unmatched ++ new ∷ [] }
    → IsReplacedBy old new before after
replaced_by before taken after old new same moved is = record {
  beside = taken.unmatched;
  was = moved;
  unmatched = subst (IsPermutation (new ∷ taken.unmatched)) (sym (ap (λ m. m.unmatched) is))
      (IsPermutation-append_comm (new ∷ []) taken.unmatched);
  matches = ap (λ m. m.matches) is ∙ same;
}

-- the same name again
pub replaced_same : (m : MatchingValue) (old new : ℕ) → is_in m.unmatched old ≡ true → new ≡ old → IsReplacedBy old new m m
replaced_same m old new listed same =
    let (before, after, is) = split_in m.unmatched old listed in
    let moved : IsPermutation m.unmatched (old ∷ (before ++ after)) =
    subst (λ l. IsPermutation l (old ∷ (before ++ after))) (sym is) (IsPermutation-middle before old after) in
    record {
      beside = before ++ after;
      was = moved;
      unmatched = subst (λ n. IsPermutation (n ∷ (before ++ after)) m.unmatched) (sym same)
          (IsPermutation-sym m.unmatched (old ∷ (before ++ after)) moved);
      matches = refl;
    }
