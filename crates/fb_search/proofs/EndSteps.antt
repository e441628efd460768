-- Matches added and links forgotten, one after another, where a search ends.
use Rattle.std.proofs.Common.{ℕ, zero, suc, ◌≡◌, ◌==◌, ◌<◌, ◌⊎◌, inl, inr, cond, true, false, All, List, [], ◌∷◌, ◌++◌, length, take, get_or, Option, None, is_some, refl, sym, ap, subst, ◌∙◌, append-nil, append_assoc, arith}
use Rattle.std.proofs.lemmas.Bool.{false_from_ne_true, false≢true, ne_eqb, or_from}
use Rattle.std.proofs.lemmas.Grind.{flat_map-append}
use Rattle.fb_graph.specs.Parity.{is_in}
use Rattle.fb_graph.specs.Certificate.{AreDistinct}
use Rattle.fb_graph.proofs.Members.{distinct_left}
use Rattle.fb_graph.proofs.Sets.{is_in_at}
use Rattle.fb_laws.proofs.MergedParts.{distinct_across}
use Rattle.fb_links.specs.declared.walk.Step.{Step}
use Rattle.fb_links.specs.Table.{is_live, link_at}
use Rattle.fb_half.specs.declared.matches.Match.{Match}
use Rattle.fb_half.specs.Matchings.{MatchingValue, listed_names, matched_names, names_of}
use Rattle.fb_search.specs.InternalEndings.{Forgets}
use Rattle.fb_graph.proofs.Floods.{is_in-both, is_in-left}

-- no element of such a list comes before itself
distinct_at : (xs : List ℕ) (i d : ℕ) → AreDistinct xs → i < length xs → is_in (take i xs) (get_or xs i d) ≡ false
distinct_at [] i d distinct lt = absurd (omega (arith, lt))
distinct_at (x ∷ xs) zero d distinct lt = refl
distinct_at (x ∷ xs) (suc i) d (new, distinct) lt =
    or_from (x == get_or xs i d) (is_in (take i xs) (get_or xs i d)) (ne_eqb x (get_or xs i d) other)
    (distinct_at xs i d distinct (omega (arith, lt)))
  where
    other : x ≡ get_or xs i d → ⊥
    other same = false≢true (sym new ∙ (ap (is_in xs) same ∙ is_in_at xs i d (omega (arith, lt))))

pub live_still : (ids : List ℕ) (i d : ℕ) (old new : List (Option (List Step))) → Forgets (take i ids) old new
    → All (λ id. is_live old id ≡ true) ids → AreDistinct ids → i < length ids → is_live new (get_or ids i d) ≡ true
live_still ids i d old new forgets live distinct lt =
    let id = get_or ids i d in
    ap is_some (forgets id ∙ ap (λ b. cond b None (link_at old id)) (distinct_at ids i d distinct lt)) ∙ live i d lt

-- names of a later match are not yet listed
fresh : (names : List ℕ) (ms : List Match) (i : ℕ) (d : Match) → AreDistinct (names ++ matched_names ms) → i < length ms
    → (n : ℕ) → is_in (names_of (get_or ms i d)) n ≡ true → is_in (names ++ matched_names (take i ms)) n ≡ false
fresh names [] i d distinct lt n within = absurd (omega (arith, lt))
fresh names (m ∷ ms) zero d distinct lt n within =
    false_from_ne_true (is_in (names ++ []) n) (λ h. clash (is_in-both names [] n h))
  where
    clash : (is_in names n ≡ true) ⊎ (is_in [] n ≡ true) → ⊥
    clash (inl there) =
        false≢true (sym (distinct_across names (names_of m ++ matched_names ms) n distinct there)
        ∙ is_in-left (names_of m) (matched_names ms) n within)
    clash (inr none) = false≢true none
fresh names (m ∷ ms) (suc i) d distinct lt n within =
    subst (λ l. is_in l n ≡ false) (append_assoc names (names_of m) (matched_names (take i ms)))
    (fresh (names ++ names_of m) ms i d
    (subst AreDistinct (sym (append_assoc names (names_of m) (matched_names ms))) distinct) (omega (arith, lt)) n within)

pub fresh_listed : (m : MatchingValue) (ms : List Match) (i : ℕ) (d : Match) (k e : ℕ)
    → AreDistinct (listed_names m ++ matched_names ms) → i < length ms → k < length (names_of (get_or ms i d))
    → is_in (listed_names (record { matches = m.matches ++ take i ms; unmatched = m.unmatched }))
    (get_or (names_of (get_or ms i d)) k e)
    ≡ false
fresh_listed m ms i d k e distinct lt below =
    let n = get_or (names_of (get_or ms i d)) k e in
    ap (λ l. is_in (m.unmatched ++ l) n) (flat_map-append names_of m.matches (take i ms))
    ∙ ap (λ l. is_in l n) (sym (append_assoc m.unmatched (matched_names m.matches) (matched_names (take i ms))))
    ∙ fresh (listed_names m) ms i d distinct lt n (is_in_at (names_of (get_or ms i d)) k e below)

-- the names with those of a last match
whole : (m : MatchingValue) (ms : List Match) (out : Match)
    → AreDistinct (listed_names m ++ matched_names (ms ++ out ∷ []))
    → AreDistinct ((listed_names m ++ matched_names ms) ++ names_of out)
whole m ms out distinct =
    subst AreDistinct
    (ap (λ l. listed_names m ++ l) (flat_map-append names_of ms (out ∷ []) ∙ ap (λ l. matched_names ms ++ l) (append-nil (names_of out)))
    ∙ sym (append_assoc (listed_names m) (matched_names ms) (names_of out))) distinct

-- a last match after others: the others are of distinct nodes, and its names are not yet listed
pub distinct_before : (m : MatchingValue) (ms : List Match) (out : Match)
    → AreDistinct (listed_names m ++ matched_names (ms ++ out ∷ [])) → AreDistinct (listed_names m ++ matched_names ms)
distinct_before m ms out distinct =
    distinct_left (listed_names m ++ matched_names ms) (names_of out) (whole m ms out distinct)

pub fresh_last : (m : MatchingValue) (ms : List Match) (out : Match)
    → AreDistinct (listed_names m ++ matched_names (ms ++ out ∷ []))
    → All (λ n. is_in (listed_names (record { matches = m.matches ++ ms; unmatched = m.unmatched })) n ≡ false) (names_of out)
fresh_last m ms out distinct k e below =
    let n = get_or (names_of out) k e in
    ap (λ l. is_in (m.unmatched ++ l) n) (flat_map-append names_of m.matches ms)
    ∙ ap (λ l. is_in l n) (sym (append_assoc m.unmatched (matched_names m.matches) (matched_names ms)))
    ∙ false_from_ne_true (is_in (listed_names m ++ matched_names ms) n)
    (λ there.
    false≢true (sym (distinct_across (listed_names m ++ matched_names ms) (names_of out) n (whole m ms out distinct) there)
    ∙ is_in_at (names_of out) k e below))
