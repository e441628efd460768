-- Matches under other numbers of their links and names of their nodes.
use Rattle.std.proofs.Common.{ℕ, ◌≡◌, ◌<◌, ◌+◌, true, false, List, [], ◌∷◌, ◌++◌, map, length, get_or, take, All, Option, Some, None, refl, sym, ap, ◌∙◌, subst, append_assoc, arith}
use Rattle.std.proofs.lemmas.Grind.{flat_map-append}
use Rattle.std.proofs.lemmas.List.{get_or-map, length-map, take-map, map_more}
use Rattle.fb_graph.specs.Parity.{is_in}
use Rattle.fb_graph.specs.Certificate.{AreDistinct}
use Rattle.fb_graph.proofs.Sets.{All-from_is_in}
use Rattle.fb_half.specs.declared.matches.Match.{Match}
use Rattle.fb_half.specs.Matchings.{MatchingValue, listed_names, matched_names, names_of}
use Rattle.fb_half.specs.Merged.{renamed_match, renamed_second}
use Rattle.fb_half.proofs.FreedMatches.{names_new}

-- functions that are equal at each number rename alike
pub same_renaming : (g h f k : ℕ → ℕ) → ((a : ℕ) → g a ≡ h a) → ((a : ℕ) → f a ≡ k a) → (m : Match) → renamed_match g f m ≡ renamed_match h k m
same_renaming g h f k links nodes m =
    ap (λ a. record { link = a; first = f m.first; second = renamed_second f m.second }) (links m.link)
    ∙ (ap (λ a. record { link = h m.link; first = a; second = renamed_second f m.second }) (nodes m.first)
    ∙ ap (λ a. record { link = h m.link; first = k m.first; second = a }) (seconds m.second))
  where
    seconds : (o : Option ℕ) → renamed_second f o ≡ renamed_second k o
    seconds None = refl
    seconds (Some b) = ap Some (nodes b)

-- the next match's names are not listed yet
pub unlisted_next : (change : Match → Match) (before now : MatchingValue) (others : List Match) (i : ℕ) (d m : Match) → i < length others
    → AreDistinct (listed_names before ++ matched_names (map change others))
    → now ≡ record { matches = before.matches ++ map change (take i others); unmatched = before.unmatched }
    → m ≡ change (get_or others i d) → All (λ name. is_in (listed_names now) name ≡ false) (names_of m)
unlisted_next change before now others i d m less distinct is named =
    subst (λ l. All (λ name. is_in (listed_names l) name ≡ false) (names_of m)) (sym is)
    (subst (λ l. All (λ name. is_in l name ≡ false) (names_of m)) split
    (All-from_is_in (λ name. is_in (listed_names before ++ matched_names (map change (take i others))) name ≡ false) (names_of m)
    (λ v within.
    ap (λ l. is_in (listed_names before ++ matched_names l) v) (sym (take-map change i others))
    ∙ names_new names_of (listed_names before) (map change others) i (change d) (omega (arith, less, length-map others change)) distinct v
    (subst (λ e. is_in (names_of e) v ≡ true) (named ∙ sym (get_or-map change others i d (change d) less)) within))))
  where
    split : listed_names before ++ matched_names (map change (take i others))
        ≡ before.unmatched ++ matched_names (before.matches ++ map change (take i others))
    split =
        append_assoc before.unmatched (matched_names before.matches) (matched_names (map change (take i others)))
        ∙ ap (λ l. before.unmatched ++ l) (sym (flat_map-append names_of before.matches (map change (take i others))))

-- the list with one match more
pub taken_more : (change : Match → Match) (before now after : MatchingValue) (others : List Match) (i : ℕ) (d m : Match) → i < length others
    → now ≡ record { matches = before.matches ++ map change (take i others); unmatched = before.unmatched }
    → m ≡ change (get_or others i d) → after ≡ record { matches = now.matches ++ m ∷ []; unmatched = now.unmatched }
    → after ≡ record { matches = before.matches ++ map change (take (i + 1) others); unmatched = before.unmatched }
taken_more change before now after others i d m less is named new =
    new
    ∙ (ap (λ l. record { matches = l.matches ++ m ∷ []; unmatched = l.unmatched }) is
    ∙ ap (λ l. record { matches = l; unmatched = before.unmatched })
    (append_assoc before.matches (map change (take i others)) (m ∷ [])
    ∙ ap (λ l. before.matches ++ l) (ap (λ e. map change (take i others) ++ e ∷ []) named ∙ sym (map_more change others i d less))))
