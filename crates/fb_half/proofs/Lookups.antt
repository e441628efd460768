-- What the table of a matching says of its lists.
use Rattle.std.proofs.Common.{ℕ, zero, suc, ◌≡◌, ◌≢◌, ◌<◌, ◌≤◌, ◌==◌, ◌||◌, Bool, true, false, List, [], ◌∷◌, length, get_or, nat_lt, subst, arith, refl, sym, ap, ◌∙◌}
use Rattle.std.proofs.Math.ListN.{get_or-eq_default}
use Rattle.std.proofs.lemmas.Bool.{both_ways}
use Rattle.std.proofs.lemmas.List.{get_or_default}
use borrow.Author.Tests.{ltb-true}
use Rattle.std.proofs.lemmas.Bool.Decides.{nat_tests}
use Rattle.fb_graph.specs.Parity.{is_in}
use Rattle.fb_graph.proofs.Members.{is_in-append}
use Rattle.fb_half.specs.declared.matches.Match.{Match}
use Rattle.fb_half.specs.declared.matches.Standing.{Standing}
use Rattle.fb_half.specs.declared.matches.Standing.TheVariants.{Absent, Unmatched, Matched}
use Rattle.fb_half.specs.InternalStandings.{AreStanding, has_name, is_name, no_match, standing_of}
use Rattle.fb_half.specs.Matchings.{matched_names, names_of}
use Rattle.fb_half.specs.Standings.{is_matched, is_unmatched}

-- a name in the list is at some place in it
pub place_in : (names : List ℕ) (name : ℕ) → is_in names name ≡ true → (i : ℕ) × (i < length names) × (is_name names i name ≡ true)
place_in [] name h = absurd (both_ways (is_in [] name) refl h)
place_in (n ∷ ns) name h = by_cases (place_in ns name) (n == name) refl
  where
    by_cases : (is_in ns name ≡ true → (i : ℕ) × (i < length ns) × (is_name ns i name ≡ true)) → (b : Bool) → (n == name) ≡ b
        → (i : ℕ) × (i < length (n ∷ ns)) × (is_name (n ∷ ns) i name ≡ true)
    by_cases rest true is = (0, omega arith, is)
    by_cases rest false is = let more = rest (sym (ap (λ b. b || is_in ns name) is) ∙ h) in (suc more.0, omega (arith, more.1), more.2)

pub in_at : (names : List ℕ) (i name : ℕ) → i < length names → is_name names i name ≡ true → is_in names name ≡ true
in_at [] i name less h = absurd (omega arith)
in_at (n ∷ ns) zero name less h = ap (λ b. b || is_in ns name) h
in_at (n ∷ ns) (suc i) name less h = let rest : is_in ns name ≡ true = in_at ns i name (omega arith) h in grind (arith, rest)

-- a name that a match has is that of some place
pub match_in : (matches : List Match) (name : ℕ) → is_in (matched_names matches) name ≡ true
    → (i : ℕ) × (i < length matches) × (has_name matches i name ≡ true)
match_in [] name h = absurd (both_ways (is_in [] name) refl h)
match_in (m ∷ ms) name h = by_cases (match_in ms name) (is_in (names_of m) name) refl
  where
    by_cases : (is_in (matched_names ms) name ≡ true → (i : ℕ) × (i < length ms) × (has_name ms i name ≡ true)) → (b : Bool)
        → is_in (names_of m) name ≡ b → (i : ℕ) × (i < length (m ∷ ms)) × (has_name (m ∷ ms) i name ≡ true)
    by_cases rest true is = (0, omega arith, is)
    by_cases rest false is =
        let more = rest (sym (ap (λ b. b || is_in (matched_names ms) name) is) ∙ (sym (is_in-append (names_of m) (matched_names ms) name) ∙ h)) in
        (suc more.0, omega (arith, more.1), more.2)

pub match_at : (matches : List Match) (i name : ℕ) → i < length matches → has_name matches i name ≡ true
    → is_in (matched_names matches) name ≡ true
match_at [] i name less h = absurd (omega arith)
match_at (m ∷ ms) zero name less h =
    is_in-append (names_of m) (matched_names ms) name ∙ ap (λ b. b || is_in (matched_names ms) name) h
match_at (m ∷ ms) (suc i) name less h =
    let rest : is_in (matched_names ms) name ≡ true = match_at ms i name (omega arith) h in
    is_in-append (names_of m) (matched_names ms) name ∙ grind (arith, rest)

pub listed_unmatched : (matches : List Match) (names : List ℕ) (table : List Standing) (name : ℕ) → AreStanding matches names table
    → is_in names name ≡ is_unmatched (standing_of table name)
listed_unmatched matches names table name are = by_standing (standing_of table name) refl
  where
    none : (s : Standing) → standing_of table name ≡ s → ((i : ℕ) → s ≢ Unmatched i) → (b : Bool) → is_in names name ≡ b → is_in names name ≡ false
    none s at other false is = is
    none s at other true is =
        let place = place_in names name is in
        absurd (other place.0 (sym at ∙ are.unmatched.entered name place.0 place.1 place.2))

    by_standing : (s : Standing) → standing_of table name ≡ s → is_in names name ≡ is_unmatched s
    by_standing Absent at = none Absent at (λ i e. cc) (is_in names name) refl
    by_standing (Matched k) at = none (Matched k) at (λ i e. cc) (is_in names name) refl
    by_standing (Unmatched i) at = let there = are.unmatched.true_to name i at in in_at names i name there.0 there.1

pub listed_matched : (matches : List Match) (names : List ℕ) (table : List Standing) (name : ℕ) → AreStanding matches names table
    → is_in (matched_names matches) name ≡ is_matched (standing_of table name)
listed_matched matches names table name are = by_standing (standing_of table name) refl
  where
    none : (s : Standing) → standing_of table name ≡ s → ((i : ℕ) → s ≢ Matched i) → (b : Bool) → is_in (matched_names matches) name ≡ b
        → is_in (matched_names matches) name ≡ false
    none s at other false is = is
    none s at other true is =
        let place = match_in matches name is in
        absurd (other place.0 (sym at ∙ are.matched.entered name place.0 place.1 place.2))

    by_standing : (s : Standing) → standing_of table name ≡ s → is_in (matched_names matches) name ≡ is_matched s
    by_standing Absent at = none Absent at (λ i e. cc) (is_in (matched_names matches) name) refl
    by_standing (Unmatched k) at = none (Unmatched k) at (λ i e. cc) (is_in (matched_names matches) name) refl
    by_standing (Matched i) at = let there = are.matched.true_to name i at in match_at matches i name there.0 there.1

-- the place of a listed name, which the table has
pub unmatched_place : (matches : List Match) (names : List ℕ) (table : List Standing) (name : ℕ) → AreStanding matches names table
    → is_in names name ≡ true → (i : ℕ) × (standing_of table name ≡ Unmatched i)
unmatched_place matches names table name are h =
    let place = place_in names name h in (place.0, are.unmatched.entered name place.0 place.1 place.2)

pub matched_place : (matches : List Match) (names : List ℕ) (table : List Standing) (name : ℕ) → AreStanding matches names table
    → is_in (matched_names matches) name ≡ true → (i : ℕ) × (standing_of table name ≡ Matched i)
matched_place matches names table name are h =
    let place = match_in matches name h in (place.0, are.matched.entered name place.0 place.1 place.2)

-- the table has an entry for each name that is listed
pub within_table : (table : List Standing) (name : ℕ) → standing_of table name ≢ Absent → name < length table
within_table table name some = by_cases (nat_lt name (length table)) refl
  where
    by_cases : (b : Bool) → nat_lt name (length table) ≡ b → name < length table
    by_cases true is = ltb-true name (length table) is
    by_cases false is =
        let past : length table ≤ name = grind (arith, nat_tests) in
        absurd (some (get_or-eq_default table Absent past))

-- the match at this place has the name
pub names_of_match_at : (matches : List Match) (m : Match) (i name : ℕ) → i < length matches → m ≡ get_or matches i m
    → has_name matches i name ≡ true → is_in (names_of m) name ≡ true
names_of_match_at matches m i name less is has =
    subst (λ e. is_in (names_of e) name ≡ true) (get_or_default matches i no_match m less ∙ sym is) has
