-- A matching's table stays true to its lists as a node or a match is added or taken out.
use Rattle.std.proofs.Common.{ℕ, ◌≡◌, ◌≢◌, ◌<◌, ◌≤◌, ◌==◌, false, if◌then◌else◌, List, [], ◌∷◌, ◌++◌, length, get_or, All, sym, ap, ◌∙◌, subst}
use Rattle.std.proofs.lemmas.Bool.{both_ways, eqb-true, eq-eqb, or_parts}
use Rattle.std.proofs.lemmas.List.{get_or_default}
use Rattle.std.specs.List.{swap_remove}
use Rattle.fb_graph.specs.Parity.{is_in}
use Rattle.fb_graph.proofs.Members.{is_in-append}
use Rattle.fb_half.specs.declared.matches.Match.{Match}
use Rattle.fb_half.specs.declared.matches.Standing.{Standing}
use Rattle.fb_half.specs.declared.matches.Standing.TheVariants.{Absent, Unmatched, Matched}
use Rattle.fb_half.specs.InternalStandings.{AreStanding, has_name, is_name, no_match, standing_of}
use Rattle.fb_half.specs.Matchings.{match_links, matched_names, names_of}
use Rattle.fb_half.specs.Standings.{is_matched, is_unmatched}
use Rattle.fb_half.proofs.Changes.{kept_cut, kept_swapped, pushed, taken_last, taken_swapped}
use Rattle.fb_half.proofs.Tables.{table_kept}
use Rattle.fb_half.proofs.Taken.{moved_below, moved_from, swap_removed}
use Rattle.fb_half.proofs.Lookups.{listed_matched, listed_unmatched, within_table}
use Rattle.fb_graph.proofs.Sets.{All-from_is_in, is_in-All}

-- a table whose entries are the same
pub same_entries : (matches : List Match) (names : List ℕ) (table new_table : List Standing) → AreStanding matches names table
    → ((name : ℕ) → standing_of new_table name ≡ standing_of table name) → AreStanding matches names new_table
same_entries matches names table new_table are same = record {
  matched = record {
    true_to = λ name i e. are.matched.true_to name i (sym (same name) ∙ e);
    entered = λ name i less h. same name ∙ are.matched.entered name i less h;
  };
  unmatched = record {
    true_to = λ name i e. are.unmatched.true_to name i (sym (same name) ∙ e);
    entered = λ name i less h. same name ∙ are.unmatched.entered name i less h;
  };
}

not_unmatched : (matches : List Match) (names : List ℕ) (table : List Standing) (name : ℕ) → AreStanding matches names table
    → is_in (names ++ matched_names matches) name ≡ false → (i : ℕ) → standing_of table name ≢ Unmatched i
not_unmatched matches names table name are h i e =
    both_ways (is_in names name)
    (or_parts (is_in names name) (is_in (matched_names matches) name) (sym (is_in-append names (matched_names matches) name) ∙ h)).0
    (listed_unmatched matches names table name are ∙ ap is_unmatched e)

not_matched : (matches : List Match) (names : List ℕ) (table : List Standing) (name : ℕ) → AreStanding matches names table
    → is_in (names ++ matched_names matches) name ≡ false → (i : ℕ) → standing_of table name ≢ Matched i
not_matched matches names table name are h i e =
    both_ways (is_in (matched_names matches) name)
    (or_parts (is_in names name) (is_in (matched_names matches) name) (sym (is_in-append names (matched_names matches) name) ∙ h)).1
    (listed_matched matches names table name are ∙ ap is_matched e)

pub unmatched_added : (matches : List Match) (names : List ℕ) (table new_table : List Standing) (name : ℕ) → AreStanding matches names table
    → is_in (names ++ matched_names matches) name ≡ false
    → ((k : ℕ) → standing_of new_table k ≡ (if name == k then Unmatched (length names) else standing_of table k))
    → AreStanding matches (names ++ name ∷ []) new_table
unmatched_added matches names table new_table name are fresh new = record {
  matched =
      table_kept (length matches) (has_name matches) Matched (standing_of table) (standing_of new_table) (λ k. name == k) (Unmatched (length names))
      are.matched new (λ i e. cc)
      (λ k i h e. not_matched matches names table name are fresh i (ap (standing_of table) (eqb-true name k h) ∙ e));
  unmatched =
      pushed (λ n k. n == k) 0 Unmatched Matched (λ i j e. cc) (λ i j e. cc) (λ i e. cc) (λ i e. cc) names name (standing_of table) (standing_of new_table)
      are.unmatched new
      (λ k i h e. not_unmatched matches names table name are fresh i (ap (standing_of table) (eqb-true name k h) ∙ e));
}

pub match_added : (matches : List Match) (names : List ℕ) (table new_table : List Standing) (m : Match) → AreStanding matches names table
    → All (λ name. is_in (names ++ matched_names matches) name ≡ false) (names_of m)
    → ((k : ℕ) → standing_of new_table k ≡ (if is_in (names_of m) k then Matched (length matches) else standing_of table k))
    → AreStanding (matches ++ m ∷ []) names new_table
match_added matches names table new_table m are fresh new = record {
  matched =
      pushed (λ e k. is_in (names_of e) k) no_match Matched Unmatched (λ i j e. cc) (λ i j e. cc) (λ i e. cc) (λ i e. cc) matches m (standing_of table) (standing_of new_table)
      are.matched new
      (λ k i h e. not_matched matches names table k are (is_in-All (λ name. is_in (names ++ matched_names matches) name ≡ false) (names_of m) fresh k h) i e);
  unmatched =
      table_kept (length names) (is_name names) Unmatched (standing_of table) (standing_of new_table) (λ k. is_in (names_of m) k) (Matched (length matches))
      are.unmatched new (λ i e. cc)
      (λ k i h e. not_unmatched matches names table k are (is_in-All (λ name. is_in (names ++ matched_names matches) name ≡ false) (names_of m) fresh k h) i e);
}

pub unmatched_last : (matches : List Match) (names : List ℕ) (table new_table : List Standing) (i name : ℕ) → AreStanding matches names table
    → i < length names → name ≡ get_or names i name → length (swap_remove names i name) ≤ i
    → ((k : ℕ) → standing_of new_table k ≡ (if name == k then Absent else standing_of table k))
    → AreStanding matches (swap_remove names i name) new_table
unmatched_last matches names table new_table i name are less is end new = record {
  matched =
      kept_cut (λ n k. n == k) 0 Unmatched Matched (λ i j e. cc) (λ i j e. cc) (λ i e. cc) (λ i e. cc) (length matches) (has_name matches) names i name
      (standing_of table) (standing_of new_table) are.unmatched are.matched less is new;
  unmatched =
      taken_last (λ n k. n == k) 0 Unmatched Matched (λ i j e. cc) (λ i j e. cc) (λ i e. cc) (λ i e. cc) names i name
      (standing_of table) (standing_of new_table) are.unmatched less is end new;
}

pub unmatched_swapped : (matches : List Match) (names : List ℕ) (table middle new_table : List Standing) (i name moved : ℕ) → AreStanding matches names table
    → i < length names → name ≡ get_or names i name → i < length (swap_remove names i name) → moved ≡ get_or (swap_remove names i name) i moved
    → ((k : ℕ) → standing_of middle k ≡ (if name == k then Absent else standing_of table k))
    → ((k : ℕ) → standing_of new_table k ≡ (if moved == k then Unmatched i else standing_of middle k))
    → AreStanding matches (swap_remove names i name) new_table
unmatched_swapped matches names table middle new_table i name moved are less is within is_moved mid new = record {
  matched =
      kept_swapped (λ n k. n == k) 0 Unmatched Matched (λ i j e. cc) (λ i j e. cc) (λ i e. cc) (λ i e. cc) (length matches) (has_name matches) names i name moved
      (standing_of table) (standing_of middle) (standing_of new_table) are.unmatched are.matched less is within is_moved mid new;
  unmatched =
      taken_swapped (λ n k. n == k) 0 Unmatched Matched (λ i j e. cc) (λ i j e. cc) (λ i e. cc) (λ i e. cc) names i name moved
      (standing_of table) (standing_of middle) (standing_of new_table) are.unmatched less is within is_moved mid new;
}

pub match_last : (matches : List Match) (names : List ℕ) (table new_table : List Standing) (i : ℕ) (m : Match) → AreStanding matches names table
    → i < length matches → m ≡ get_or matches i m → length (swap_remove matches i m) ≤ i
    → ((k : ℕ) → standing_of new_table k ≡ (if is_in (names_of m) k then Absent else standing_of table k))
    → AreStanding (swap_remove matches i m) names new_table
match_last matches names table new_table i m are less is end new = record {
  matched =
      taken_last (λ e k. is_in (names_of e) k) no_match Matched Unmatched (λ i j e. cc) (λ i j e. cc) (λ i e. cc) (λ i e. cc) matches i m
      (standing_of table) (standing_of new_table) are.matched less is end new;
  unmatched =
      kept_cut (λ e k. is_in (names_of e) k) no_match Matched Unmatched (λ i j e. cc) (λ i j e. cc) (λ i e. cc) (λ i e. cc) (length names) (is_name names) matches i m
      (standing_of table) (standing_of new_table) are.matched are.unmatched less is new;
}

pub match_swapped : (matches : List Match) (names : List ℕ) (table middle new_table : List Standing) (i : ℕ) (m moved : Match) → AreStanding matches names table
    → i < length matches → m ≡ get_or matches i m → i < length (swap_remove matches i m) → moved ≡ get_or (swap_remove matches i m) i moved
    → ((k : ℕ) → standing_of middle k ≡ (if is_in (names_of m) k then Absent else standing_of table k))
    → ((k : ℕ) → standing_of new_table k ≡ (if is_in (names_of moved) k then Matched i else standing_of middle k))
    → AreStanding (swap_remove matches i m) names new_table
match_swapped matches names table middle new_table i m moved are less is within is_moved mid new = record {
  matched =
      taken_swapped (λ e k. is_in (names_of e) k) no_match Matched Unmatched (λ i j e. cc) (λ i j e. cc) (λ i e. cc) (λ i e. cc) matches i m moved
      (standing_of table) (standing_of middle) (standing_of new_table) are.matched less is within is_moved mid new;
  unmatched =
      kept_swapped (λ e k. is_in (names_of e) k) no_match Matched Unmatched (λ i j e. cc) (λ i j e. cc) (λ i e. cc) (λ i e. cc) (length names) (is_name names) matches i m moved
      (standing_of table) (standing_of middle) (standing_of new_table) are.matched are.unmatched less is within is_moved mid new;
}

-- the table has an entry for each node of a match
pub names_within : (matches : List Match) (names : List ℕ) (table : List Standing) (i : ℕ) (m : Match) → AreStanding matches names table
    → i < length matches → m ≡ get_or matches i m → All (λ name. name < length table) (names_of m)
names_within matches names table i m are less is =
    All-from_is_in (λ name. name < length table) (names_of m)
    (λ name h. within_table table name
    (λ e. clash (sym (are.matched.entered name i less (ap (λ x. is_in (names_of x) name) (get_or_default matches i no_match m less ∙ sym is) ∙ h)) ∙ e)))
  where
    clash : Matched i ≢ Absent
    clash e = cc

-- the table has an entry for an unmatched node
pub name_within : (matches : List Match) (names : List ℕ) (table : List Standing) (i name : ℕ) → AreStanding matches names table
    → i < length names → name ≡ get_or names i name → name < length table
name_within matches names table i name are less is =
    within_table table name
    (λ e. clash (sym (are.unmatched.entered name i less (eq-eqb (get_or names i 0) name (get_or_default names i 0 name less ∙ sym is))) ∙ e))
  where
    clash : Unmatched i ≢ Absent
    clash e = cc

pub unmatched_at : (matches : List Match) (names : List ℕ) (table : List Standing) (i name : ℕ) → AreStanding matches names table
    → standing_of table name ≡ Unmatched i → (i < length names) × (name ≡ get_or names i name)
unmatched_at matches names table i name are at =
    let there = are.unmatched.true_to name i at in
    (there.0, sym (eqb-true (get_or names i 0) name there.1) ∙ get_or_default names i 0 name there.0)

pub unmatched_taken : (matches : List Match) (names left : List ℕ) (table new_table : List Standing) (i name : ℕ) → AreStanding matches names table
    → i < length names → name ≡ get_or names i name → left ≡ swap_remove names i name → length left ≤ i
    → ((k : ℕ) → standing_of new_table k ≡ (if name == k then Absent else standing_of table k)) → AreStanding matches left new_table
unmatched_taken matches names left table new_table i name are less is is_left end new =
    subst (λ l. AreStanding matches l new_table) (sym is_left)
    (unmatched_last matches names table new_table i name are less is (subst (λ l. length l ≤ i) is_left end) new)

pub unmatched_moved : (matches : List Match) (names left : List ℕ) (table middle new_table : List Standing) (i name moved : ℕ) → AreStanding matches names table
    → i < length names → name ≡ get_or names i name → left ≡ swap_remove names i name → i < length left → moved ≡ get_or left i moved
    → ((k : ℕ) → standing_of middle k ≡ (if name == k then Absent else standing_of table k))
    → ((k : ℕ) → standing_of new_table k ≡ (if moved == k then Unmatched i else standing_of middle k)) → AreStanding matches left new_table
unmatched_moved matches names left table middle new_table i name moved are less is is_left within is_moved mid new =
    subst (λ l. AreStanding matches l new_table) (sym is_left)
    (unmatched_swapped matches names table middle new_table i name moved are less is (subst (λ l. i < length l) is_left within)
    (subst (λ l. moved ≡ get_or l i moved) is_left is_moved) mid new)

pub moved_name_within : (matches : List Match) (names left : List ℕ) (table : List Standing) (i name moved : ℕ) → AreStanding matches names table
    → i < length names → left ≡ swap_remove names i name → i < length left → moved ≡ get_or left i moved → moved < length table
moved_name_within matches names left table i name moved are less is_left within is_moved =
    name_within matches names table (length (swap_remove names i name)) moved are (moved_below names i name less)
    (moved_from names i name moved less (subst (λ l. i < length l) is_left within) (subst (λ l. moved ≡ get_or l i moved) is_left is_moved))

pub match_taken : (matches left : List Match) (names : List ℕ) (table new_table : List Standing) (i : ℕ) (m : Match) → AreStanding matches names table
    → i < length matches → m ≡ get_or matches i m → left ≡ swap_remove matches i m → length left ≤ i
    → ((k : ℕ) → standing_of new_table k ≡ (if is_in (names_of m) k then Absent else standing_of table k)) → AreStanding left names new_table
match_taken matches left names table new_table i m are less is is_left end new =
    subst (λ l. AreStanding l names new_table) (sym is_left)
    (match_last matches names table new_table i m are less is (subst (λ l. length l ≤ i) is_left end) new)

pub match_moved : (matches left : List Match) (names : List ℕ) (table middle new_table : List Standing) (i : ℕ) (m moved : Match) → AreStanding matches names table
    → i < length matches → m ≡ get_or matches i m → left ≡ swap_remove matches i m → i < length left → moved ≡ get_or left i moved
    → ((k : ℕ) → standing_of middle k ≡ (if is_in (names_of m) k then Absent else standing_of table k))
    → ((k : ℕ) → standing_of new_table k ≡ (if is_in (names_of moved) k then Matched i else standing_of middle k)) → AreStanding left names new_table
match_moved matches left names table middle new_table i m moved are less is is_left within is_moved mid new =
    subst (λ l. AreStanding l names new_table) (sym is_left)
    (match_swapped matches names table middle new_table i m moved are less is (subst (λ l. i < length l) is_left within)
    (subst (λ l. moved ≡ get_or l i moved) is_left is_moved) mid new)

pub moved_names_within : (matches left : List Match) (names : List ℕ) (table new_table : List Standing) (i : ℕ) (m moved : Match) → AreStanding matches names table
    → i < length matches → left ≡ swap_remove matches i m → i < length left → moved ≡ get_or left i moved → length new_table ≡ length table
    → All (λ name. name < length new_table) (names_of moved)
moved_names_within matches left names table new_table i m moved are less is_left within is_moved long =
    subst (λ n. All (λ name. name < n) (names_of moved)) (sym long)
    (names_within matches names table (length (swap_remove matches i m)) moved are (moved_below matches i m less)
    (moved_from matches i m moved less (subst (λ l. i < length l) is_left within) (subst (λ l. moved ≡ get_or l i moved) is_left is_moved)))

-- the links follow the matches
pub links_taken : (matches left : List Match) (links after : List ℕ) (i : ℕ) (m : Match) (link : ℕ) → links ≡ match_links matches → i < length matches
    → left ≡ swap_remove matches i m → after ≡ swap_remove links i link → after ≡ match_links left
links_taken matches left links after i m link are less is_left is_after =
    is_after ∙ (ap (λ l. swap_remove l i link) are
    ∙ (swap_removed (λ e. e.link) matches i m link less ∙ sym (ap match_links is_left)))
