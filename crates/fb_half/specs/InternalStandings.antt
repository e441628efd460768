-- The table by which a matching finds where it lists a node.
use Rattle.std.specs.Prelude.{ℕ, ◌≡◌, ◌<◌, ◌==◌, Bool, true, List, length, get_or, None}
use Rattle.fb_graph.specs.Parity.{is_in}
use Rattle.fb_half.specs.declared.matches.Match.{Match}
use Rattle.fb_half.specs.declared.matches.Standing.{Standing}
use Rattle.fb_half.specs.declared.matches.Standing.TheVariants.{Absent, Unmatched, Matched}
use Rattle.fb_half.specs.Matchings.{names_of}

abbrev pub no_match : Match
no_match = record { link = 0; first = 0; second = None }

-- the match at this place has the node
abbrev pub has_name : List Match → ℕ → ℕ → Bool
has_name matches i name = is_in (names_of (get_or matches i no_match)) name

-- the name at this place is the node's
abbrev pub is_name : List ℕ → ℕ → ℕ → Bool
is_name names i name = get_or names i 0 == name

abbrev pub standing_of : List Standing → ℕ → Standing
standing_of table name = get_or table name Absent

-- The entry of a name is a place exactly if the list has the name at that place. The list has this count of places.
pub record IsTable (count : ℕ) (has : ℕ → ℕ → Bool) (place : ℕ → Standing) (entry : ℕ → Standing) : Type 0 where
  pub true_to : (name i : ℕ) → entry name ≡ place i → (i < count) × (has i name ≡ true)
  pub entered : (name i : ℕ) → i < count → has i name ≡ true → entry name ≡ place i

-- The table gives the place of each name among the matches or among the unmatched names, and of no other name.
pub record AreStanding (matches : List Match) (names : List ℕ) (table : List Standing) : Type 0 where
  pub matched : IsTable (length matches) (has_name matches) Matched (standing_of table)
  pub unmatched : IsTable (length names) (is_name names) Unmatched (standing_of table)
