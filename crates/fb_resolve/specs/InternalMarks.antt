-- Which nodes in blossoms hold an end of a link, as a table of marks by name.
use Rattle.std.specs.Prelude.{ℕ, ◌≡◌, ◌<◌, ◌⊎◌, Bool, true, false, List, get_or, Option}
use Rattle.fb_links.specs.declared.walk.Step.{Step}
use Rattle.fb_blossoms.specs.Nodes.{AreWithin, cycle_at, defects_at, is_live, is_on}
use Rattle.fb_blossoms.specs.Nodes as blossoms
use Rattle.fb_resolve.specs.Openings.{is_reached}

abbrev pub is_marked : List Bool → ℕ → Bool
is_marked marks name = get_or marks name false

-- the node is in a blossom
abbrev pub IsInside : List (Option blossoms.Node) → ℕ → Type 0
IsInside store x = (p : ℕ) × (is_on (cycle_at store p) x ≡ true)

-- the table has a place for each node
abbrev pub HasPlaces : List (Option blossoms.Node) → ℕ → Type 0
HasPlaces store size = (x : ℕ) → is_live store x ≡ true → x < size

-- the blossom round a marked node is marked
abbrev pub AreClosed : List (Option blossoms.Node) → List Bool → Type 0
AreClosed store marks = (p x : ℕ) → is_on (cycle_at store p) x ≡ true → is_marked marks x ≡ true
    → is_marked marks p ≡ true

-- the node and those round it are marked, and no others than before
pub record IsMarkedUp (store : List (Option blossoms.Node)) (old new : List Bool) (node : ℕ) : Type 0 where
  pub closed : AreClosed store new
  pub marked : is_marked new node ≡ true
  pub kept : (x : ℕ) → is_marked old x ≡ true → is_marked new x ≡ true
  pub only : (x : ℕ) → is_marked new x ≡ true
      → (is_marked old x ≡ true) ⊎ AreWithin (defects_at store node) (defects_at store x)

-- of the nodes in blossoms just those are marked in which one of the links ends
abbrev pub AreMarks : List (Option (List Step)) → List (Option blossoms.Node) → List ℕ → List Bool → Type 0
AreMarks links store ids marks = (x : ℕ) → IsInside store x → is_marked marks x ≡ is_reached links store ids x
