-- The place of a node's branch, and what a tree keeps.
use Rattle.std.specs.Prelude.{ℕ, ◌≡◌, ◌<◌, ◌==◌, ◌||◌, Bool, true, false, List, [], ◌∷◌, length, Option, Some, None, if◌then◌else◌}
use Rattle.fb_graph.specs.Parity.{is_in}
use Rattle.fb_laws.specs.Trees.{EntryOf, tree_names}
use Rattle.fb_trees.specs.declared.branch.Branch.{Branch}
use Rattle.fb_trees.specs.Rooted.{IsRooted}
use Rattle.fb_regions.specs.InternalPlaces.{place_in}

-- the place of the node's branch, counted from the oldest one
abbrev pub place_of : List (EntryOf ℕ) → ℕ → Option ℕ
place_of [] name = None
place_of (e ∷ es) name = if (e.minus == name) || (e.plus == name) then Some (length es) else place_of es name

-- the first place, if there is one, else the other
abbrev pub place_or : Option ℕ → Option ℕ → Option ℕ
place_or None other = other
place_or (Some place) other = Some place

-- whether the node is one of a branch
abbrev pub has_branch : List (EntryOf ℕ) → ℕ → Bool
has_branch [] name = false
has_branch (e ∷ es) name = ((e.minus == name) || (e.plus == name)) || has_branch es name

-- the branch of the node
abbrev pub branch_at : List (EntryOf ℕ) → ℕ → Option (EntryOf ℕ)
branch_at [] name = None
branch_at (e ∷ es) name = if (e.minus == name) || (e.plus == name) then Some e else branch_at es name

-- a table of that length has room for both nodes of the branch
pub record IsWithin (count : ℕ) (b : Branch) : Type 0 where
  pub minus : b.minus < count
  pub plus : b.plus < count

-- what a tree keeps with a table that others may share
pub record IsViewed (root : ℕ) (branches : List (EntryOf ℕ)) (places : List (Option ℕ)) : Type 0 where
  pub rooted : IsRooted root branches
  pub placed : (name : ℕ) → is_in (tree_names root branches) name ≡ true → place_in places name ≡ place_of branches name
