-- One tree by itself as a forest.
use Rattle.std.specs.Prelude.{List, [], ◌∷◌, Option, Some}
use Rattle.fb_trees.specs.Branches.{Grown}
use Rattle.fb_trees.specs.Rooted.{bare}

-- the forest of this tree alone, of number 0
abbrev pub alone : Grown → List (Option Grown)
alone t = Some t ∷ []

-- the tree of number 0
abbrev pub only_tree : List (Option Grown) → Grown
only_tree (Some t ∷ ts) = t
only_tree ts = bare 0
