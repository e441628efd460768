-- Ways from a node down to a defect.
use Rattle.std.specs.Prelude.{ℕ, ◌≡◌, true, List, [], ◌∷◌, reverse, Option, Some}
use Rattle.fb_blossoms.specs.declared.ways.Way.{Way}
use Rattle.fb_blossoms.specs.Nodes.{Node, cycle_at, is_on, leaf, node_at}

-- the nodes below the node down to the leaf of the defect, each the child of the one before
abbrev pub LeadsDown : List (Option Node) → ℕ → ℕ → List ℕ → Type 0
LeadsDown nodes name d [] = node_at nodes name ≡ Some (leaf d)
LeadsDown nodes name d (x ∷ xs) = (is_on (cycle_at nodes name) x ≡ true) × LeadsDown nodes x d xs

-- the way leads down from the node
abbrev pub IsWay : List (Option Node) → ℕ → Way → Type 0
IsWay nodes name way = LeadsDown nodes name way.defect (reverse way.through.items)
