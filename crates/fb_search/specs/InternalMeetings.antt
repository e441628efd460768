-- The match of a node that a tree has met.
use Rattle.std.specs.Prelude.{ℕ, ◌≡◌, ◌⊎◌, Some, None}
use Rattle.fb_half.specs.declared.matches.Match.{Match}

-- the match is that of these two nodes
abbrev pub IsCouple : Match → ℕ → ℕ → Type 0
IsCouple m a b = ((m.first ≡ a) × (m.second ≡ Some b)) ⊎ ((m.first ≡ b) × (m.second ≡ Some a))

-- the node is matched to the boundary
abbrev pub IsBoundaryMatch : Match → ℕ → Type 0
IsBoundaryMatch m a = (m.first ≡ a) × (m.second ≡ None)
