-- Walks as lists of steps.
use Rattle.std.specs.Prelude.{ℕ, ◌≡◌, ◌==◌, ◌||◌, Bool, if◌then◌else◌, List, [], ◌∷◌, ◌++◌, map, reverse, sum_by}
use Rattle.fb_links.specs.declared.walk.Step.{Step}

-- the sum of the steps' weights
abbrev pub walk_weight : List Step → ℕ
walk_weight steps = sum_by (λ s. s.weight) steps

-- the first vertex of the walk; 0 if it has no step
abbrev pub start_of : List Step → ℕ
start_of [] = 0
start_of (s ∷ ss) = s.from

-- the last vertex of a walk that begins at the given vertex
abbrev pub end_from : ℕ → List Step → ℕ
end_from at [] = at
end_from at (s ∷ ss) = end_from s.to ss

-- the last vertex of the walk; 0 if it has no step
abbrev pub end_of : List Step → ℕ
end_of walk = end_from 0 walk

-- the walk leads from the one vertex to the other, each step beginning where the one before ended
abbrev pub Runs : List Step → ℕ → ℕ → Type 0
Runs [] from to = from ≡ to
Runs (s ∷ ss) from to = (s.from ≡ from) × Runs ss s.to to

-- each step begins where the one before it ended
abbrev pub IsChained : List Step → Type 0
IsChained walk = Runs walk (start_of walk) (end_of walk)

-- the step in the other direction
abbrev pub turned_step : Step → Step
turned_step s = record s { from = s.to; to = s.from }

-- the walk reversed
abbrev pub turned_walk : List Step → List Step
turned_walk walk = map turned_step (reverse walk)

-- whether the walk begins or ends at the vertex
abbrev pub is_end : List Step → ℕ → Bool
is_end walk v = (v == start_of walk) || (v == end_of walk)

-- whether the walks share an end
abbrev pub share_end : List Step → List Step → Bool
share_end a b = is_end b (end_of a) || is_end b (start_of a)

-- the walk's other end, seen from the vertex; the same vertex if the walk begins and ends there
abbrev pub other_end : ℕ → List Step → ℕ
other_end v walk = if v == end_of walk then start_of walk else end_of walk

-- the walk, reversed if it does not end at the vertex
abbrev pub ending_at : ℕ → List Step → List Step
ending_at v walk = if v == end_of walk then walk else turned_walk walk

-- the walk, reversed if it does not begin at the vertex
abbrev pub starting_at : ℕ → List Step → List Step
starting_at v walk = if v == start_of walk then walk else turned_walk walk

-- where two walks that share an end meet: at the end of the first one if that is an end of the second
abbrev pub meeting_vertex : List Step → List Step → ℕ
meeting_vertex a b = if is_end b (end_of a) then end_of a else start_of a

-- the two walks joined where they meet, from the other end of the first to the other end of the second
abbrev pub joined_walk : List Step → List Step → List Step
joined_walk a b = ending_at (meeting_vertex a b) a ++ starting_at (meeting_vertex a b) b
