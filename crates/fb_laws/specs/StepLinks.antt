-- The link of a walk that is kept step by step, as programs keep it: its two ends, and its edges in their order. A step
-- is any value that has a vertex from which it leads, one to which it leads, and an edge.
use Rattle.std.specs.Prelude.{ℕ, ◌≡◌, ◌≢◌, ◌<◌, ◌==◌, true, List, [], ◌∷◌, ◌++◌, map, reverse, length, All, if◌then◌else◌}
use Rattle.fb_graph.specs.Problem.{Problem, edge_at}
use Rattle.fb_graph.specs.Components.{Leads}
use Rattle.fb_graph.specs.Laws.{Link, has_real_end}
use Rattle.fb_laws.specs.Fusion.{IsLinkOf}
use Rattle.fb_laws.specs.MetLinks.{joined_link, turned_link}
use Rattle.fb_laws.specs.SingleDefects.{link_through}

-- how a step is read
pub record StepParts (S : Type 0) : Type 0 where
  pub from : S → ℕ
  pub to : S → ℕ
  pub edge : S → ℕ

-- the vertex at which the walk begins; 0 if it has no step
abbrev pub begin_of : {S : Type 0} → StepParts S → List S → ℕ
begin_of parts [] = 0
begin_of parts (s ∷ ss) = parts.from s

-- the vertex at which the walk ends; the given one if it has no step
abbrev pub end_after : {S : Type 0} → StepParts S → ℕ → List S → ℕ
end_after parts at [] = at
end_after parts at (s ∷ ss) = end_after parts (parts.to s) ss

-- the walk leads from the one vertex to the other, each step beginning at the end of the one before
abbrev pub LeadsAlong : {S : Type 0} → StepParts S → List S → ℕ → ℕ → Type 0
LeadsAlong parts [] from to = from ≡ to
LeadsAlong parts (s ∷ ss) from to = (parts.from s ≡ from) × LeadsAlong parts ss (parts.to s) to

-- the link of the walk
abbrev pub link_of_steps : {S : Type 0} → StepParts S → List S → Link
link_of_steps parts walk =
    record { from = begin_of parts walk; to = end_after parts 0 walk; walk = map parts.edge walk }

-- the step goes over an edge of the problem that has a real end
pub record IsStepOf (p : Problem) {S : Type 0} (parts : StepParts S) (s : S) : Type 0 where
  pub within : parts.edge s < length p.edges
  pub leads : Leads (edge_at p.edges (parts.edge s)) (parts.from s) (parts.to s)
  pub real : has_real_end p (edge_at p.edges (parts.edge s)) ≡ true

-- A walk of such steps, at least one, is a link of the problem.
abbrev pub StepsAreLink : Type 0 → Type 0
StepsAreLink S = (p : Problem) (parts : StepParts S) (walk : List S) → walk ≢ []
    → LeadsAlong parts walk (begin_of parts walk) (end_after parts 0 walk) → All (IsStepOf p parts) walk
    → IsLinkOf p (link_of_steps parts walk)

-- a step as its three numbers
pub record PlainStep : Type 0 where
  pub from : ℕ
  pub to : ℕ
  pub edge : ℕ

-- the step goes over the same edge the other way
pub record IsTurn {S : Type 0} (parts : StepParts S) (turn : S → S) : Type 0 where
  pub from : (s : S) → parts.from (turn s) ≡ parts.to s
  pub to : (s : S) → parts.to (turn s) ≡ parts.from s
  pub edge : (s : S) → parts.edge (turn s) ≡ parts.edge s

-- The walk gone back has its edges in the reverse order.
abbrev pub EdgesTurned : Type 0 → Type 0
EdgesTurned S = (parts : StepParts S) (turn : S → S) (walk : List S) → IsTurn parts turn
    → map parts.edge (map turn (reverse walk)) ≡ reverse (map parts.edge walk)

-- So it is the link gone the other way.
abbrev pub StepsTurned : Type 0 → Type 0
StepsTurned S = (parts : StepParts S) (turn : S → S) (walk : List S) → IsTurn parts turn
    → walk ≢ [] → link_of_steps parts (map turn (reverse walk)) ≡ turned_link (link_of_steps parts walk)

-- And one walk after another is the one link and then the other.
abbrev pub StepsJoined : Type 0 → Type 0
StepsJoined S = (parts : StepParts S) (walk more : List S) → walk ≢ [] → more ≢ []
    → link_of_steps parts (walk ++ more) ≡ joined_link (link_of_steps parts walk) (link_of_steps parts more)

-- the walk, gone back if it does not end, or does not begin, at the vertex
abbrev pub ending_steps : {S : Type 0} → StepParts S → (S → S) → ℕ → List S → List S
ending_steps parts turn v walk = if v == end_after parts 0 walk then walk else map turn (reverse walk)

abbrev pub starting_steps : {S : Type 0} → StepParts S → (S → S) → ℕ → List S → List S
starting_steps parts turn v walk = if v == begin_of parts walk then walk else map turn (reverse walk)

-- So two walks that meet at the vertex are the links joined there.
abbrev pub StepsThrough : Type 0 → Type 0
StepsThrough S = (parts : StepParts S) (turn : S → S) (v : ℕ) (walk more : List S) → IsTurn parts turn → walk ≢ []
    → more ≢ []
    → link_of_steps parts (ending_steps parts turn v walk ++ starting_steps parts turn v more)
    ≡ link_through v (link_of_steps parts walk) (link_of_steps parts more)
