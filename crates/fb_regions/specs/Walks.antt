-- Walks in a decoding graph, step by step.
use Rattle.std.specs.Prelude.{ℕ, ◌≡◌, ◌<◌, List, [], ◌∷◌, length}
use Rattle.fb_graph.specs.Problem.{Problem, edge_at}
use Rattle.fb_graph.specs.Components.{Leads}
use Rattle.fb_links.specs.declared.walk.Step.{Step}

-- the step goes over an edge of the problem, from one of its ends to the other, and has its weight
pub record IsStep (p : Problem) (s : Step) : Type 0 where
  pub within : s.edge < length p.edges
  pub leads : Leads (edge_at p.edges s.edge) s.from s.to
  pub weighs : s.weight ≡ (edge_at p.edges s.edge).weight

-- the steps lead from the one vertex to the other, each beginning where the one before ended
abbrev pub IsWalk : Problem → List Step → ℕ → ℕ → Type 0
IsWalk p [] from to = from ≡ to
IsWalk p (s ∷ ss) from to = (s.from ≡ from) × IsStep p s × IsWalk p ss s.to to
