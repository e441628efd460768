-- The walks of links that are made over a tight edge (Edmonds 1965; Wu and Zhong 2023): from an outer node to another
-- one, or to the boundary.
use Rattle.std.specs.Prelude.{ℕ, ◌≡◌, ◌≢◌, ◌<◌, ◌^◌, true, false, List, [], ◌∷◌, ◌++◌, length, All, Option, Some}
use Rattle.fb_graph.specs.Problem.{Problem, edge_at}
use Rattle.fb_graph.specs.Certificate.{load_of}
use Rattle.fb_graph.specs.Components.{Leads}
use Rattle.fb_graph.specs.Dual.{Node, all_cuts, cover_of}
use Rattle.fb_graph.specs.Laws.{has_real_end}
use Rattle.fb_laws.specs.Searches.{LeavesNode}
use Rattle.fb_laws.specs.StepLinks.{StepParts, link_of_steps}
use Rattle.fb_laws.specs.Trees.{Connects}
use Rattle.fb_laws.specs.Works.{AreMatchedLinks}
use Rattle.fb_links.specs.declared.walk.Step.{Step}
use Rattle.fb_links.specs.Table.{Adds}
use Rattle.fb_links.specs.Walks.{turned_walk, walk_weight}
use Rattle.fb_regions.specs.Moves.{IsOver, IsSourceWalk}
use Rattle.fb_regions.specs.Walks.{IsStep}

-- edge k is tight, and its two ends are under these two different outer nodes
pub record IsBetween (p : Problem) (nodes : List Node) (k a b : ℕ) : Type 0 where
  pub within : k < length p.edges
  pub tight : load_of (all_cuts nodes) (edge_at p.edges k) ≡ (edge_at p.edges k).weight
  pub first : cover_of nodes (edge_at p.edges k).first ≡ Some a
  pub second : cover_of nodes (edge_at p.edges k).second ≡ Some b
  pub apart : a ≢ b

-- edge k is tight, and leads from the outer node to a vertex of the boundary
pub record IsOut (p : Problem) (nodes : List Node) (k a v : ℕ) : Type 0 where
  pub inner : ℕ
  pub within : k < length p.edges
  pub leads : Leads (edge_at p.edges k) inner v
  pub tight : load_of (all_cuts nodes) (edge_at p.edges k) ≡ (edge_at p.edges k).weight
  pub covered : cover_of nodes inner ≡ Some a
  pub boundary : p.is_real v ≡ false

-- the step over edge k from its first end to its second
pub record IsAlong (p : Problem) (k : ℕ) (s : Step) : Type 0 where
  pub from : s.from ≡ (edge_at p.edges k).first
  pub to : s.to ≡ (edge_at p.edges k).second
  pub edge : s.edge ≡ k
  pub weight : s.weight ≡ (edge_at p.edges k).weight

-- the step goes over an edge of the problem that has a real end
abbrev pub IsRealStep : Problem → Step → Type 0
IsRealStep p s = IsStep p s × (has_real_end p (edge_at p.edges s.edge) ≡ true)

-- how the laws read a step
abbrev pub step_parts : StepParts Step
step_parts = record { from = λ s. s.from; to = λ s. s.to; edge = λ s. s.edge }

-- the walk can be stored as a link, along edges of the problem, and this link is tight
pub record IsTightWalk (p : Problem) (nodes : List Node) (walk : List Step) : Type 0 where
  pub some : 0 < length walk
  pub light : walk_weight walk < 2 ^ 64
  pub steps : All (IsRealStep p) walk
  pub tight : AreMatchedLinks p nodes (link_of_steps step_parts walk ∷ [])

-- such a walk from the one outer node to the other
pub record IsMetWalk (p : Problem) (nodes : List Node) (a b : ℕ) (walk : List Step) : Type 0 where
  pub walk_is : IsTightWalk p nodes walk
  pub connects : Connects nodes (link_of_steps step_parts walk) a b

-- such a walk from the outer node to the vertex
pub record IsOutWalk (p : Problem) (nodes : List Node) (a v : ℕ) (walk : List Step) : Type 0 where
  pub walk_is : IsTightWalk p nodes walk
  pub leaves : LeavesNode nodes (link_of_steps step_parts walk) a v

-- the walk leads from the source of the edge's first end to that end, over the edge, and from its second end back to the
-- source of that one
pub record IsOverSources (p : Problem) (nodes : List Node) (k : ℕ) (walk : List Step) : Type 0 where
  pub up : List Step
  pub step : Step
  pub down : List Step
  pub joined : walk ≡ (up ++ step ∷ []) ++ turned_walk down
  pub over : IsAlong p k step
  pub first : IsSourceWalk p nodes step.from up
  pub second : IsSourceWalk p nodes step.to down

-- the walk leads from the source of the edge's inner end to that end, and over the edge
pub record IsOverSource (p : Problem) (nodes : List Node) (k : ℕ) (walk : List Step) : Type 0 where
  pub up : List Step
  pub step : Step
  pub joined : walk ≡ up ++ step ∷ []
  pub over : IsOver p nodes k step
  pub inner : IsSourceWalk p nodes step.from up

-- a link of this number is added, by such a walk between the outer nodes over the ends of edge k
pub record IsLinkedBetween (p : Problem) (nodes : List Node) (k : ℕ) (old new : List (Option (List Step))) (link : ℕ) : Type 0 where
  pub walk : List Step
  pub adds : Adds old new link walk
  pub sources : IsOverSources p nodes k walk
  pub between : (a b : ℕ) → IsBetween p nodes k a b → IsMetWalk p nodes a b walk

-- a link of this number is added, by such a walk over edge k to the boundary
pub record IsLinkedOut (p : Problem) (nodes : List Node) (k : ℕ) (old new : List (Option (List Step))) (link : ℕ) : Type 0 where
  pub walk : List Step
  pub adds : Adds old new link walk
  pub source : IsOverSource p nodes k walk
  pub out : (a v : ℕ) → IsOut p nodes k a v → IsOutWalk p nodes a v walk
