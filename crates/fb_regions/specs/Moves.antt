-- What the calls on a dual state ask for and give.
use Rattle.std.specs.Prelude.{ℕ, ◌≡◌, ◌+◌, ◌==◌, true, List, [], ◌∷◌, ◌++◌, All, is_some, unwrap_or, if◌then◌else◌}
use Rattle.fb_graph.specs.Parity.{is_in}
use Rattle.fb_graph.specs.Problem.{Problem, edge_at}
use Rattle.fb_graph.specs.declared.parts.Edge.{Edge}
use Rattle.fb_graph.specs.Laws.{has_real_end}
use Rattle.fb_links.specs.declared.walk.Step.{Step}
use Rattle.fb_graph.specs.Dual.{Node, all_cuts, leaves, cover_of, height_of, no_node, taller_node, change_at}
use Rattle.fb_regions.specs.Walks.{IsWalk}
use Rattle.fb_links.specs.Walks.{walk_weight}

-- the node of this name; one without layers below the top if no node has it
abbrev pub node_named : List Node → ℕ → Node
node_named [] name = no_node
node_named (n ∷ ns) name = if n.name == name then n else node_named ns name

-- the first member of the list
abbrev pub BeginsWith : ℕ → List ℕ → Type 0
BeginsWith v [] = ⊥
BeginsWith v (u ∷ us) = u ≡ v

-- the end of the edge that a node holds: the first one if both are held
abbrev pub inner_end : List Node → Edge → ℕ
inner_end nodes e = if is_some (cover_of nodes e.first) then e.first else e.second

-- the other end
abbrev pub outer_end : List Node → Edge → ℕ
outer_end nodes e = if is_some (cover_of nodes e.first) then e.second else e.first

-- the node that holds the inner end of the edge absorbs the outer end, in a further layer of value 0
abbrev pub absorbed_over : List Node → Edge → List Node
absorbed_over nodes e = change_at (unwrap_or (cover_of nodes (inner_end nodes e)) 0) (taller_node (outer_end nodes e)) nodes

-- the step over edge k from its inner end to its outer one
pub record IsOver (p : Problem) (nodes : List Node) (k : ℕ) (s : Step) : Type 0 where
  pub from : s.from ≡ inner_end nodes (edge_at p.edges k)
  pub to : s.to ≡ outer_end nodes (edge_at p.edges k)
  pub edge : s.edge ≡ k
  pub weight : s.weight ≡ (edge_at p.edges k).weight

-- a walk from a defect to the vertex, both under one outer node, as long as the values of the sets that hold the
-- defect are more than those that hold the vertex
pub record IsWalkFrom (p : Problem) (nodes : List Node) (walk : List Step) (d v : ℕ) : Type 0 where
  pub defect : is_in (leaves nodes) d ≡ true
  pub together : cover_of nodes d ≡ cover_of nodes v
  pub leads : IsWalk p walk d v
  pub weighs : walk_weight walk + height_of (all_cuts nodes) v ≡ height_of (all_cuts nodes) d
  pub real : All (λ s. has_real_end p (edge_at p.edges s.edge) ≡ true) walk

-- the walk leads to the vertex from its source, some defect
abbrev pub IsSourceWalk : Problem → List Node → ℕ → List Step → Type 0
IsSourceWalk p nodes v walk = (d : ℕ) × IsWalkFrom p nodes walk d v

-- such a walk is added to the steps, at their end
pub record AddsSourceWalk (p : Problem) (nodes : List Node) (v : ℕ) (old new : List Step) : Type 0 where
  pub walk : List Step
  pub added : new ≡ old ++ walk
  pub leads : IsSourceWalk p nodes v walk
