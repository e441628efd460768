-- A half-solved part of a plan as contracts see it, and what it keeps (Wu and Zhong 2023).
use Rattle.std.specs.Prelude.{ℕ, ◌≡◌, ◌<◌, true, List, [], ◌++◌, map, length, get_or, All, Option, Some}
use Rattle.fb_graph.specs.Parity.{is_in}
use Rattle.fb_graph.specs.Problem.{Problem, edge_at}
use Rattle.fb_graph.specs.Certificate.{AreDistinct}
use Rattle.fb_graph.specs.Laws.{has_real_end}
use Rattle.fb_graph.specs.Dual.{Node, defects_of, is_empty, is_live}
use Rattle.fb_graph.specs.Limits.{DecodingGraph, ShotValue, no_shot}
use Rattle.fb_graph.specs.ShotGraphs.{shot_graph}
use Rattle.fb_graph.specs.Signs.{shifted_shot}
use Rattle.fb_plan.specs.Plans.{JobValue, node_count, problem_at}
use Rattle.fb_plan.specs.Laws.{IsJob}
use Rattle.fb_links.specs.declared.walk.Step.{Step}
use Rattle.fb_links.specs.Table as table
use Rattle.fb_blossoms.specs.Nodes.{defects_at}
use Rattle.fb_blossoms.specs.Nodes as blossoms
use Rattle.fb_regions.specs.Walks.{IsStep}
use Rattle.fb_laws.specs.PartStates.{PartState, IsPartState}
use Rattle.fb_half.specs.Translations.{children_at, cycles_by, link_by, ring_links}
use Rattle.fb_half.specs.Matchings.{MatchingValue, IsMatchingOf, match_links}

pub record PartValue : Type 0 where
  pub job : JobValue
  -- which shot of the job, and which node of its plan
  pub slot : ℕ
  pub node : ℕ
  -- the nodes of the dual state
  pub nodes : List Node
  -- the walks of the links, by number
  pub links : List (Option (List Step))
  -- the leaves and blossoms, by name
  pub store : List (Option blossoms.Node)
  pub matching : MatchingValue

-- the part's shot
abbrev pub shot_of : PartValue → ShotValue
shot_of w = get_or w.job.shots w.slot no_shot

-- the graph with the weights of that shot
abbrev pub graph_in : PartValue → DecodingGraph
graph_in w = shot_graph w.job.graph (shot_of w)

-- the shot that is solved: its defects are the shifted ones
abbrev pub solved_shot : PartValue → ShotValue
solved_shot w = shifted_shot w.job.graph (shot_of w)

-- the sub-problem of the part's node: weights without their signs, and shifted defects
abbrev pub problem_in : PartValue → Problem
problem_in w = problem_at (graph_in w) w.job.plan w.node (solved_shot w)

-- the part as the laws see it
abbrev pub state_of : PartValue → PartState
state_of w = record {
  nodes = w.nodes;
  cycles = cycles_by w.links w.store;
  matches = map (link_by w.links) (match_links w.matching.matches);
  unmatched = w.matching.unmatched;
}

-- The dual state and the store of blossoms have the same nodes: the same names, each blossom with the same children in
-- the same order, and each leaf with the same defect.
pub record AreAgreed (nodes : List Node) (store : List (Option blossoms.Node)) : Type 0 where
  pub live : (name : ℕ) → is_live nodes name ≡ blossoms.is_live store name
  pub children : All (λ n. n.children ≡ children_at store n.name) nodes
  pub leaves : All (λ n. is_empty n.children ≡ true → defects_of n ≡ defects_at store n.name) nodes

-- the walk's steps are edges of the problem, each with a real end
abbrev pub AreStepsOf : Problem → List Step → Type 0
AreStepsOf p walk = All (λ s. IsStep p s × (has_real_end p (edge_at p.edges s.edge) ≡ true)) walk

-- The links are those of these numbers, no others, and lead along the problem's edges.
pub record AreLinksOf (p : Problem) (links : List (Option (List Step))) (ids : List ℕ) : Type 0 where
  pub distinct : AreDistinct ids
  pub live : (id : ℕ) → table.is_live links id ≡ is_in ids id
  pub steps : (id : ℕ) (walk : List Step) → table.link_at links id ≡ Some walk → AreStepsOf p walk

-- the links that a part keeps: its matches and those round its blossoms
abbrev pub kept_links : PartValue → List ℕ
kept_links w = match_links w.matching.matches ++ ring_links w.nodes w.store

-- What every half-solved part keeps.
pub record IsPart (w : PartValue) : Type 0 where
  pub job : IsJob w.job
  pub slot : w.slot < length w.job.shots
  pub node : w.node < node_count w.job.plan
  pub state : IsPartState (problem_in w) (state_of w)
  pub agreed : AreAgreed w.nodes w.store
  pub links : AreLinksOf (problem_in w) w.links (kept_links w)
  pub matching : IsMatchingOf (problem_in w) w.nodes w.links w.matching []

-- the part of this slot and node of the job
pub record IsPartOf (j : JobValue) (s n : ℕ) (part : PartValue) : Type 0 where
  pub job : part.job ≡ j
  pub slot : part.slot ≡ s
  pub node : part.node ≡ n
