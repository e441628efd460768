-- A search of one tree, as lemmas see it: those on defects that are matched at once, and those on one tree among several.
use Rattle.std.specs.Prelude.{ℕ, ◌≡◌, ◌<◌, List, [], ◌++◌, map, length}
use Rattle.fb_graph.specs.Problem.{Problem}
use Rattle.fb_graph.specs.Steps.{Roles, stepped_nodes}
use Rattle.fb_plan.specs.Plans.{node_count}
use Rattle.fb_plan.specs.Laws.{IsJob}
use Rattle.fb_laws.specs.LinkNumbers.{tree_links}
use Rattle.fb_laws.specs.PartStates.{SearchState, IsSearchState}
use Rattle.fb_laws.specs.TreeCycles.{nodes_along}
use Rattle.fb_laws.specs.Trees.{roles_of}
use Rattle.fb_laws.specs.Works.{names_without}
use Rattle.fb_half.specs.Matchings.{IsMatchingOf, match_links}
use Rattle.fb_half.specs.Parts.{AreAgreed, AreLinksOf, PartValue, kept_links, problem_in}
use Rattle.fb_half.specs.Translations.{cycles_by, entry_by, link_by}
use Rattle.fb_trees.specs.Branches.{Grown}
use Rattle.fb_trees.specs.Rooted.{role_in}
use Rattle.fb_obstacles.specs.Obstacles.{AreMinusBounded, IsWatched, roles_by, slack_at}
use Rattle.fb_obstacles.specs.Watched.{AreBounded, Watched}
use Rattle.fb_search.specs.InternalGrowth.{lowered_by}

pub record SearchValue : Type 0 where
  -- its matches are those of nodes outside the tree; the root is one of its unmatched nodes
  pub part : PartValue
  pub tree : Grown
  -- the edges and minus nodes that the search looks at
  pub watched : Watched

abbrev pub problem_of : SearchValue → Problem
problem_of w = problem_in w.part

-- the names of the unmatched nodes, the root among them
abbrev pub unmatched_in : SearchValue → List ℕ
unmatched_in w = w.part.matching.unmatched

-- the search as the laws see it, if the potentials of the tree's defects have this parity
abbrev pub state_at : SearchValue → ℕ → SearchState
state_at w parity = record {
  nodes = w.part.nodes;
  cycles = cycles_by w.part.links w.part.store;
  tree = map (entry_by w.part.links) w.tree.branches;
  rest = map (link_by w.part.links) (match_links w.part.matching.matches);
  unmatched = w.part.matching.unmatched;
  root = w.tree.root;
  parity = parity;
}

-- the roles of the nodes
abbrev pub roles_in : SearchValue → Roles
roles_in w = roles_by (role_in w.tree)

-- the links that a search keeps: the tree's, the matches of other nodes, and those round blossoms
abbrev pub searched_links : SearchValue → List ℕ
searched_links w = tree_links w.tree.branches ++ kept_links w.part

-- What every search keeps while its tree grows, with these further links beside those that it keeps.
pub record IsSearchingBeside (more : List ℕ) (w : SearchValue) : Type 0 where
  pub job : IsJob w.part.job
  pub slot : w.part.slot < length w.part.job.shots
  pub node : w.part.node < node_count w.part.job.plan
  pub state : (parity : ℕ) × IsSearchState (problem_of w) (state_at w parity)
  pub agreed : AreAgreed w.part.nodes w.part.store
  pub links : AreLinksOf (problem_of w) w.part.links (more ++ searched_links w)
  -- the tree's nodes but for its root are listed by the tree alone
  pub matching : IsMatchingOf (problem_of w) w.part.nodes w.part.links w.part.matching (nodes_along w.tree.branches)
  pub room : w.watched.edge_count ≡ length (problem_of w).edges
  pub watch : IsWatched (problem_of w) (roles_in w) w.part.nodes w.watched.edges
  -- no bound is above the slack of its edge
  pub bounds : AreBounded (slack_at (problem_of w) (roles_in w) w.part.nodes) w.watched
  pub minus : AreMinusBounded (roles_in w) w.part.nodes w.watched

-- what every search keeps between its steps
abbrev pub IsSearching : SearchValue → Type 0
IsSearching w = IsSearchingBeside [] w

-- the names of the unmatched nodes beside the root
abbrev pub unmatched_beside : SearchValue → List ℕ
unmatched_beside w = names_without w.tree.root (unmatched_in w)

-- the search after a step of this length
abbrev pub stepped_by : ℕ → SearchValue → SearchValue
stepped_by k w = record w {
  part = record w.part { nodes = stepped_nodes (roles_of w.tree.root w.tree.branches) k w.part.nodes };
  watched = lowered_by k w.watched;
}
