-- Several trees that grow together: their value in clauses, and what they keep (Edmonds 1965).
use Rattle.std.specs.Prelude.{ℕ, ◌≡◌, ◌<◌, List, [], ◌∷◌, ◌++◌, filter, map, not, length, Option}
use Rattle.fb_graph.specs.Parity.{is_in}
use Rattle.fb_graph.specs.Steps.{Roles}
use Rattle.fb_links.specs.declared.walk.Step.{Step}
use Rattle.fb_plan.specs.Plans.{node_count}
use Rattle.fb_plan.specs.Laws.{IsJob}
use Rattle.fb_laws.specs.Forests.{AnyTree}
use Rattle.fb_laws.specs.ForestStates.{ForestState, IsForestState}
use Rattle.fb_laws.specs.LinkNumbers.{tree_links}
use Rattle.fb_laws.specs.TreeCycles.{nodes_along}
use Rattle.fb_half.specs.Matchings.{IsMatchingOf, match_links}
use Rattle.fb_half.specs.Parts.{AreAgreed, AreLinksOf, PartValue, kept_links, problem_in}
use Rattle.fb_half.specs.Values.{part_of}
use Rattle.fb_half.specs.Translations.{cycles_by, entry_by, link_by}
use Rattle.fb_trees.specs.Branches.{Grown}
use Rattle.fb_trees.specs.Forests.{role_among, trees_in}
use Rattle.fb_obstacles.specs.Obstacles.{AreMinusBounded, IsWatched, roles_by, slack_at}
use Rattle.fb_obstacles.specs.Watched.{AreBounded, Watched}
use Rattle.fb_search.specs.declared.growing.GrowingPieces.{GrowingPieces}

pub record GrowingValue : Type 0 where
  -- its matches are those of nodes in no tree; its unmatched nodes are the roots of the trees, and nodes that wait
  pub part : PartValue
  pub forest : List (Option Grown)
  -- the edges that are looked at
  pub watched : Watched

-- a tree with its links in the place of their numbers
abbrev pub tree_by : List (Option (List Step)) → Grown → AnyTree
tree_by table g = record { root = g.root; branches = map (entry_by table) g.branches }

-- the roots of the trees
abbrev pub roots_in : List (Option Grown) → List ℕ
roots_in forest = map (λ g. g.root) (trees_in forest)

-- the unmatched nodes that are no roots: they wait
abbrev pub waiting_in : GrowingValue → List ℕ
waiting_in w = filter (λ n. not (is_in (roots_in w.forest) n)) w.part.matching.unmatched

-- the trees as the laws see them, if the potentials of their defects have this parity
abbrev pub forest_state_at : GrowingValue → ℕ → ForestState
forest_state_at w parity = record {
  nodes = w.part.nodes;
  cycles = cycles_by w.part.links w.part.store;
  trees = map (tree_by w.part.links) (trees_in w.forest);
  rest = map (link_by w.part.links) (match_links w.part.matching.matches);
  unmatched = w.part.matching.unmatched;
  waiting = waiting_in w;
  parity = parity;
}

-- the roles that the trees give
abbrev pub roles_among : List (Option Grown) → Roles
roles_among forest = roles_by (role_among forest)

-- the nodes of all trees but for their roots
abbrev pub all_along : List Grown → List ℕ
all_along [] = []
all_along (g ∷ gs) = nodes_along g.branches ++ all_along gs

-- the links of all trees
abbrev pub grown_ids : List Grown → List ℕ
grown_ids [] = []
grown_ids (g ∷ gs) = tree_links g.branches ++ grown_ids gs

-- the links that are kept: those of the trees, the matches of other nodes, and those round blossoms
abbrev pub forest_links : GrowingValue → List ℕ
forest_links w = grown_ids (trees_in w.forest) ++ kept_links w.part

-- What is kept while the trees grow, with these further links beside those that are kept.
pub record IsGrowingBeside (more : List ℕ) (w : GrowingValue) : Type 0 where
  pub job : IsJob w.part.job
  pub slot : w.part.slot < length w.part.job.shots
  pub node : w.part.node < node_count w.part.job.plan
  pub state : (parity : ℕ) × IsForestState (problem_in w.part) (forest_state_at w parity)
  pub agreed : AreAgreed w.part.nodes w.part.store
  pub links : AreLinksOf (problem_in w.part) w.part.links (more ++ forest_links w)
  -- the trees' nodes but for their roots are listed by the trees alone
  pub matching : IsMatchingOf (problem_in w.part) w.part.nodes w.part.links w.part.matching (all_along (trees_in w.forest))
  pub room : w.watched.edge_count ≡ length (problem_in w.part).edges
  pub watch : IsWatched (problem_in w.part) (roles_among w.forest) w.part.nodes w.watched.edges
  -- no bound is above the slack of its edge
  pub bounds : AreBounded (slack_at (problem_in w.part) (roles_among w.forest) w.part.nodes) w.watched
  pub minus : AreMinusBounded (roles_among w.forest) w.part.nodes w.watched

-- what is kept between their steps
abbrev pub IsGrowing : GrowingValue → Type 0
IsGrowing w = IsGrowingBeside [] w

-- the trees that these pieces are
abbrev pub growing_of : GrowingPieces → GrowingValue
growing_of pieces = record { part = part_of pieces.parts; forest = pieces.forest; watched = pieces.watch }
