-- A minus blossom opened by a search: what the calls ask for, what they make of the parts, and the search afterwards.
use Rattle.std.proofs.Common.{ℕ, ◌<◌, All, List, ◌++◌, Option, get_or}
use Rattle.fb_graph.specs.Dual.{top_at}
use Rattle.fb_graph.specs.Laws.{Link}
use Rattle.fb_graph.specs.Moves.{MaySplit, split_nodes}
use Rattle.fb_graph.specs.Nests.{IsNest}
use Rattle.fb_laws.specs.OpenedCycles.{IsOpenedCycle}
use Rattle.fb_laws.specs.RingWays.{couples_after, way_to}
use Rattle.fb_laws.specs.Searches.{IsSearch}
use Rattle.fb_laws.specs.StateRings.{MayOpenAlong, round_of}
use Rattle.fb_laws.specs.TreeCycles.{nodes_along}
use Rattle.fb_laws.specs.Trees.{Entry, EntryOf}
use Rattle.fb_links.specs.declared.cycle.CycleStep.{CycleStep}
use Rattle.fb_links.specs.declared.walk.Step.{Step}
use Rattle.fb_blossoms.specs.Nodes.{TakesOff, cycle_at}
use Rattle.fb_blossoms.specs.Nodes as blossoms
use Rattle.fb_half.specs.Matchings.{IsMatchingOf}
use Rattle.fb_half.specs.Parts.{AreAgreed, AreLinksOf, PartValue}
use Rattle.fb_trees.specs.Branches.{Grown}
use Rattle.fb_trees.specs.Replacements.{IsOpened}
use Rattle.fb_trees.specs.Rooted.{IsBranchAt}
use Rattle.fb_obstacles.specs.Watched.{Watched}
use Rattle.fb_search.specs.InternalEndings.{Forgets}
use Rattle.fb_search.specs.InternalOpenings.{EndsAtChild, couples_on, even_on, links_left, round_on, way_on}
use Rattle.fb_search.specs.InternalSearching.{SearchValue, problem_of, searched_links, state_at}
use Rattle.fb_obstacles.specs.InternalWatching.{Watches}

-- the round from the one child by the way on which the other is an even number of links on
abbrev pub round_in : PartValue → ℕ → ℕ → ℕ → List CycleStep
round_in w name above below = even_on (round_on (cycle_at w.store name) above) below

-- A minus blossom that may be opened, its branch, and the children at which the branch's two links end.
pub record Opens (w : SearchValue) (name : ℕ) (e : EntryOf ℕ) (above below : ℕ) : Type 0 where
  pub may_split : MaySplit w.part.nodes name
  pub branch : IsBranchAt w.tree name e
  pub at_above : EndsAtChild w.part name e.parent e.tree above
  pub at_below : EndsAtChild w.part name e.plus e.matched below

-- What is kept of a tree with a blossom to open, whether or not other trees grow beside it: these further links are kept
-- beside its own, and its matching has the matched links of the other trees too.
pub record IsOpening (more : List ℕ) (w : SearchValue) : Type 0 where
  pub parity : ℕ
  -- the matched links that are not the tree's
  pub rest : List Link
  pub nest : IsNest (problem_of w) w.part.nodes
  pub search : IsSearch (problem_of w) w.part.nodes (state_at w 0).tree rest w.part.matching.unmatched w.tree.root parity
  pub agreed : AreAgreed w.part.nodes w.part.store
  pub links : AreLinksOf (problem_of w) w.part.links (more ++ searched_links w)
  pub matching : IsMatchingOf (problem_of w) w.part.nodes w.part.links w.part.matching (nodes_along w.tree.branches)
  -- the way between two children on the ring is one that the laws open
  pub along : (newer older : List Entry) (e : Entry) (children : List ℕ) (place steps : ℕ)
      → MayOpenAlong (state_at w parity) newer older e children place steps
      → IsOpenedCycle (problem_of w) w.part.nodes (split_nodes e.minus w.part.nodes) e (get_or children place 0)
      (way_to steps (round_of (state_at w parity) e children place))
      (couples_after steps (round_of (state_at w parity) e children place)) w.part.matching.unmatched

-- the search afterwards
abbrev pub opened_search : ℕ → List CycleStep → List (Option (List Step)) → List (Option blossoms.Node) → Grown → Watched
    → SearchValue → SearchValue
opened_search name rest links store tree watched w = record {
  part = record w.part {
    nodes = split_nodes name w.part.nodes;
    links = links;
    store = store;
    matching = record { matches = w.part.matching.matches ++ couples_on rest; unmatched = w.part.matching.unmatched };
  };
  tree = tree;
  watched = watched;
}

-- What the calls make of the parts.
pub record HasOpened (w : SearchValue) (name above below : ℕ) (links : List (Option (List Step)))
    (store : List (Option blossoms.Node)) (tree : Grown) (watched : Watched) : Type 0 where
  pub taken_off : TakesOff w.part.store store name
  pub grown : IsOpened w.tree name (way_on (round_in w.part name above below) below) tree
  pub forgets : Forgets (links_left (round_in w.part name above below) below) w.part.links links
  pub within : All (λ k. k < watched.edge_count) watched.edges
  pub watches : Watches (problem_of w) (top_at w.part.nodes name) w.watched watched
