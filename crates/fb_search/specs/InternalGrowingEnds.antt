-- How trees that grow together end: what becomes of their nodes, of their links, and of the edges that are watched.
use Rattle.std.specs.Prelude.{ℕ, ◌≡◌, ◌<◌, ◌≤◌, true, false, List, ◌∷◌, ◌++◌, length, set, All, Option, Some, None}
use Rattle.std.specs.List.Sorted.{IsPermutation}
use Rattle.fb_graph.specs.Parity.{is_in}
use Rattle.fb_graph.specs.Problem.{Problem, edge_at, touches}
use Rattle.fb_graph.specs.Certificate.{AreDistinct}
use Rattle.fb_graph.specs.Dual.{Node, top_at}
use Rattle.fb_laws.specs.LinkNumbers.{links_dropped}
use Rattle.fb_links.specs.declared.walk.Step.{Step}
use Rattle.fb_links.specs.Table.{is_live}
use Rattle.fb_half.specs.Matchings.{MatchingValue, matched_names}
use Rattle.fb_obstacles.specs.Watched.{AreBounded, Watched}
use Rattle.fb_trees.specs.Branches.{Grown}
use Rattle.fb_trees.specs.Forests.{tree_at}
use Rattle.fb_trees.specs.Rooted.{IsPlus}
use Rattle.fb_search.specs.InternalEndings.{Forgets, ended_matches}

-- The tree of this number may be matched at its plus node: its root is unmatched, no other node of it is listed, and its links
-- are there.
pub record MayMatchTree (t : ℕ) (g : Grown) (name : ℕ) (m : MatchingValue) (table : List (Option (List Step))) (forest : List (Option Grown)) : Type 0 where
  pub at : tree_at forest t ≡ Some g
  pub plus : IsPlus g name
  pub root : is_in m.unmatched g.root ≡ true
  pub distinct : (rest : List ℕ) → IsPermutation m.unmatched (g.root ∷ rest)
      → AreDistinct ((rest ++ matched_names m.matches) ++ matched_names (ended_matches g.branches name))
  pub live : All (λ id. is_live table id ≡ true) (links_dropped g.branches name)
  pub once : AreDistinct (links_dropped g.branches name)

-- The tree is matched at its plus node, and dissolved.
pub record IsTreeMatched (t : ℕ) (g : Grown) (name : ℕ) (m : MatchingValue) (table : List (Option (List Step))) (forest : List (Option Grown))
    (new_m : MatchingValue) (new_links : List (Option (List Step))) (new_forest : List (Option Grown)) : Type 0 where
  pub matches : new_m.matches ≡ m.matches ++ ended_matches g.branches name
  pub unmatched : IsPermutation m.unmatched (g.root ∷ new_m.unmatched)
  pub links : Forgets (links_dropped g.branches name) table new_links
  pub dissolved : new_forest ≡ set forest t None

-- The edges at each of these nodes are watched, and all that were watched before. The bounds of other edges stay right.
pub record WatchesEach (p : Problem) (nodes : List Node) (names : List ℕ) (old new : Watched) : Type 0 where
  pub room : new.edge_count ≡ old.edge_count
  pub minus : new.nodes ≡ old.nodes
  pub kept : (k : ℕ) → is_in old.edges k ≡ true → is_in new.edges k ≡ true
  pub near : (name v k : ℕ) → is_in names name ≡ true → is_in (top_at nodes name) v ≡ true → k < length p.edges
      → touches v (edge_at p.edges k) ≡ true → is_in new.edges k ≡ true
  pub bounds : (before after : ℕ → ℕ)
      → ((k : ℕ) → ((name v : ℕ) → is_in names name ≡ true → is_in (top_at nodes name) v ≡ true
      → touches v (edge_at p.edges k) ≡ false) → before k ≤ after k)
      → AreBounded before old → AreBounded after new
