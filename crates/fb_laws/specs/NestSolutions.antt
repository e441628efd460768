-- What a nest with nothing unmatched is solved by, once its blossoms are opened (Edmonds 1965).
use Rattle.std.specs.Prelude.{ℕ, ◌≡◌, true, List, ◌∷◌, map, All, filter}
use Rattle.fb_graph.specs.Parity.{is_in}
use Rattle.fb_graph.specs.Problem.{Problem}
use Rattle.fb_graph.specs.Certificate.{AreDistinct, AreRising, IsCertified, total_value}
use Rattle.fb_graph.specs.Printed.{HasPositiveCuts}
use Rattle.fb_graph.specs.Laws.{Link, odd_edges}
use Rattle.fb_graph.specs.Dual.{Node, all_cuts, is_empty, is_live, leaves, top_at}
use Rattle.fb_graph.specs.declared.parts.Cut.{Cut}
use Rattle.fb_graph.specs.Links.{IsTightLink}
use Rattle.fb_laws.specs.Blossoms.{ArePaired}
use Rattle.fb_laws.specs.Opening.{EndAtDefects, IsLevel, IsOpening, single_sets}
use Rattle.fb_laws.specs.Works.{HasDefects, positive_cuts}
use Rattle.fb_graph.specs.Nests.{IsNest, first_set}

-- the names are those of the node's children, each once
pub record AreChildrenOf (nodes : List Node) (name : ℕ) (children : List ℕ) : Type 0 where
  pub same : All (λ n. n.name ≡ name → (c : ℕ) → is_in children c ≡ is_in n.children c) nodes
  pub distinct : AreDistinct children

-- Any blossom of a nest, outer or not, may be opened: each cut lies within one of its children or treats all alike.
abbrev pub NestOpened : Type 0
NestOpened = (p : Problem) (nodes : List Node) (name kept : ℕ) (paired : List ℕ) (links : List Link) → IsNest p nodes
    → is_live nodes name ≡ true → AreChildrenOf nodes name (kept ∷ paired) → ArePaired (map (top_at nodes) paired) links
    → IsOpening (positive_cuts nodes) (top_at nodes name) (top_at nodes kept) (map (top_at nodes) paired) links

-- The defects that a node holds lie in its first layer, so under its children if it has any.
abbrev pub DefectsFirst : Type 0
DefectsFirst = (p : Problem) (nodes : List Node) → IsNest p nodes
    → All
    (λ n. (d : ℕ) → is_in (leaves nodes) d ≡ true → is_in n.top.vertices d ≡ true → is_in (first_set n) d ≡ true)
    nodes

-- the sets of the nodes that join no others
abbrev pub leaf_sets : List Node → List (List ℕ)
leaf_sets nodes = map (λ n. n.top.vertices) (filter (λ n. is_empty n.children) nodes)

-- So links between these nodes match the defects themselves.
abbrev pub LeafLevel : Type 0
LeafLevel = (p : Problem) (nodes : List Node) (links : List Link) → IsNest p nodes
    → EndAtDefects p (leaves nodes) links → IsLevel (positive_cuts nodes) (leaf_sets nodes) links
    → IsLevel (positive_cuts nodes) (single_sets (leaves nodes)) links

-- With all blossoms open, the cuts as they are printed certify the edges that lie on an odd number of the links' walks.
-- (They can be listed in rising order, since a nest's cuts differ as sets.)
abbrev pub NestResolved : Type 0
NestResolved = (p : Problem) (nodes : List Node) (links : List Link) (printed : List Cut) → IsNest p nodes
    → HasDefects p nodes → IsLevel (positive_cuts nodes) (leaf_sets nodes) links
    → All (IsTightLink p (all_cuts nodes)) links → EndAtDefects p (leaves nodes) links
    → HasPositiveCuts (all_cuts nodes) printed → AreRising printed
    → IsCertified p (odd_edges p links) (total_value (all_cuts nodes)) printed
