-- Links made when an outer node meets another one or the boundary over a tight edge: the source walk on either side
-- and the edge (Edmonds 1965; Wu and Zhong 2023). Also links turned round, and joined at a defect without potential.
use Rattle.std.specs.Prelude.{ℕ, ◌≡◌, ◌<◌, true, false, List, [], ◌∷◌, ◌++◌, reverse, length, All, Some}
use Rattle.fb_graph.specs.Parity.{is_in}
use Rattle.fb_graph.specs.Problem.{Problem, edge_at}
use Rattle.fb_graph.specs.Certificate.{load_of}
use Rattle.fb_graph.specs.Components.{Leads}
use Rattle.fb_graph.specs.Laws.{Link, has_real_end}
use Rattle.fb_graph.specs.Dual.{Node, IsDual, all_cuts, cover_of, height_of, leaves}
use Rattle.fb_graph.specs.Links.{IsSourceWalk}
use Rattle.fb_graph.specs.Nests.{IsNest}
use Rattle.fb_laws.specs.Searches.{LeavesNode}
use Rattle.fb_graph.specs.SourceWalks.{HaveWalks}
use Rattle.fb_laws.specs.Trees.{Connects}
use Rattle.fb_laws.specs.Works.{AreMatchedLinks}

-- a source walk whose both ends are under the outer node, each of its edges with a real end
pub record IsSourceUnder (p : Problem) (nodes : List Node) (name : ℕ) (walk : List ℕ) (d v : ℕ) : Type 0 where
  pub defect : is_in (leaves nodes) d ≡ true
  pub begins : cover_of nodes d ≡ Some name
  pub ends : cover_of nodes v ≡ Some name
  pub real : All (λ k. has_real_end p (edge_at p.edges k) ≡ true) walk
  pub source : IsSourceWalk p (all_cuts nodes) walk d v

-- Each vertex under an outer node has one.
abbrev pub SourceUnder : Type 0
SourceUnder = (p : Problem) (nodes : List Node) (name v : ℕ) → IsNest p nodes → HaveWalks p nodes
    → cover_of nodes v ≡ Some name → (walk : List ℕ) × (d : ℕ) × IsSourceUnder p nodes name walk d v

-- edge k is tight, and leads from the one vertex to the other
pub record IsTightEdge (p : Problem) (nodes : List Node) (k u v : ℕ) : Type 0 where
  pub within : k < length p.edges
  pub leads : Leads (edge_at p.edges k) u v
  pub tight : load_of (all_cuts nodes) (edge_at p.edges k) ≡ (edge_at p.edges k).weight

-- the walk from the first defect, the edge, and the walk from the other defect gone back
abbrev pub met_link : ℕ → List ℕ → ℕ → List ℕ → ℕ → Link
met_link d walk k back c = record { from = d; to = c; walk = walk ++ k ∷ reverse back }

-- If two outer nodes meet over a tight edge, that is a matched link between them.
abbrev pub LinkMet : Type 0
LinkMet = (p : Problem) (nodes : List Node) (a b : ℕ) (walk back : List ℕ) (k d u v c : ℕ) → IsDual p nodes
    → (a ≡ b → ⊥) → IsSourceUnder p nodes a walk d u → IsSourceUnder p nodes b back c v → IsTightEdge p nodes k u v
    → AreMatchedLinks p nodes (met_link d walk k back c ∷ []) × Connects nodes (met_link d walk k back c) a b

-- the walk from the defect and the edge
abbrev pub boundary_link : ℕ → List ℕ → ℕ → ℕ → Link
boundary_link d walk k v = record { from = d; to = v; walk = walk ++ k ∷ [] }

-- If an outer node meets the boundary over a tight edge, that is a matched link from the node to the boundary.
abbrev pub LinkToBoundary : Type 0
LinkToBoundary = (p : Problem) (nodes : List Node) (a : ℕ) (walk : List ℕ) (k d u v : ℕ) → IsDual p nodes
    → p.is_real v ≡ false → IsSourceUnder p nodes a walk d u → IsTightEdge p nodes k u v
    → AreMatchedLinks p nodes (boundary_link d walk k v ∷ []) × LeavesNode nodes (boundary_link d walk k v) a v

-- the link gone the other way
abbrev pub turned_link : Link → Link
turned_link l = record { from = l.to; to = l.from; walk = reverse l.walk }

-- It links the same two nodes.
abbrev pub LinkTurned : Type 0
LinkTurned = (p : Problem) (nodes : List Node) (l : Link) → AreMatchedLinks p nodes (l ∷ [])
    → AreMatchedLinks p nodes (turned_link l ∷ [])
    × ((a b : ℕ) → Connects nodes l a b → Connects nodes (turned_link l) a b)
    × ((a v : ℕ) → LeavesNode nodes l a v → LeavesNode nodes (turned_link l) a v)

-- the one link and then the other
abbrev pub joined_link : Link → Link → Link
joined_link l m = record { from = l.from; to = m.to; walk = l.walk ++ m.walk }

-- Two links that meet at a vertex without potential, as at the defect of a minus node that has shrunk to nothing, are
-- one link between the two outer nodes at their other ends.
abbrev pub LinksJoined : Type 0
LinksJoined = (p : Problem) (nodes : List Node) (l m : Link) (a b : ℕ) → IsDual p nodes → (a ≡ b → ⊥)
    → AreMatchedLinks p nodes (l ∷ m ∷ []) → l.to ≡ m.from → height_of (all_cuts nodes) l.to ≡ 0
    → cover_of nodes l.from ≡ Some a → cover_of nodes m.to ≡ Some b
    → AreMatchedLinks p nodes (joined_link l m ∷ []) × Connects nodes (joined_link l m) a b
