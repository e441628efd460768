-- A further defect of a dual state: an uncovered real vertex becomes a node of its own.
use Rattle.std.specs.Prelude.{ℕ, ◌≡◌, true, false, List, [], ◌∷◌, ◌++◌, None}
use Rattle.fb_graph.specs.Problem.{Problem}
use Rattle.fb_graph.specs.Dual.{Node, cover_of, is_live, leaf}
use Rattle.fb_graph.specs.Nests.{IsNest}
use Rattle.fb_graph.specs.SourceWalks.{HaveWalks}

-- a name that no node has, and a real vertex under no node
pub record MayAddLeaf (p : Problem) (nodes : List Node) (name v : ℕ) : Type 0 where
  pub fresh : is_live nodes name ≡ false
  pub real : p.is_real v ≡ true
  pub uncovered : cover_of nodes v ≡ None

-- A node for one more defect, of value 0, keeps a nest.
abbrev pub NestLeafAdded : Type 0
NestLeafAdded = (p : Problem) (nodes : List Node) (name v : ℕ) → MayAddLeaf p nodes name v → IsNest p nodes
    → IsNest p (nodes ++ leaf name v ∷ [])

-- It keeps the source walks, and has one of no edges to its own vertex.
abbrev pub WalksLeafAdded : Type 0
WalksLeafAdded = (p : Problem) (nodes : List Node) (name v : ℕ) → MayAddLeaf p nodes name v → IsNest p nodes
    → HaveWalks p nodes → HaveWalks p (nodes ++ leaf name v ∷ [])
