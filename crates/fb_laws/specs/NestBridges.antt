-- The moves of a nest, in the form that the laws of searches have.
use Rattle.std.specs.Prelude.{ℕ, ◌≡◌, ◌≤◌, Bool, true, false, List, [], ◌∷◌, ◌++◌, map, length, All, None}
use Rattle.fb_graph.specs.Parity.{is_in}
use Rattle.fb_graph.specs.Problem.{Problem}
use Rattle.fb_graph.specs.Certificate.{AreDistinct}
use Rattle.fb_graph.specs.Limits.{IsWithinLimits}
use Rattle.fb_graph.specs.Laws.{Link}
use Rattle.fb_graph.specs.Dual.{Node, cover_of, is_live, is_outer, leaves}
use Rattle.fb_laws.specs.Measures.{IsLower}
use Rattle.fb_graph.specs.Steps.{Roles}
use Rattle.fb_laws.specs.Forming.{Child, names_of, blossom_of}
use Rattle.fb_laws.specs.Works.{IsSetOf}
use Rattle.fb_laws.specs.Trees.{Entry, roles_of}
use Rattle.fb_laws.specs.SearchLayers.{left_to_do}
use Rattle.fb_laws.specs.SearchBlossoms.{IsJoining, joined_tree, renamed_name}
use Rattle.fb_laws.specs.Searches.{IsSearch}
use Rattle.fb_graph.specs.Nests.{IsNest}
use Rattle.fb_graph.specs.Moves.{MayJoin, MayAbsorb, MayUncover, blossom, joined_nodes, absorbed_nodes, uncovered_nodes}

-- The blossom of children given by their names and sets is that of their names.
abbrev pub BlossomNamed : Type 0
BlossomNamed = (nodes : List Node) (name : ℕ) (children : List Child) → AreDistinct (map (λ n. n.name) nodes)
    → All (λ c. IsSetOf nodes c.name c.set) children
    → blossom_of name children ≡ blossom name (names_of children) nodes

-- Nodes of a tree that become a blossom may be joined under a name that no node has.
abbrev pub JoiningAllowed : Type 0
JoiningAllowed = (nodes : List Node) (tree : List Entry) (root name : ℕ) (base : Child) (others : List Child)
    → IsJoining nodes tree root name base others → 1 ≤ length others → is_live nodes name ≡ false
    → MayJoin nodes name (names_of (base ∷ others))

-- Then no node joins the blossom, as its joining asks.
abbrev pub BlossomOuter : Type 0
BlossomOuter = (p : Problem) (nodes : List Node) (name : ℕ) (children : List Child) → IsNest p nodes
    → All (λ c. IsSetOf nodes c.name c.set) children → is_live nodes name ≡ false
    → is_outer (nodes ++ blossom_of name children ∷ []) name ≡ true

-- the vertex is the one that the node has given up: no defect, under no node, and taking it up again leads back
pub record IsGivenUp (nodes : List Node) (name v : ℕ) : Type 0 where
  pub back : absorbed_nodes name v (uncovered_nodes name nodes) ≡ nodes
  pub no_defect : is_in (leaves (uncovered_nodes name nodes)) v ≡ false
  pub free : cover_of (uncovered_nodes name nodes) v ≡ None
  pub live : is_live (uncovered_nodes name nodes) name ≡ true
  pub outer : is_outer (uncovered_nodes name nodes) name ≡ true

-- A node whose empty top layer is taken off gives up one vertex.
abbrev pub UncoveredBack : Type 0
UncoveredBack = (p : Problem) (nodes : List Node) (name : ℕ) → MayUncover nodes name → IsNest p nodes
    → (v : ℕ) × IsGivenUp nodes name v

-- So a minus node whose empty layer is taken off leaves less to do.
abbrev pub UncoveredLowers : Type 0
UncoveredLowers = (p : Problem) (nodes : List Node) (roles : Roles) (name : ℕ) (free freed : Bool)
    → MayUncover nodes name → IsNest p nodes → roles.is_minus name ≡ true → roles.is_plus name ≡ false
    → IsLower (left_to_do p (uncovered_nodes name nodes) roles freed) (left_to_do p nodes roles free)

-- So does a plus node that absorbs a vertex.
abbrev pub AbsorbedLowers : Type 0
AbsorbedLowers = (p : Problem) (nodes : List Node) (roles : Roles) (name k u v : ℕ) (free freed : Bool)
    → IsWithinLimits p → MayAbsorb p nodes name k u v → IsNest p nodes → roles.is_plus name ≡ true
    → IsLower (left_to_do p (absorbed_nodes name v nodes) roles freed) (left_to_do p nodes roles free)

-- And nodes of a tree that are joined, since one of them is minus.
abbrev pub JoiningLowers : Type 0
JoiningLowers = (p : Problem) (nodes : List Node) (tree : List Entry) (rest : List Link) (unmatched : List ℕ)
    (root r name : ℕ) (base : Child) (others : List Child) (free freed : Bool)
    → IsJoining nodes tree root name base others → 1 ≤ length others → is_live nodes name ≡ false → IsNest p nodes
    → IsSearch p nodes tree rest unmatched root r
    → IsLower
    (left_to_do p (joined_nodes name (names_of (base ∷ others)) nodes)
    (roles_of (renamed_name (is_in (names_of (base ∷ others))) name root)
    (joined_tree (is_in (names_of (base ∷ others))) name tree)) freed)
    (left_to_do p nodes (roles_of root tree) free)
