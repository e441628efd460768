-- Nodes under other names, as when two parts of a problem become one and their names would clash.
use Rattle.std.specs.Prelude.{ℕ, ◌≡◌, true, List, map, option_map}
use Rattle.fb_graph.specs.Problem.{Problem}
use Rattle.fb_graph.specs.Dual.{Node, cover_of, is_live, is_outer}
use Rattle.fb_graph.specs.Nests.{IsNest}
use Rattle.fb_graph.specs.SourceWalks.{HaveWalks}

-- the node with its name and the names of its children replaced
abbrev pub renamed_node : (ℕ → ℕ) → Node → Node
renamed_node f n = record n { name = f n.name; children = map f n.children }

abbrev pub renamed_nodes : (ℕ → ℕ) → List Node → List Node
renamed_nodes f nodes = map (renamed_node f) nodes

-- no two nodes get the same name
abbrev pub AreRenamedApart : (ℕ → ℕ) → List Node → Type 0
AreRenamedApart f nodes = (a b : ℕ) → is_live nodes a ≡ true → is_live nodes b ≡ true → f a ≡ f b → a ≡ b

-- A nest stays one under other names, and keeps its source walks.
abbrev pub NestRenamed : Type 0
NestRenamed = (p : Problem) (nodes : List Node) (f : ℕ → ℕ) → AreRenamedApart f nodes → IsNest p nodes
    → IsNest p (renamed_nodes f nodes)

abbrev pub WalksRenamed : Type 0
WalksRenamed = (p : Problem) (nodes : List Node) (f : ℕ → ℕ) → HaveWalks p nodes → HaveWalks p (renamed_nodes f nodes)

-- Each vertex stays under its node, whose name is replaced.
abbrev pub CoverRenamed : Type 0
CoverRenamed = (p : Problem) (nodes : List Node) (f : ℕ → ℕ) (v : ℕ) → AreRenamedApart f nodes → IsNest p nodes
    → cover_of (renamed_nodes f nodes) v ≡ option_map f (cover_of nodes v)

-- And each node stays outer, or joined by another.
abbrev pub OuterRenamed : Type 0
OuterRenamed = (p : Problem) (nodes : List Node) (f : ℕ → ℕ) (name : ℕ) → AreRenamedApart f nodes → IsNest p nodes
    → is_live nodes name ≡ true → is_outer (renamed_nodes f nodes) (f name) ≡ is_outer nodes name
