-- A dual state with blossoms (Edmonds 1965): what nodes, the nodes that they join and their layers keep.
use Rattle.std.specs.Prelude.{ℕ, ◌≡◌, ◌%◌, ◌≤◌, ◌⊎◌, true, false, List, [], ◌∷◌, map, length, All, AllPairs}
use Rattle.std.specs.List.{concat}
use Rattle.fb_graph.specs.Parity.{is_in}
use Rattle.fb_graph.specs.Problem.{Problem}
use Rattle.fb_graph.specs.Certificate.{AreDistinct}
use Rattle.fb_graph.specs.Printed.{DifferAsSets}
use Rattle.fb_graph.specs.Dual.{Node, IsDual, AreApart, all_cuts, layers_of, first_vertices, is_empty, leaves, height_of, is_live, top_at}
use Rattle.fb_graph.specs.Ends.{AreAllApart}

-- the vertices of a node's first layer
abbrev pub first_set : Node → List ℕ
first_set n = first_vertices (layers_of n)

-- the sets of the nodes that a node joins
abbrev pub child_sets : List Node → Node → List (List ℕ)
child_sets nodes n = map (top_at nodes) n.children

-- a node that joins no others begins with one vertex, its defect
pub record IsChildless (n : Node) : Type 0 where
  pub none : n.children ≡ []
  pub defect : length (first_set n) ≡ 1

-- a node that joins others joins an odd number of at least three, each once
pub record AreMany (children : List ℕ) : Type 0 where
  pub three : 3 ≤ length children
  pub odd : length children % 2 ≡ 1
  pub distinct : AreDistinct children

abbrev pub IsFormed : Node → Type 0
IsFormed n = IsChildless n ⊎ AreMany n.children

-- no node joins itself or a later one, and no two join the same
abbrev pub AreJoinedLater : List Node → Type 0
AreJoinedLater [] = Unit {0}
AreJoinedLater (n ∷ ns) =
    All (λ m. is_in n.children m.name ≡ false) (n ∷ ns) × All (λ m. AreApart n.children m.children) ns × AreJoinedLater ns

-- its first layer holds what the nodes hold that it joins
abbrev pub IsFilled : List Node → Node → Type 0
IsFilled nodes n =
    is_empty n.children ≡ false → (v : ℕ) → is_in (first_set n) v ≡ is_in (concat (child_sets nodes n)) v

-- nodes that join others, in the order in which they were made
pub record IsForest (nodes : List Node) : Type 0 where
  pub formed : All IsFormed nodes
  pub live : All (λ n. All (λ c. is_live nodes c ≡ true) n.children) nodes
  pub joined : AreJoinedLater nodes
  pub filled : All (IsFilled nodes) nodes
  pub parted : All (λ n. AreAllApart (child_sets nodes n)) nodes

-- each vertex of the set has a source in it: a defect with a potential of the same parity
abbrev pub HasSources : List Node → List ℕ → Type 0
HasSources nodes set = (v : ℕ) → is_in set v ≡ true
    → (d : ℕ) × (is_in set d ≡ true) × (is_in (leaves nodes) d ≡ true)
    × (height_of (all_cuts nodes) d % 2 ≡ height_of (all_cuts nodes) v % 2)

-- What every move keeps. Parity is said of inner nodes too, since a split makes them outer.
pub record IsNest (p : Problem) (nodes : List Node) : Type 0 where
  pub dual : IsDual p nodes
  pub forest : IsForest nodes
  pub defects : AreDistinct (leaves nodes)
  pub sources : All (λ n. HasSources nodes n.top.vertices) nodes
  -- no two cuts are equal as sets
  pub differ : AllPairs DifferAsSets (all_cuts nodes)
