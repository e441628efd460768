-- The dual state of the blossom algorithm on a decoding graph (Edmonds 1965; Wu and Zhong 2023): nested families of
-- vertex sets with values. A node is a defect, or an odd number of nodes joined; it has layers, each with a vertex
-- more than the one below it.
use Rattle.std.specs.Prelude.{ℕ, ◌≡◌, ◌+◌, ◌%◌, ◌<◌, ◌≤◌, ◌^◌, ◌==◌, ◌&&◌, ◌⊎◌, Bool, true, false, not, cond, List, [], ◌∷◌, ◌++◌, map, length, get_or, All, AllPairs, sum_by, flat_map, find, option_map, Option, Some, None, IsSome, if◌then◌else◌}
use Rattle.std.specs.List.{list_any}
use Rattle.fb_graph.specs.Parity.{is_in}
use Rattle.fb_graph.specs.Problem.{Problem, edge_at, crosses, with_defects}
use Rattle.fb_graph.specs.Certificate.{AreDistinct, IsPacking, load_of, total_value}
use Rattle.fb_graph.specs.declared.parts.Edge.{Edge}
use Rattle.fb_graph.specs.declared.parts.Cut.{Cut}

pub record Node : Type 0 where
  pub name : ℕ
  -- the names of the nodes that it joins; none for a defect
  pub children : List ℕ
  -- its layers but the top one, the first one first
  pub below : List Cut
  pub top : Cut

-- a node's own layers, from the first to the top
abbrev pub layers_of : Node → List Cut
layers_of n = n.below ++ n.top ∷ []

-- the layers of all nodes, inner ones too
abbrev pub all_cuts : List Node → List Cut
all_cuts nodes = flat_map layers_of nodes

abbrev pub is_empty : List ℕ → Bool
is_empty [] = true
is_empty (v ∷ vs) = false

abbrev pub first_vertices : List Cut → List ℕ
first_vertices [] = []
first_vertices (c ∷ cs) = c.vertices

-- the defect of a node that joins no others: the one vertex of its first layer
abbrev pub defects_of : Node → List ℕ
defects_of n = if is_empty n.children then first_vertices (layers_of n) else []

-- the defects of the state
abbrev pub leaves : List Node → List ℕ
leaves nodes = flat_map defects_of nodes

-- some node has the name
abbrev pub is_live : List Node → ℕ → Bool
is_live nodes name = list_any (λ n. n.name == name) nodes

-- no node joins the named one
abbrev pub is_outer : List Node → ℕ → Bool
is_outer nodes name = not (list_any (λ n. is_in n.children name) nodes)

-- the outer node that holds the vertex
abbrev pub cover_of : List Node → ℕ → Option ℕ
cover_of nodes v = option_map (λ n. n.name) (find (λ n. is_outer nodes n.name && is_in n.top.vertices v) nodes)

-- the potential of a vertex: the sum of the values of the sets that hold it
abbrev pub height_of : List Cut → ℕ → ℕ
height_of cuts v = sum_by (λ c. cond (is_in c.vertices v) c.value 0) cuts

-- what is read past the end of a list of nodes
abbrev pub no_node : Node
no_node = record { name = 0; children = []; below = []; top = record { value = 0; vertices = [] } }

abbrev pub node_at : List Node → ℕ → Node
node_at nodes i = get_or nodes i no_node

-- the layers of the node of this name, from the first to the top; none if no node has the name
abbrev pub layers_at : List Node → ℕ → List Cut
layers_at [] name = []
layers_at (n ∷ ns) name = if n.name == name then layers_of n else layers_at ns name

-- the set of the top layer of the node of this name
abbrev pub top_at : List Node → ℕ → List ℕ
top_at [] name = []
top_at (n ∷ ns) name = if n.name == name then n.top.vertices else top_at ns name

-- the node with its top layer thicker
abbrev pub thicker_node : ℕ → Node → Node
thicker_node k n = record n { top = record n.top { value = n.top.value + k } }

-- the node with a further layer of value 0 that holds the vertex too
abbrev pub taller_node : ℕ → Node → Node
taller_node v n = record n { below = layers_of n; top = record { value = 0; vertices = n.top.vertices ++ v ∷ [] } }

-- the node of this name changed, all others as they were
abbrev pub change_at : ℕ → (Node → Node) → List Node → List Node
change_at name change nodes = map (λ n. if n.name == name then change n else n) nodes

-- the node of one defect, with one layer of value 0
abbrev pub leaf : ℕ → ℕ → Node
leaf name v = record { name = name; children = []; below = []; top = record { value = 0; vertices = v ∷ [] } }

-- the one set lies within the other
abbrev pub IsWithin : List ℕ → List ℕ → Type 0
IsWithin inner outer = (v : ℕ) → is_in inner v ≡ true → is_in outer v ≡ true

-- the sets share no vertex
abbrev pub AreApart : List ℕ → List ℕ → Type 0
AreApart a b = (v : ℕ) → is_in a v ≡ true → is_in b v ≡ false

abbrev pub IsNestedOrApart : Cut → Cut → Type 0
IsNestedOrApart c d = (IsWithin c.vertices d.vertices) ⊎ ((IsWithin d.vertices c.vertices) ⊎ (AreApart c.vertices d.vertices))

-- each layer has one vertex more, at its end, than the one below it
abbrev pub AreGrown : List Cut → Type 0
AreGrown [] = Unit {0}
AreGrown (c ∷ cs) = IsGrownBy c cs × AreGrown cs
  where
    IsGrownBy : Cut → List Cut → Type 0
    IsGrownBy c [] = Unit {0}
    IsGrownBy c (d ∷ ds) = (v : ℕ) × (d.vertices ≡ c.vertices ++ v ∷ [])

-- a value above 0 is held by some edge that crosses the set
abbrev pub IsHeld : Problem → Cut → Type 0
IsHeld p c = (c.value ≡ 0) ⊎ ((k : ℕ) × (k < length p.edges) × (crosses c.vertices (edge_at p.edges k) ≡ true))

-- some edge has exactly one end in the set
abbrev pub IsCrossed : Problem → List ℕ → Type 0
IsCrossed p set = (k : ℕ) × (k < length p.edges) × (crosses set (edge_at p.edges k) ≡ true)

-- each edge that crosses the set can bear a load of k more
abbrev pub AllowsGrowth : Problem → List Node → List ℕ → ℕ → Type 0
AllowsGrowth p nodes set k = All (λ e. crosses set e ≡ true → load_of (all_cuts nodes) e + k ≤ e.weight) p.edges

-- one outer node holds both vertices
abbrev pub AreUnderOne : List Node → ℕ → ℕ → Type 0
AreUnderOne nodes u v = (name : ℕ) × (cover_of nodes u ≡ Some name) × (cover_of nodes v ≡ Some name)

-- the sets of outer nodes share no vertex
abbrev pub AreOuterApart : List Node → Type 0
AreOuterApart nodes =
    AllPairs (λ m n. is_outer nodes m.name ≡ true → is_outer nodes n.name ≡ true → AreApart m.top.vertices n.top.vertices) nodes

-- each layer of the node holds its defect, so that the values of its layers add up to the defect's potential in it
abbrev pub HasRadius : Node → Type 0
HasRadius n = (d : ℕ) → is_in (defects_of n) d ≡ true → height_of (layers_of n) d ≡ total_value (layers_of n)

-- some defect under the same outer node has a potential of the same parity
abbrev pub HasSourceParity : List Node → ℕ → ℕ → Type 0
HasSourceParity nodes name v =
    (d : ℕ) × (is_in (leaves nodes) d ≡ true) × (cover_of nodes d ≡ Some name) × (height_of (all_cuts nodes) d % 2 ≡ height_of (all_cuts nodes) v % 2)

-- what every dual state keeps: its cuts are a feasible list of odd cuts (for its own defects), any two of them nested
-- or apart; each loads an edge, so that together they are at most the sum of the weights
pub record IsDual (p : Problem) (nodes : List Node) : Type 0 where
  pub packing : IsPacking (with_defects p (leaves nodes)) (all_cuts nodes)
  pub names : AreDistinct (map (λ n. n.name) nodes)
  pub laminar : AllPairs IsNestedOrApart (all_cuts nodes)
  pub grown : All (λ n. AreGrown (layers_of n)) nodes
  pub held : All (IsHeld p) (all_cuts nodes)
  pub total : total_value (all_cuts nodes) ≤ 2 ^ 52
  pub apart : AreOuterApart nodes
  pub radii : All HasRadius nodes
  -- every defect is covered, and every covered vertex is real
  pub defects : (d : ℕ) → is_in (leaves nodes) d ≡ true → IsSome (cover_of nodes d)
  pub real : (v : ℕ) → IsSome (cover_of nodes v) → p.is_real v ≡ true
  -- no set holds an uncovered vertex
  pub uncovered : (v : ℕ) → cover_of nodes v ≡ None → height_of (all_cuts nodes) v ≡ 0
  -- no set holds both ends of an edge, or of any pair, that aren't under one outer node
  pub loads : (e : Edge) → ¬ AreUnderOne nodes e.first e.second
      → load_of (all_cuts nodes) e ≡ height_of (all_cuts nodes) e.first + height_of (all_cuts nodes) e.second
  pub parity : (v name : ℕ) → cover_of nodes v ≡ Some name → HasSourceParity nodes name v
