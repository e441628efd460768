-- The nodes of a dual state, read from what is kept of them.
use Rattle.std.specs.Prelude.{ℕ, zero, suc, ◌+◌, ◌==◌, List, [], ◌∷◌, ◌++◌, map, get_or, Option, Some, None, if◌then◌else◌}
use Rattle.std.specs.List.{range_with_len}
use Rattle.fb_graph.specs.declared.parts.Cut.{Cut}
use Rattle.fb_graph.specs.Dual.{Node}
use Rattle.fb_graph.specs.Parity.{is_in}
use Rattle.fb_regions.specs.declared.marks.Mark.{Mark}
use Rattle.fb_regions.specs.declared.region.Region.{Region}
use Rattle.fb_regions.specs.InternalTables.{Sparse, value_of}

-- the marks of so many vertices, from a table that has only those that there are
abbrev pub marks_in : ℕ → Sparse Mark → List (Option Mark)
marks_in count table = map (value_of table) (range_with_len 0 count)

abbrev pub mark_of : List (Option Mark) → ℕ → Option Mark
mark_of marks v = get_or marks v None

abbrev pub before_in : Option Mark → ℕ
before_in None = 0
before_in (Some m) = m.before

abbrev pub under_in : Option Mark → ℕ
under_in None = 0
under_in (Some m) = m.under

-- the vertex listed before this one
abbrev pub before_of : List (Option Mark) → ℕ → ℕ
before_of marks v = before_in (mark_of marks v)

-- the value of the layer below the one that the vertex began
abbrev pub under_of : List (Option Mark) → ℕ → ℕ
under_of marks v = under_in (mark_of marks v)

-- a number of vertices back from one, the last one last
abbrev pub chain : List (Option Mark) → ℕ → ℕ → List ℕ
chain marks zero v = []
chain marks (suc k) v = chain marks k (before_of marks v) ++ v ∷ []

-- the layers below those that the vertices began, over a first set
abbrev pub stack : List (Option Mark) → List ℕ → List ℕ → List Cut
stack marks set [] = []
stack marks set (v ∷ vs) = record { value = under_of marks v; vertices = set } ∷ stack marks (set ++ v ∷ []) vs

-- the vertices of its first layer
abbrev pub first_of : List (Option Mark) → Region → List ℕ
first_of marks r = chain marks r.base r.base_last

-- the vertices that the node has absorbed
abbrev pub added_to : List (Option Mark) → Region → List ℕ
added_to marks r = chain marks r.added r.last

abbrev pub node_of : List (Option Mark) → Region → Node
node_of marks r = record {
  name = r.name;
  children = r.children.items;
  below = stack marks (first_of marks r) (added_to marks r);
  top = record { value = r.top_value; vertices = first_of marks r ++ added_to marks r };
}

abbrev pub nodes_of : List (Option Mark) → List Region → List Node
nodes_of marks regions = map (node_of marks) regions

-- the name of the outer node round the named one, each node coming before the one that joins it
abbrev pub root_from : List Region → ℕ → Option ℕ
root_from [] name = None
root_from (r ∷ rs) name =
    if r.name == name then elim r.parent as (λ o. Option ℕ) [ None ↦ Some name | Some q ↦ root_from rs q ] else root_from rs name

-- the sum of the radii of the named node and of those round it
abbrev pub radii_from : List Region → ℕ → ℕ
radii_from [] name = 0
radii_from (r ∷ rs) name =
    if r.name == name then r.radius + elim r.parent as (λ o. ℕ) [ None ↦ 0 | Some q ↦ radii_from rs q ] else radii_from rs name

-- the names of the nodes that the named one joins
abbrev pub children_from : List Region → ℕ → List ℕ
children_from [] name = []
children_from (r ∷ rs) name = if r.name == name then r.children.items else children_from rs name

-- the node round each of these is this one
abbrev pub reparented_region : List ℕ → Option ℕ → Region → Region
reparented_region names parent r = if is_in names r.name then record r { parent = parent } else r
