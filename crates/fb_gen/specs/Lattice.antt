-- The decoding graph of a lattice: for each of `rounds` rounds of measurement, a sheet of `distance` rows and
-- `distance + 1` columns of which the first and the last are virtual.
use Rattle.std.specs.Prelude.{ℕ, ◌+◌, ◌*◌, nat_lt, ◌&&◌, Bool, if◌then◌else◌, List, [], ◌∷◌, ◌++◌, ℤ, pos, Result, Ok, Err, flat_map}
use Rattle.std.specs.List.{range_with_len}
use Rattle.fb_graph.specs.GraphRules.{graph_from}
use Rattle.fb_graph.specs.Limits.{DecodingGraph, most_vertices}
use Rattle.fb_gen.specs.declared.faults.GenFault.{GenFault}
use Rattle.fb_gen.specs.declared.faults.GenFault.TheVariants.{LatticeTooLarge}

-- the number of the vertex of this round, row and column
abbrev pub vertex_at : ℕ → ℕ → ℕ → ℕ → ℕ
vertex_at distance k r c = (k * distance + r) * (distance + 1) + c

-- how many vertices there are
abbrev pub vertex_count : ℕ → ℕ → ℕ
vertex_count distance rounds = rounds * distance * (distance + 1)

-- the weight of an edge within a round, and of one to the next round
abbrev pub weight_within : ℤ
weight_within = pos 20

abbrev pub weight_later : ℤ
weight_later = pos 28

-- the entry, if the test holds
abbrev pub entry_if : {A : Type 0} → Bool → A → List A
entry_if test entry = if test then entry ∷ [] else []

-- a column that isn't virtual
abbrev pub is_inner : ℕ → ℕ → Bool
is_inner distance c = nat_lt 0 c && nat_lt c distance

-- The edges whose first end is this vertex: to the right in its row, down in its real column, and to the same place of
-- the next round.
abbrev pub edges_from : ℕ → ℕ → ℕ → ℕ → ℕ → List (ℕ × ℕ × ℤ)
edges_from distance rounds k r c =
    entry_if (nat_lt c distance)
    (vertex_at distance k r c, vertex_at distance k r (c + 1), weight_within)
    ++ entry_if (is_inner distance c && nat_lt (r + 1) distance)
    (vertex_at distance k r c, vertex_at distance k (r + 1) c, weight_within)
    ++ entry_if (is_inner distance c && nat_lt (k + 1) rounds)
    (vertex_at distance k r c, vertex_at distance (k + 1) r c, weight_later)

-- those of a row's vertices
abbrev pub edges_of_row : ℕ → ℕ → ℕ → ℕ → List (ℕ × ℕ × ℤ)
edges_of_row distance rounds k r = flat_map (edges_from distance rounds k r) (range_with_len 0 (distance + 1))

-- those of a round's rows
abbrev pub edges_of_round : ℕ → ℕ → ℕ → List (ℕ × ℕ × ℤ)
edges_of_round distance rounds k = flat_map (edges_of_row distance rounds k) (range_with_len 0 distance)

-- all edges, by rising number of their first end
unfoldable pub lattice_edges : ℕ → ℕ → List (ℕ × ℕ × ℤ)
lattice_edges distance rounds = flat_map (edges_of_round distance rounds) (range_with_len 0 rounds)

-- the two virtual vertices of a row
abbrev pub virtuals_of_row : ℕ → ℕ → ℕ → List ℕ
virtuals_of_row distance k r = vertex_at distance k r 0 ∷ vertex_at distance k r distance ∷ []

abbrev pub virtuals_of_round : ℕ → ℕ → List ℕ
virtuals_of_round distance k = flat_map (virtuals_of_row distance k) (range_with_len 0 distance)

-- all virtual vertices
unfoldable pub lattice_virtuals : ℕ → ℕ → List ℕ
lattice_virtuals distance rounds = flat_map (virtuals_of_round distance) (range_with_len 0 rounds)

abbrev pub lattice_graph : ℕ → ℕ → DecodingGraph
lattice_graph distance rounds =
    graph_from (vertex_count distance rounds) (lattice_edges distance rounds) (lattice_virtuals distance rounds)

-- the lattice, or that it has too many vertices
abbrev pub lattice_of : ℕ → ℕ → Result DecodingGraph GenFault
lattice_of distance rounds =
    if nat_lt most_vertices (vertex_count distance rounds) then Err LatticeTooLarge
    else Ok (lattice_graph distance rounds)
