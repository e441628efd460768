-- Which numbers make a graph (the solver initializer of Fusion Blossom, with the limits of this program), and the
-- first rule that is broken. Edges are judged in rising order, each by all its rules; then the virtual vertices.
use Rattle.std.specs.Prelude.{ℕ, Bool, ◌+◌, ◌%◌, ◌||◌, nat_lt, nat_le, nat_eq, if◌then◌else◌, List, [], ◌∷◌, ◌++◌, length, map, ℤ, pos, neg_ℤ, int_lt, unsigned_abs, get_or, filter, Option, Some, None, Result, Ok, Err}
use Rattle.std.specs.Int.{is_negative}
use Rattle.std.specs.List.{range_with_len}
use Rattle.std.specs.Option.{option_or}
use Rattle.fb_graph.specs.Parity.{is_in}
use Rattle.fb_graph.specs.Limits.{DecodingGraph, most_vertices, most_edges, most_weight}
use Rattle.fb_graph.specs.declared.parts.Edge.{Edge}
use Rattle.fb_graph.specs.declared.faults.GraphFault.{GraphFault}
use Rattle.fb_graph.specs.declared.faults.GraphFault.TheVariants.{TooManyVertices, TooManyEdges, EndOutOfRange, SelfLoop, OddWeight, WeightTooLarge, WeightTooSmall, VirtualOutOfRange, VirtualRepeated}

-- the first rule that edge i, (u, v, weight), breaks
abbrev pub edge_fault : ℕ → ℕ → ℕ × ℕ × ℤ → Option GraphFault
edge_fault n i e =
    if nat_le n e.0 || nat_le n e.1 then Some (EndOutOfRange i)
    else (if nat_eq e.0 e.1 then Some (SelfLoop i)
    else (if nat_eq (unsigned_abs e.2 % 2) 1 then Some (OddWeight i)
    else (if int_lt (pos most_weight) e.2 then Some (WeightTooLarge i)
    else (if int_lt e.2 (neg_ℤ (pos most_weight)) then Some (WeightTooSmall i) else None))))

-- the first rule that an edge of the list breaks, the list's first edge having number i
abbrev pub edges_fault : ℕ → ℕ → List (ℕ × ℕ × ℤ) → Option GraphFault
edges_fault n i [] = None
edges_fault n i (e ∷ es) = option_or (edge_fault n i e) (edges_fault n (i + 1) es)

-- the first rule that an entry breaks, the entries before it being `seen`
abbrev pub virtuals_fault : ℕ → List ℕ → ℕ → List ℕ → Option GraphFault
virtuals_fault n seen i [] = None
virtuals_fault n seen i (v ∷ vs) =
    if nat_le n v then Some (VirtualOutOfRange i)
    else (if is_in seen v then Some (VirtualRepeated i) else virtuals_fault n (seen ++ v ∷ []) (i + 1) vs)

-- the first rule that the numbers break; None if they make a graph
abbrev pub graph_fault : ℕ → List (ℕ × ℕ × ℤ) → List ℕ → Option GraphFault
graph_fault n edges virtuals =
    if nat_lt most_vertices n then Some TooManyVertices
    else (if nat_lt most_edges (length edges) then Some TooManyEdges
    else option_or (edges_fault n 0 edges) (virtuals_fault n [] 0 virtuals))

-- the edge, with its weight without a sign
abbrev pub edge_from : ℕ × ℕ × ℤ → Edge
edge_from e = record { first = e.0; second = e.1; weight = unsigned_abs e.2 }

-- edge k weighs less than 0
abbrev pub is_below_zero : List (ℕ × ℕ × ℤ) → ℕ → Bool
is_below_zero edges k = is_negative (get_or edges k (0, 0, pos 0)).2

-- the graph of numbers that break no rule
abbrev pub graph_from : ℕ → List (ℕ × ℕ × ℤ) → List ℕ → DecodingGraph
graph_from n edges virtuals = record {
  vertices = n;
  edges = map edge_from edges;
  negatives = filter (is_below_zero edges) (range_with_len 0 (length edges));
  virtuals = filter (is_in virtuals) (range_with_len 0 n);
}

-- what the first broken rule leaves of the graph
abbrev pub or_fault : Option GraphFault → DecodingGraph → Result DecodingGraph GraphFault
or_fault (Some fault) g = Err fault
or_fault None g = Ok g

-- the graph, or the first rule that is broken
abbrev pub graph_of : ℕ → List (ℕ × ℕ × ℤ) → List ℕ → Result DecodingGraph GraphFault
graph_of n edges virtuals = or_fault (graph_fault n edges virtuals) (graph_from n edges virtuals)
