-- The graph of a text: one JSON value (RFC 8259) with the members of the solver initializer of Fusion Blossom (Wu and
-- Zhong 2023), or the first rule that the text breaks. Other members are ignored.
use Rattle.std.specs.Prelude.{ℕ, nat_lt, if◌then◌else◌, List, length, codes, ℤ, Option, None, option_map, option_and_then, Result, Ok, Err}
use Rattle.serde_json.specs.Data.{Data, Items, no_items, item}
use Rattle.serde_json.specs.Find.{get, as_array, as_integer, as_number}
use Rattle.fb_graph.specs.GraphRules.{graph_of}
use Rattle.fb_graph.specs.Limits.{DecodingGraph}
use Rattle.fb_graph.specs.declared.faults.GraphFault.{GraphFault}
use Rattle.fb_json.specs.JsonText.{most_bytes, with_option, with_result, value_of, natural_of, entries_by}
use Rattle.fb_graph_in.specs.declared.faults.Member.TheVariants as member
use Rattle.fb_graph_in.specs.declared.faults.Place.{Place}
use Rattle.fb_graph_in.specs.declared.faults.Place.TheVariants as place
use Rattle.fb_graph_in.specs.declared.faults.TextFault.{TextFault}
use Rattle.fb_graph_in.specs.declared.faults.TextFault.TheVariants.{TooLong, NotJson, Missing, NotWhole, Graph}

-- a whole number
abbrev pub whole_of : Data → Option ℤ
whole_of d = option_and_then as_integer (as_number d)

-- exactly three whole numbers, the first two of at least 0
abbrev pub triple_of : Items → Option (ℕ × ℕ × ℤ)
triple_of (item a (item b (item c no_items))) =
    option_and_then (λ first. option_and_then (λ second. option_map (λ weight. (first, second, weight)) (whole_of c)) (natural_of b)) (natural_of a)
triple_of _ = None

-- an edge: its two ends and its weight
abbrev pub edge_of : Data → Option (ℕ × ℕ × ℤ)
edge_of d = option_and_then triple_of (as_array d)

-- the entries of a list, the first of which has number i, or the place of the first one that isn't of its form
abbrev pub entries_of : {A : Type 0} → (Data → Option A) → (ℕ → Place) → ℕ → Items → Result (List A) TextFault
entries_of entry_of at = entries_by entry_of (λ i. NotWhole (at i))

-- the numbers of a graph: how many vertices, the edges, the virtual vertices
abbrev pub numbers_of : Data → Result (ℕ × List (ℕ × ℕ × ℤ) × List ℕ) TextFault
numbers_of d =
    with_option (get (codes "vertex_num") d) (Missing member.VertexNum) (λ vertex_num.
    with_option (get (codes "weighted_edges") d) (Missing member.WeightedEdges) (λ weighted_edges.
    with_option (get (codes "virtual_vertices") d) (Missing member.VirtualVertices) (λ virtual_vertices.
    with_option (natural_of vertex_num) (NotWhole place.VertexNum) (λ n.
    with_option (as_array weighted_edges) (NotWhole place.WeightedEdges) (λ edges.
    with_option (as_array virtual_vertices) (NotWhole place.VirtualVertices) (λ virtuals.
    with_result (entries_of edge_of place.Edge 0 edges) (λ triples.
    with_result (entries_of natural_of place.Virtual 0 virtuals) (λ vertices.
    Ok (n, triples, vertices)))))))))

-- what the rules of a graph say of its numbers
abbrev pub graph_or_fault : Result DecodingGraph GraphFault → Result DecodingGraph TextFault
graph_or_fault (Ok g) = Ok g
graph_or_fault (Err fault) = Err (Graph fault)

-- the numbers that a text has
abbrev pub numbers_of_text : List ℕ → Result (ℕ × List (ℕ × ℕ × ℤ) × List ℕ) TextFault
numbers_of_text bytes =
    if nat_lt most_bytes (length bytes) then Err TooLong
    else with_option (value_of bytes) NotJson numbers_of

-- the graph of a text, or the first rule that the text breaks
abbrev pub graph_of_text : List ℕ → Result DecodingGraph TextFault
graph_of_text bytes = with_result (numbers_of_text bytes) (λ numbers. graph_or_fault (graph_of numbers.0 numbers.1 numbers.2))
