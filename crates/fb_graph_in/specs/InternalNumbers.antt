-- The numbers of a graph, once its members are found.
use Rattle.std.specs.Prelude.{ℕ, List, ℤ, Result, Ok}
use Rattle.serde_json.specs.Data.{Items}
use Rattle.fb_json.specs.JsonText.{with_result, natural_of}
use Rattle.fb_graph_in.specs.declared.faults.Place.TheVariants as place
use Rattle.fb_graph_in.specs.declared.faults.TextFault.{TextFault}
use Rattle.fb_graph_in.specs.GraphText.{edge_of, entries_of}

-- the numbers of a graph from its members
abbrev pub numbers_from : ℕ → Items → Items → Result (ℕ × List (ℕ × ℕ × ℤ) × List ℕ) TextFault
numbers_from n edges virtuals =
    with_result (entries_of edge_of place.Edge 0 edges) (λ triples.
    with_result (entries_of natural_of place.Virtual 0 virtuals) (λ vertices.
    Ok (n, triples, vertices)))
