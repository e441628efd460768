-- The values of a graph's members, as their tokens say them.
use Rattle.std.specs.Prelude.{ℕ, ◌≡◌, List, ℤ, codes, Option, option_map}
use Rattle.serde_json.specs.Data.{Data, number, array, no_items, item, Members}
use Rattle.serde_json.specs.Find.{of_integer, get_member}
use Rattle.fb_json.specs.NumberTokens.{natural_data, list_data}

-- an edge: its two ends and its weight
abbrev pub edge_data : ℕ × ℕ × ℤ → Data
edge_data e = array (item (natural_data e.0) (item (natural_data e.1) (item (number (of_integer e.2)) no_items)))

-- of the members, those of a graph have these values; None: they aren't there
pub record Holds (ms : Members) (n : Option ℕ) (triples : Option (List (ℕ × ℕ × ℤ))) (vertices : Option (List ℕ)) : Type 0 where
  pub vertex_num : get_member (codes "vertex_num") ms ≡ option_map natural_data n
  pub weighted_edges : get_member (codes "weighted_edges") ms ≡ option_map (list_data edge_data) triples
  pub virtual_vertices : get_member (codes "virtual_vertices") ms ≡ option_map (list_data natural_data) vertices
