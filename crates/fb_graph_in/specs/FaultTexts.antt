-- What is printed of a fault of a graph's text: its name, and its place, which is a word, a number, both or neither.
use Rattle.std.specs.Prelude.{ℕ, List, codes, Option, Some, None}
use Rattle.fb_graph.specs.FaultTexts.{fault_name as rule_name, fault_number as rule_number}
use Rattle.fb_graph_in.specs.declared.faults.Member.{Member}
use Rattle.fb_graph_in.specs.declared.faults.Member.TheVariants as member
use Rattle.fb_graph_in.specs.declared.faults.Place.{Place}
use Rattle.fb_graph_in.specs.declared.faults.Place.TheVariants as place
use Rattle.fb_graph_in.specs.declared.faults.TextFault.{TextFault}
use Rattle.fb_graph_in.specs.declared.faults.TextFault.TheVariants.{TooLong, NotJson, Missing, NotWhole, Graph, NoMemory}

abbrev pub fault_name : TextFault → List ℕ
fault_name TooLong = codes "TooLong"
fault_name NotJson = codes "NotJson"
fault_name (Missing m) = codes "Missing"
fault_name (NotWhole p) = codes "NotWhole"
fault_name (Graph rule) = rule_name rule
fault_name NoMemory = codes "NoMemory"

abbrev pub member_name : Member → List ℕ
member_name member.VertexNum = codes "vertex_num"
member_name member.WeightedEdges = codes "weighted_edges"
member_name member.VirtualVertices = codes "virtual_vertices"

-- the member that a place is in
abbrev pub member_of : Place → Member
member_of place.VertexNum = member.VertexNum
member_of place.WeightedEdges = member.WeightedEdges
member_of place.VirtualVertices = member.VirtualVertices
member_of (place.Edge i) = member.WeightedEdges
member_of (place.Virtual i) = member.VirtualVertices

-- the number of an entry
abbrev pub entry_number : Place → Option ℕ
entry_number place.VertexNum = None
entry_number place.WeightedEdges = None
entry_number place.VirtualVertices = None
entry_number (place.Edge i) = Some i
entry_number (place.Virtual i) = Some i

abbrev pub fault_place : TextFault → Option (List ℕ)
fault_place TooLong = Some (codes "graph")
fault_place NotJson = None
fault_place (Missing m) = Some (member_name m)
fault_place (NotWhole p) = Some (member_name (member_of p))
fault_place (Graph rule) = None
fault_place NoMemory = None

abbrev pub fault_number : TextFault → Option ℕ
fault_number TooLong = None
fault_number NotJson = None
fault_number (Missing m) = None
fault_number (NotWhole p) = entry_number p
fault_number (Graph rule) = rule_number rule
fault_number NoMemory = None
