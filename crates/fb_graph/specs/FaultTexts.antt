-- The name under which a fault of a graph is printed, and its place.
use Rattle.std.specs.Prelude.{ℕ, List, codes, Option, Some, None}
use Rattle.fb_graph.specs.declared.faults.GraphFault.{GraphFault}
use Rattle.fb_graph.specs.declared.faults.GraphFault.TheVariants.{TooManyVertices, TooManyEdges, EndOutOfRange, SelfLoop, OddWeight, WeightTooLarge, WeightTooSmall, VirtualOutOfRange, VirtualRepeated, NoMemory}

abbrev pub fault_name : GraphFault → List ℕ
fault_name TooManyVertices = codes "TooManyVertices"
fault_name TooManyEdges = codes "TooManyEdges"
fault_name (EndOutOfRange i) = codes "EndOutOfRange"
fault_name (SelfLoop i) = codes "SelfLoop"
fault_name (OddWeight i) = codes "OddWeight"
fault_name (WeightTooLarge i) = codes "WeightTooLarge"
fault_name (WeightTooSmall i) = codes "WeightTooSmall"
fault_name (VirtualOutOfRange i) = codes "VirtualOutOfRange"
fault_name (VirtualRepeated i) = codes "VirtualRepeated"
fault_name NoMemory = codes "NoMemory"

abbrev pub fault_number : GraphFault → Option ℕ
fault_number TooManyVertices = None
fault_number TooManyEdges = None
fault_number (EndOutOfRange i) = Some i
fault_number (SelfLoop i) = Some i
fault_number (OddWeight i) = Some i
fault_number (WeightTooLarge i) = Some i
fault_number (WeightTooSmall i) = Some i
fault_number (VirtualOutOfRange i) = Some i
fault_number (VirtualRepeated i) = Some i
fault_number NoMemory = None
