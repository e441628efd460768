-- The name of a fault of observables in the program's output, and its place: a word, a number, or neither.
use Rattle.std.specs.Prelude.{ℕ, List, codes, Option, Some, None}
use Rattle.fb_predict.specs.declared.faults.ObsFault.{ObsFault}
use Rattle.fb_predict.specs.declared.faults.ObsFault.TheVariants.{TooLong, NotJson, Missing, NotList, NotWhole, TooMany, EdgeOutOfRange, EdgeRepeated, NoMemory}

abbrev pub fault_name : ObsFault → List ℕ
fault_name TooLong = codes "TooLong"
fault_name NotJson = codes "ObservablesNotJson"
fault_name Missing = codes "ObservablesMissing"
fault_name NotList = codes "ObservablesNotWhole"
fault_name (NotWhole i) = codes "ObservablesNotWhole"
fault_name TooMany = codes "TooManyObservables"
fault_name (EdgeOutOfRange i) = codes "ObservableEdgeOutOfRange"
fault_name (EdgeRepeated i) = codes "ObservableEdgeRepeated"
fault_name NoMemory = codes "NoMemory"

abbrev pub fault_place : ObsFault → Option (List ℕ)
fault_place TooLong = Some (codes "observables")
fault_place NotJson = None
fault_place Missing = None
fault_place NotList = None
fault_place (NotWhole i) = None
fault_place TooMany = None
fault_place (EdgeOutOfRange i) = None
fault_place (EdgeRepeated i) = None
fault_place NoMemory = None

-- the number of an observable
abbrev pub fault_number : ObsFault → Option ℕ
fault_number TooLong = None
fault_number NotJson = None
fault_number Missing = None
fault_number NotList = None
fault_number (NotWhole i) = Some i
fault_number TooMany = None
fault_number (EdgeOutOfRange i) = Some i
fault_number (EdgeRepeated i) = Some i
fault_number NoMemory = None
