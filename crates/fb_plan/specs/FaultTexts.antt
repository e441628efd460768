-- The name of a fault of a plan in the program's output, and its place: a word, a number, both or neither.
use Rattle.std.specs.Prelude.{ℕ, List, codes, Option, Some, None}
use Rattle.fb_plan.specs.declared.faults.PlanMember.{PlanMember}
use Rattle.fb_plan.specs.declared.faults.PlanMember.TheVariants as member
use Rattle.fb_plan.specs.declared.faults.PlanPlace.{PlanPlace}
use Rattle.fb_plan.specs.declared.faults.PlanPlace.TheVariants as place
use Rattle.fb_plan.specs.declared.faults.PlanFault.{PlanFault}
use Rattle.fb_plan.specs.declared.faults.PlanFault.TheVariants.{TooLong, NotJson, Missing, NotWhole, TooManyUnits, BadRange, VertexUnowned, VertexTwice, ChildOutOfRange, ChildUsedTwice, NotOneRoot, EdgeAcross, TooFewLayers, NoMemory}

abbrev pub fault_name : PlanFault → List ℕ
fault_name TooLong = codes "TooLong"
fault_name NotJson = codes "NotJson"
fault_name (Missing m) = codes "Missing"
fault_name (NotWhole p) = codes "NotWhole"
fault_name TooManyUnits = codes "TooManyUnits"
fault_name (BadRange n) = codes "BadRange"
fault_name (VertexUnowned v) = codes "VertexUnowned"
fault_name (VertexTwice v) = codes "VertexTwice"
fault_name (ChildOutOfRange i) = codes "ChildOutOfRange"
fault_name (ChildUsedTwice i) = codes "ChildUsedTwice"
fault_name NotOneRoot = codes "NotOneRoot"
fault_name (EdgeAcross e) = codes "EdgeAcross"
fault_name (TooFewLayers h) = codes "TooFewLayers"
fault_name NoMemory = codes "NoMemory"

abbrev pub member_name : PlanMember → List ℕ
member_name member.Units = codes "units"
member_name member.Fusions = codes "fusions"

-- the member that a place is in
abbrev pub member_of : PlanPlace → PlanMember
member_of place.Units = member.Units
member_of place.Fusions = member.Fusions
member_of (place.Unit i) = member.Units
member_of (place.Fusion i) = member.Fusions

-- the number of an entry
abbrev pub entry_number : PlanPlace → Option ℕ
entry_number place.Units = None
entry_number place.Fusions = None
entry_number (place.Unit i) = Some i
entry_number (place.Fusion i) = Some i

abbrev pub fault_place : PlanFault → Option (List ℕ)
fault_place TooLong = Some (codes "plan")
fault_place NotJson = None
fault_place (Missing m) = Some (member_name m)
fault_place (NotWhole p) = Some (member_name (member_of p))
fault_place TooManyUnits = None
fault_place (BadRange n) = None
fault_place (VertexUnowned v) = None
fault_place (VertexTwice v) = None
fault_place (ChildOutOfRange i) = None
fault_place (ChildUsedTwice i) = None
fault_place NotOneRoot = None
fault_place (EdgeAcross e) = None
fault_place (TooFewLayers h) = None
fault_place NoMemory = None

abbrev pub fault_number : PlanFault → Option ℕ
fault_number TooLong = None
fault_number NotJson = None
fault_number (Missing m) = None
fault_number (NotWhole p) = entry_number p
fault_number TooManyUnits = None
fault_number (BadRange n) = Some n
fault_number (VertexUnowned v) = Some v
fault_number (VertexTwice v) = Some v
fault_number (ChildOutOfRange i) = Some i
fault_number (ChildUsedTwice i) = Some i
fault_number NotOneRoot = None
fault_number (EdgeAcross e) = Some e
fault_number (TooFewLayers h) = Some h
fault_number NoMemory = None
