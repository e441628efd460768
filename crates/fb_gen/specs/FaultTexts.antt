-- The name that is printed of a fault of a lattice or of its plan.
use Rattle.std.specs.Prelude.{ℕ, List, codes}
use Rattle.fb_gen.specs.declared.faults.GenFault.{GenFault}
use Rattle.fb_gen.specs.declared.faults.GenFault.TheVariants.{LatticeTooLarge, TooFewRounds, NoMemory}

abbrev pub fault_name : GenFault → List ℕ
fault_name LatticeTooLarge = codes "LatticeTooLarge"
fault_name TooFewRounds = codes "TooFewRounds"
fault_name NoMemory = codes "NoMemory"
