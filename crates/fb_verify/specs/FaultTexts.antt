-- What is printed of a fault of a report's text: its name, and its place, which is a word, a number or neither.
use Rattle.std.specs.Prelude.{ℕ, List, codes, Option, Some, None}
use Rattle.fb_verify.specs.declared.report_faults.ReportFault.{ReportFault}
use Rattle.fb_verify.specs.declared.report_faults.ReportFault.TheVariants.{BadLine, WrongShot, Unfinished, TooLong, NoMemory}

abbrev pub fault_name : ReportFault → List ℕ
fault_name (BadLine n) = codes "BadLine"
fault_name (WrongShot n) = codes "WrongShot"
fault_name Unfinished = codes "Unfinished"
fault_name TooLong = codes "TooLong"
fault_name NoMemory = codes "NoMemory"

abbrev pub fault_place : ReportFault → Option (List ℕ)
fault_place (BadLine n) = None
fault_place (WrongShot n) = None
fault_place Unfinished = None
fault_place TooLong = Some (codes "report")
fault_place NoMemory = None

abbrev pub fault_number : ReportFault → Option ℕ
fault_number (BadLine n) = Some n
fault_number (WrongShot n) = Some n
fault_number Unfinished = None
fault_number TooLong = None
fault_number NoMemory = None
