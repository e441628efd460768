-- How a command ends if a file that it needs can't be used.
use Rattle.fb_exits.specs.declared.ending.Cause.{Cause}
use Rattle.fb_exits.specs.declared.ending.Cause.TheVariants.{NoMemory, ReadFault, Refused}
use Rattle.fb_exits.specs.declared.ending.Refusal.{Refusal}
use Rattle.fb_files.specs.declared.fault.FileFault.{FileFault}
use Rattle.fb_files.specs.declared.fault.FileFault.TheVariants as file_fault

-- the cause, where this is what a refused text is called
abbrev pub cause_at_file : {E : Type 0} → (E → Refusal) → FileFault E → Cause
cause_at_file refusal (file_fault.Refused fault) = Refused (refusal fault)
cause_at_file refusal file_fault.ReadFault = ReadFault
cause_at_file refusal file_fault.NoMemory = NoMemory
