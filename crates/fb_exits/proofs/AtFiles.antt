-- What holds of a command that ends because a file can't be used.
use Rattle.std.proofs.Common.{◌≡◌, ◌<◌, ℕ, List, [], ◌∷◌, Result, Err}
use Rattle.fb_ports.specs.Causes.{Appends, CountsFault}
use Rattle.fb_files.specs.Judging.{Asks, AsksPrefix, IfRefused}
use Rattle.fb_files.specs.Moments.{Moment}
use Rattle.fb_files.specs.declared.fault.FileFault.{FileFault}
use Rattle.fb_files.specs.declared.fault.FileFault.TheVariants as file_fault
use Rattle.fb_exits.specs.declared.ending.Cause.TheVariants as cause
use Rattle.fb_exits.specs.declared.ending.Refusal.{Refusal}
use Rattle.fb_exits.specs.Ends.{CountsReadFault, EndsAtFile, IsReadToItsEnd}
use Rattle.fb_exits.specs.InternalCauses.{cause_at_file}

module _ {E : Type 0} (refusal : E → Refusal) where
  -- by what the read of the file says, whose result is `r`
  pub ends_at_file : {T : Type 0} (IsReason : Refusal → Type 0) (name : List ℕ) (before after : Moment) (r : Result T (FileFault E)) (fault : FileFault E)
      → r ≡ Err fault
      → IfRefused (λ e. IsReason (refusal e)) fault
      → AsksPrefix before.asked after.asked (name ∷ [])
      → ((r ≡ Err file_fault.NoMemory → ⊥) → Asks before.asked after.asked (name ∷ []))
      → CountsFault (r ≡ Err file_fault.ReadFault) before.faults after.faults
      → Appends before.written after.written []
      → EndsAtFile IsReason name before after (cause_at_file refusal fault)
  ends_at_file IsReason name before after r (file_fault.Refused e) is refused prefix asked counts written =
      (refused, asked (λ other. cc), counts.2 (λ other. cc), written)
  ends_at_file IsReason name before after r file_fault.ReadFault is refused prefix asked counts written =
      (counts.0 is, asked (λ other. cc), written)
  ends_at_file IsReason name before after r file_fault.NoMemory is refused prefix asked counts written =
      (prefix, counts.2 (λ other. cc), written)

  pub not_to_the_end : (fault : FileFault E) → IsReadToItsEnd (cause_at_file refusal fault) → ⊥
  not_to_the_end (file_fault.Refused e) reads = reads
  not_to_the_end file_fault.ReadFault reads = reads
  not_to_the_end file_fault.NoMemory reads = reads

  pub counted_at_file : {T : Type 0} (before now : ℕ) (r : Result T (FileFault E)) (fault : FileFault E) → r ≡ Err fault
      → CountsFault (r ≡ Err file_fault.ReadFault) before now → (before < now → r ≡ Err file_fault.ReadFault)
      → CountsReadFault (cause_at_file refusal fault) before now
  counted_at_file before now r (file_fault.Refused e) is counts reported =
      (λ read. cc, counts.1, λ rose. (let read : r ≡ Err file_fault.ReadFault = reported rose in cc))
  counted_at_file before now r file_fault.ReadFault is counts reported = (λ read. counts.0 is, counts.1, λ rose. tt)
  counted_at_file before now r file_fault.NoMemory is counts reported = (λ read. cc, counts.1, λ rose. tt)

  pub not_by_writing : (fault : FileFault E) → cause_at_file refusal fault ≡ cause.WriteFault → ⊥
  not_by_writing (file_fault.Refused e) is = cc
  not_by_writing file_fault.ReadFault is = cc
  not_by_writing file_fault.NoMemory is = cc
