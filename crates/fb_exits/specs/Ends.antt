-- The ends that the commands have in common: at a file, in the first text, and what an end says of the input.
use Rattle.std.specs.Prelude.{ℕ, ◌≡◌, ◌<◌, ◌≤◌, ◌⊎◌, List, [], ◌∷◌, ⊤}
use Rattle.fb_graph.specs.Limits.{DecodingGraph}
use Rattle.fb_ports.specs.Causes.{Appends, AppendsPrefix, Rose}
use Rattle.fb_files.specs.Judging.{AreNoObservables, Asks, AsksPrefix, Holds, IsNoGraph, IsNoPlan, IsNoReport, Named}
use Rattle.fb_files.specs.Moments.{Moment}
use Rattle.fb_exits.specs.declared.ending.Cause.{Cause}
use Rattle.fb_exits.specs.declared.ending.Cause.TheVariants.{Done, Odd, Bad, Refused, ReadFault, WriteFault, NoMemory, Usage}
use Rattle.fb_exits.specs.declared.ending.Refusal.{Refusal}
use Rattle.fb_exits.specs.declared.ending.Refusal.TheVariants as refusal

-- The run ended at the file of the name, by a reason to refuse its text, a fault, or for want of memory. No other name
-- was asked for, and nothing was written.
abbrev pub EndsAtFile : (Refusal → Type 0) → List ℕ → Moment → Moment → Cause → Type 0
EndsAtFile IsReason name before after (Refused refusal) =
    IsReason refusal × Asks before.asked after.asked (name ∷ []) × (after.faults ≡ before.faults)
    × Appends before.written after.written []
EndsAtFile IsReason name before after ReadFault =
    Rose before.faults after.faults × Asks before.asked after.asked (name ∷ []) × Appends before.written after.written []
EndsAtFile IsReason name before after NoMemory =
    AsksPrefix before.asked after.asked (name ∷ []) × (after.faults ≡ before.faults)
    × Appends before.written after.written []
EndsAtFile IsReason name before after Done = ⊥
EndsAtFile IsReason name before after Odd = ⊥
EndsAtFile IsReason name before after (Bad count) = ⊥
EndsAtFile IsReason name before after WriteFault = ⊥
EndsAtFile IsReason name before after (Usage kind) = ⊥

-- The run ended before it asked for a further name: a prefix of the text was written, and then a fault came, or memory
-- was wanting.
pub record EndsInText (text : List ℕ) (before after : Moment) (cause : Cause) : Type 0 where
  pub asks : Asks before.asked after.asked []
  pub unfailing : after.faults ≡ before.faults
  pub written : AppendsPrefix before.written after.written text
  pub ends : (cause ≡ WriteFault) ⊎ (cause ≡ NoMemory)

-- the text of the file of the name is no graph, and the refusal is its fault
abbrev pub IsGraphRefusal : Named → List ℕ → Refusal → Type 0
IsGraphRefusal named name (refusal.Graph fault) = Holds named name (IsNoGraph fault)
IsGraphRefusal named name (refusal.Plan fault) = ⊥
IsGraphRefusal named name (refusal.Report fault) = ⊥
IsGraphRefusal named name (refusal.Shot fault) = ⊥
IsGraphRefusal named name (refusal.Sample fault) = ⊥
IsGraphRefusal named name (refusal.TooFewLayers height) = ⊥
IsGraphRefusal named name (refusal.Observables fault) = ⊥

-- the text of the file of the name is no plan of the graph, and the refusal is its fault
abbrev pub IsPlanRefusal : DecodingGraph → Named → List ℕ → Refusal → Type 0
IsPlanRefusal g named name (refusal.Graph fault) = ⊥
IsPlanRefusal g named name (refusal.Plan fault) = Holds named name (IsNoPlan g fault)
IsPlanRefusal g named name (refusal.Report fault) = ⊥
IsPlanRefusal g named name (refusal.Shot fault) = ⊥
IsPlanRefusal g named name (refusal.Sample fault) = ⊥
IsPlanRefusal g named name (refusal.TooFewLayers height) = ⊥
IsPlanRefusal g named name (refusal.Observables fault) = ⊥

-- the text of the file of the name is no report, and the refusal is its fault
abbrev pub IsReportRefusal : Named → List ℕ → Refusal → Type 0
IsReportRefusal named name (refusal.Report fault) = Holds named name (IsNoReport fault)
IsReportRefusal named name (refusal.Graph fault) = ⊥
IsReportRefusal named name (refusal.Plan fault) = ⊥
IsReportRefusal named name (refusal.Shot fault) = ⊥
IsReportRefusal named name (refusal.Sample fault) = ⊥
IsReportRefusal named name (refusal.TooFewLayers height) = ⊥
IsReportRefusal named name (refusal.Observables fault) = ⊥

-- the text of the file of the name is none of observables over so many edges, and the refusal is its fault
abbrev pub IsObservablesRefusal : ℕ → Named → List ℕ → Refusal → Type 0
IsObservablesRefusal edge_count named name (refusal.Observables fault) = Holds named name (AreNoObservables edge_count fault)
IsObservablesRefusal edge_count named name (refusal.Graph fault) = ⊥
IsObservablesRefusal edge_count named name (refusal.Plan fault) = ⊥
IsObservablesRefusal edge_count named name (refusal.Report fault) = ⊥
IsObservablesRefusal edge_count named name (refusal.Shot fault) = ⊥
IsObservablesRefusal edge_count named name (refusal.Sample fault) = ⊥
IsObservablesRefusal edge_count named name (refusal.TooFewLayers height) = ⊥

-- the input was read to its end
abbrev pub IsReadToItsEnd : Cause → Type 0
IsReadToItsEnd Done = ⊤
IsReadToItsEnd Odd = ⊤
IsReadToItsEnd (Bad count) = ⊤
IsReadToItsEnd (Refused r) = ⊥
IsReadToItsEnd ReadFault = ⊥
IsReadToItsEnd WriteFault = ⊥
IsReadToItsEnd NoMemory = ⊥
IsReadToItsEnd (Usage kind) = ⊥

-- a run in which a fault of the files came ends so: by it, or by what came while the rows before it were written
abbrev pub MayFollowReadFault : Cause → Type 0
MayFollowReadFault ReadFault = ⊤
MayFollowReadFault WriteFault = ⊤
MayFollowReadFault NoMemory = ⊤
MayFollowReadFault Done = ⊥
MayFollowReadFault Odd = ⊥
MayFollowReadFault (Bad count) = ⊥
MayFollowReadFault (Refused r) = ⊥
MayFollowReadFault (Usage kind) = ⊥

-- The count of the files' faults rose if a read fault ended the run, and never falls. If it rose, a read fault ended the run,
-- or what came while the rows before it were written.
abbrev pub CountsReadFault : Cause → ℕ → ℕ → Type 0
CountsReadFault cause before now = (cause ≡ ReadFault → Rose before now) × (before ≤ now) × (before < now → MayFollowReadFault cause)
