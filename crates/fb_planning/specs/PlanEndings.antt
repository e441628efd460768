-- What each end of the command `plan` says of what was written and read.
use Rattle.std.specs.Prelude.{ℕ, ◌≡◌, ◌⊎◌, List, [], Option}
use Rattle.fb_exits.specs.Ends.{EndsAtFile, IsGraphRefusal}
use Rattle.fb_exits.specs.declared.ending.Cause.{Cause}
use Rattle.fb_exits.specs.declared.ending.Cause.TheVariants.{Done, Odd, Bad, Refused, ReadFault, WriteFault, NoMemory, Usage}
use Rattle.fb_exits.specs.declared.ending.Refusal.{Refusal}
use Rattle.fb_exits.specs.declared.ending.Refusal.TheVariants as refusal
use Rattle.fb_graph.specs.Limits.{DecodingGraph}
use Rattle.fb_files.specs.Judging.{Asks, IsGraphText, IsPlanText}
use Rattle.fb_files.specs.Moments.{Moment, ReadsFile}
use Rattle.fb_layers.specs.PlanByLayers.{AreTooFew, IsPlanByLayers}
use Rattle.fb_plan.specs.Plans.{PlanTree}
use Rattle.fb_plan_out.specs.PlanWriting.{text_of_plan}
use Rattle.fb_ports.specs.Causes.{Appends, AppendsPrefix}
use Rattle.fb_request.specs.Requests.{Planning}

-- The text is that of the plan of the graph by its layers, with so many units, and the reader of plans accepts it for this
-- graph as that plan.
pub record IsTextByLayers (g : DecodingGraph) (units : ℕ) (text : List ℕ) : Type 0 where
  pub plan : PlanTree
  pub by_layers : IsPlanByLayers g units plan
  pub reads_back : IsPlanText g plan text
  pub text_is : text ≡ text_of_plan plan

-- the graph has too few layers for so many units, and the refusal says how many
abbrev pub IsLayersRefusal : DecodingGraph → ℕ → Refusal → Type 0
IsLayersRefusal g units (refusal.TooFewLayers height) = AreTooFew g units height
IsLayersRefusal g units (refusal.Graph fault) = ⊥
IsLayersRefusal g units (refusal.Plan fault) = ⊥
IsLayersRefusal g units (refusal.Report fault) = ⊥
IsLayersRefusal g units (refusal.Shot fault) = ⊥
IsLayersRefusal g units (refusal.Sample fault) = ⊥
IsLayersRefusal g units (refusal.Observables fault) = ⊥

-- How the command ends for a graph: the whole text is written, or a prefix of it and then a fault comes; or nothing is
-- written, as the layers are too few or memory ran out.
abbrev pub WritesPlan : DecodingGraph → ℕ → (old new : Option (List ℕ)) → Cause → Type 0
WritesPlan g units old new Done = (text : List ℕ) × IsTextByLayers g units text × Appends old new text
WritesPlan g units old new (Refused r) = IsLayersRefusal g units r × Appends old new []
WritesPlan g units old new WriteFault = (text : List ℕ) × IsTextByLayers g units text × AppendsPrefix old new text
WritesPlan g units old new NoMemory = Appends old new []
WritesPlan g units old new Odd = ⊥
WritesPlan g units old new (Bad count) = ⊥
WritesPlan g units old new ReadFault = ⊥
WritesPlan g units old new (Usage kind) = ⊥

-- the file of the graph holds one, no other name was asked for, no read failed, and the command ended so for the graph
pub record PlansWithGraph (request : Planning) (before after : Moment) (cause : Cause) : Type 0 where
  pub g : DecodingGraph
  pub read : Moment
  pub graph : ReadsFile (IsGraphText g) request.graph before read
  pub asks : Asks read.asked after.asked []
  pub unfailing : after.faults ≡ read.faults
  pub ends : WritesPlan g request.units read.written after.written cause

-- the end of the command: at the graph, or with it
abbrev pub PlanEnds : Planning → Moment → Moment → Cause → Type 0
PlanEnds request before after cause =
    EndsAtFile (IsGraphRefusal before.named request.graph) request.graph before after cause
    ⊎ PlansWithGraph request before after cause
