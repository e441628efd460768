-- How a sample ends.
use Rattle.std.specs.Prelude.{ℕ, ℤ, ◌≡◌, ◌⊎◌, List, [], Option, Ok, Err}
use Rattle.fb_exits.specs.declared.ending.Cause.{Cause}
use Rattle.fb_exits.specs.declared.ending.Cause.TheVariants.{Done, Odd, Bad, Refused, ReadFault, WriteFault, NoMemory, Usage}
use Rattle.fb_exits.specs.declared.ending.Refusal.{Refusal}
use Rattle.fb_exits.specs.declared.ending.Refusal.TheVariants as refusal
use Rattle.fb_gen.specs.Lattice.{lattice_of}
use Rattle.fb_gen.specs.TimePlan.{time_plan_of}
use Rattle.fb_gen.specs.declared.faults.GenFault.{GenFault}
use Rattle.fb_graph.specs.Limits.{DecodingGraph}
use Rattle.fb_plan.specs.Plans.{PlanTree}
use Rattle.fb_ports.specs.Causes.{Appends, AppendsPrefix}
use Rattle.fb_request.specs.Requests.{Sampling}
use Rattle.fb_run.specs.Samples.{HaveSums, sample_text}

-- The text of a sample: of the lattice, its plan by time, and the shots that are drawn on it and decoded.
pub record IsSampleText (s : Sampling) (text : List ℕ) : Type 0 where
  pub graph : DecodingGraph
  pub plan : PlanTree
  pub defects : ℕ
  pub weight : ℤ
  pub lattice : lattice_of s.distance s.rounds ≡ Ok graph
  pub by_time : time_plan_of s.distance s.rounds s.units ≡ Ok plan
  pub sums : HaveSums graph s.rate s.start s.shots defects weight
  pub text_is : text ≡ sample_text s plan defects weight

-- there is no such lattice, or there is, and no such plan of it
abbrev pub IsSampleFault : Sampling → GenFault → Type 0
IsSampleFault s fault =
    (lattice_of s.distance s.rounds ≡ Err fault)
    ⊎ ((g : DecodingGraph) × (lattice_of s.distance s.rounds ≡ Ok g) × (time_plan_of s.distance s.rounds s.units ≡ Err fault))

abbrev pub IsSampleRefusal : Sampling → Refusal → Type 0
IsSampleRefusal s (refusal.Sample fault) = IsSampleFault s fault
IsSampleRefusal s (refusal.Graph fault) = ⊥
IsSampleRefusal s (refusal.Plan fault) = ⊥
IsSampleRefusal s (refusal.Report fault) = ⊥
IsSampleRefusal s (refusal.Shot fault) = ⊥
IsSampleRefusal s (refusal.TooFewLayers height) = ⊥
IsSampleRefusal s (refusal.Observables fault) = ⊥

-- How a sample ends: its whole text is written, or a prefix of it and then a fault comes; or nothing is written.
abbrev pub SampleEnds : Sampling → (old new : Option (List ℕ)) → Cause → Type 0
SampleEnds s old new Done = (text : List ℕ) × IsSampleText s text × Appends old new text
SampleEnds s old new (Refused r) = IsSampleRefusal s r × Appends old new []
SampleEnds s old new WriteFault = (text : List ℕ) × IsSampleText s text × AppendsPrefix old new text
SampleEnds s old new NoMemory = Appends old new []
SampleEnds s old new Odd = ⊥
SampleEnds s old new (Bad count) = ⊥
SampleEnds s old new ReadFault = ⊥
SampleEnds s old new (Usage kind) = ⊥
