-- Why a run ends: the status of its process, and its line on standard error.
use Rattle.std.specs.Prelude.{ℕ, List, [], ◌∷◌, ◌++◌, codes, decimal, Option, Some, None}
use Rattle.fb_report.specs.Texts.{line}
use Rattle.fb_gen.specs.FaultTexts as sample
use Rattle.fb_graph_in.specs.FaultTexts as graph
use Rattle.fb_plan.specs.FaultTexts as plan
use Rattle.fb_predict.specs.FaultTexts as observables
use Rattle.fb_shots.specs.FaultTexts as shot
use Rattle.fb_verify.specs.FaultTexts as report
use Rattle.fb_exits.specs.declared.ending.Cause.{Cause}
use Rattle.fb_exits.specs.declared.ending.Cause.TheVariants.{Done, Odd, Bad, Refused, ReadFault, WriteFault, NoMemory, Usage}
use Rattle.fb_exits.specs.declared.ending.Refusal.{Refusal}
use Rattle.fb_exits.specs.declared.ending.Refusal.TheVariants as refusal
use Rattle.fb_request.specs.declared.usage.UsageKind.TheVariants as usage

abbrev pub status_of : Cause → ℕ
status_of Done = 0
status_of Odd = 1
status_of (Bad count) = 1
status_of (Refused r) = 2
status_of ReadFault = 3
status_of WriteFault = 4
status_of NoMemory = 5
status_of (Usage kind) = 6

-- the name of the rule that is broken, and its place: a word, a number, both or neither
abbrev pub refusal_name : Refusal → List ℕ
refusal_name (refusal.Graph fault) = graph.fault_name fault
refusal_name (refusal.Plan fault) = plan.fault_name fault
refusal_name (refusal.Report fault) = report.fault_name fault
refusal_name (refusal.Shot fault) = shot.kind_name fault.kind
refusal_name (refusal.Sample fault) = sample.fault_name fault
refusal_name (refusal.TooFewLayers height) = codes "TooFewLayers"
refusal_name (refusal.Observables fault) = observables.fault_name fault

abbrev pub refusal_place : Refusal → Option (List ℕ)
refusal_place (refusal.Graph fault) = graph.fault_place fault
refusal_place (refusal.Plan fault) = plan.fault_place fault
refusal_place (refusal.Report fault) = report.fault_place fault
refusal_place (refusal.Shot fault) = Some (codes "shot")
refusal_place (refusal.Sample fault) = None
refusal_place (refusal.TooFewLayers height) = None
refusal_place (refusal.Observables fault) = observables.fault_place fault

abbrev pub refusal_number : Refusal → Option ℕ
refusal_number (refusal.Graph fault) = graph.fault_number fault
refusal_number (refusal.Plan fault) = plan.fault_number fault
refusal_number (refusal.Report fault) = report.fault_number fault
refusal_number (refusal.Shot fault) = Some fault.shot
refusal_number (refusal.Sample fault) = None
refusal_number (refusal.TooFewLayers height) = Some height
refusal_number (refusal.Observables fault) = observables.fault_number fault

-- a word, if there is one
abbrev pub if_any : Option (List ℕ) → List (List ℕ)
if_any None = []
if_any (Some word) = word ∷ []

abbrev pub number_if_any : Option ℕ → List (List ℕ)
number_if_any None = []
number_if_any (Some number) = decimal number ∷ []

-- the line of a refusal: its name, and then its place
abbrev pub refusal_line : Refusal → List ℕ
refusal_line r = line (codes "fusion:")
    (codes "refused" ∷ refusal_name r ∷ if_any (refusal_place r) ++ number_if_any (refusal_number r))

-- The line of a cause that isn't a refusal. A command line that clap refuses has a text of clap's own, which isn't stated
-- here.
abbrev pub fixed_line : Cause → List ℕ
fixed_line Done = []
fixed_line Odd = []
fixed_line (Bad count) = []
fixed_line (Refused r) = []
fixed_line ReadFault = codes "fusion: read fault\n"
fixed_line WriteFault = codes "fusion: write fault\n"
fixed_line NoMemory = codes "fusion: out of memory\n"
fixed_line (Usage usage.Parse) = []
fixed_line (Usage usage.Format) = codes "fusion: unknown format\n"
fixed_line (Usage usage.TwoInputs) = codes "fusion: two names for standard input\n"

-- what standard error gets
abbrev pub line_of : Cause → List ℕ
line_of Done = fixed_line Done
line_of Odd = fixed_line Odd
line_of (Bad count) = fixed_line (Bad count)
line_of (Refused r) = refusal_line r
line_of ReadFault = fixed_line ReadFault
line_of WriteFault = fixed_line WriteFault
line_of NoMemory = fixed_line NoMemory
line_of (Usage kind) = fixed_line (Usage kind)
