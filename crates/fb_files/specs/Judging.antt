-- Which input is accepted, and which names are asked for.
use Rattle.std.specs.Prelude.{ℕ, ◌≡◌, List, [], ◌++◌, Option, Some, None, Ok, Err, ⊤}
use Rattle.fb_graph.specs.Limits.{DecodingGraph, ShotValue}
use Rattle.fb_graph_in.specs.GraphText.{graph_of_text}
use Rattle.fb_graph_in.specs.declared.faults.TextFault.{TextFault}
use Rattle.fb_shots.specs.Shots.{Ending, still_open, Shots}
use Rattle.fb_shots.specs.Formats.{prefix_of}
use Rattle.fb_shots.specs.Streams.{most_bytes, stream_of}
use Rattle.fb_request.specs.declared.format.Format.{Format}
use Rattle.fb_plan.specs.Plans.{PlanTree}
use Rattle.fb_plan.specs.declared.faults.PlanFault.{PlanFault}
use Rattle.fb_plan_in.specs.PlanText.{plan_of_text}
use Rattle.fb_predict.specs.ObservableText.{observables_of_text}
use Rattle.fb_predict.specs.declared.faults.ObsFault.{ObsFault}
use Rattle.fb_verify.specs.Reports.{report_of_text}
use Rattle.fb_verify.specs.declared.report_faults.ReportFault.{ReportFault}
use Rattle.fb_verify.specs.declared.reports.Report.{Report}
use Rattle.fb_files.specs.declared.fault.FileFault.{FileFault}
use Rattle.fb_files.specs.declared.fault.FileFault.TheVariants as file_fault

-- the bytes of files by their names, if known
abbrev pub Named : Type 0
Named = Option (List ℕ → Option (List ℕ))

-- the file of the name holds a text with the property
abbrev pub Holds : Named → List ℕ → (List ℕ → Type 0) → Type 0
Holds None name P = ⊤
Holds (Some named) name P = (text : List ℕ) × (named name ≡ Some text) × P text

-- the text is that of the graph
abbrev pub IsGraphText : DecodingGraph → List ℕ → Type 0
IsGraphText g text = graph_of_text text ≡ Ok g

-- the text is no graph, for this reason
abbrev pub IsNoGraph : TextFault → List ℕ → Type 0
IsNoGraph fault text = graph_of_text text ≡ Err fault

-- the text is that of the plan of the graph
abbrev pub IsPlanText : DecodingGraph → PlanTree → List ℕ → Type 0
IsPlanText g t text = plan_of_text text g ≡ Ok t

-- the text is no plan of the graph, for this reason
abbrev pub IsNoPlan : DecodingGraph → PlanFault → List ℕ → Type 0
IsNoPlan g fault text = plan_of_text text g ≡ Err fault

-- the text is that of the observables, over a graph with a number of edges
abbrev pub AreObservables : ℕ → List (List ℕ) → List ℕ → Type 0
AreObservables edge_count observables text = observables_of_text text edge_count ≡ Ok observables

-- the text is none of observables, for this reason
abbrev pub AreNoObservables : ℕ → ObsFault → List ℕ → Type 0
AreNoObservables edge_count fault text = observables_of_text text edge_count ≡ Err fault

-- the text is that of the report
abbrev pub IsReportText : Report → List ℕ → Type 0
IsReportText report text = report_of_text text ≡ Ok report

-- the text is no report, for this reason
abbrev pub IsNoReport : ReportFault → List ℕ → Type 0
IsNoReport fault text = report_of_text text ≡ Err fault

-- if the text of a file is refused: the property of the reason
abbrev pub IfRefused : {E : Type 0} → (E → Type 0) → FileFault E → Type 0
IfRefused P (file_fault.Refused reason) = P reason
IfRefused P file_fault.ReadFault = ⊤
IfRefused P file_fault.NoMemory = ⊤

-- the most shots that are taken from a file: 2^32 - 1
abbrev pub most_shots : ℕ
most_shots = 4294967295

-- the shots of a text, and how they end
abbrev pub shots_of : Format → DecodingGraph → List ℕ → Shots
shots_of format g text = stream_of format g most_shots most_bytes text

-- the text's shots are these, and end so
abbrev pub HasShots : Format → DecodingGraph → List ShotValue → Ending → List ℕ → Type 0
HasShots format g shots ending text = shots_of format g text ≡ record { shots = shots; ending = ending }

-- these are the first shots of the text
abbrev pub HasFirstShots : Format → DecodingGraph → List ShotValue → List ℕ → Type 0
HasFirstShots format g shots text = (more : List ShotValue) × ((shots_of format g text).shots ≡ shots ++ more)

-- Of the text all but `left` was read, and what was read settles these shots and nothing more.
pub record IsReadInPart (format : Format) (g : DecodingGraph) (left : Option (List ℕ)) (shots : List ShotValue) (text : List ℕ) : Type 0 where
  pub given : List ℕ
  pub rest : List ℕ
  pub remains : left ≡ Some rest
  pub parts : text ≡ given ++ rest
  pub settled : prefix_of format g given ≡ record { shots = shots; ending = still_open }
  pub first : HasFirstShots format g shots text

-- nothing is left of the current file, if files report what they hold
abbrev pub IsReadOutIfNamed : Named → Option (List ℕ) → Type 0
IsReadOutIfNamed None left = ⊤
IsReadOutIfNamed (Some named) left = left ≡ Some []

-- the names asked for since are these, if known
abbrev pub Asks : Option (List (List ℕ)) → Option (List (List ℕ)) → List (List ℕ) → Type 0
Asks None new wanted = new ≡ None
Asks (Some names) new wanted = new ≡ Some (names ++ wanted)

-- the names asked for since are a prefix of these, if known
abbrev pub AsksPrefix : Option (List (List ℕ)) → Option (List (List ℕ)) → List (List ℕ) → Type 0
AsksPrefix old new wanted = (asked more : List (List ℕ)) × (wanted ≡ asked ++ more) × Asks old new asked
