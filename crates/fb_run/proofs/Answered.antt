-- How an invalid command line ends a run.
use Rattle.std.proofs.Common.{◌≡◌, ◌≢◌, ◌<◌, ◌⊎◌, inl, inr, ℕ, List, [], ◌∷◌, Option, Result, Ok, Err, None, Some, refl, sym, subst, arith}
use Rattle.std.proofs.KnownBytes.{Appends-nil}
use Rattle.fb_graph.specs.Limits.{DecodingGraph}
use Rattle.fb_plan.specs.Plans.{PlanTree, single_of}
use Rattle.fb_run.specs.Endings.{EndsByPlan, EndsOn}
use Rattle.fb_files.proofs.Inputs.{asks_none, asks_same}
use Rattle.fb_files.specs.Moments.{Moment}
use Rattle.fb_exits.specs.Ends.{IsReadToItsEnd}
use Rattle.fb_files.specs.Judging.{Named}
use Rattle.fb_run.specs.RunEndings.{EndsRight, RequestEnds, HasReadOut, ReadsOut}
use Rattle.fb_run.specs.InternalCauses.{cause_of_words}
use Rattle.fb_command_line.specs.Faults.{IsFaultOf, usage_of}
use Rattle.fb_request.specs.Requests.{Decoding, Request, check, decode, plan, predict, sample}
use Rattle.fb_exits.specs.declared.ending.Cause.{Cause}
use Rattle.fb_exits.specs.declared.ending.Cause.TheVariants.{Bad, Done, NoMemory, Odd, ReadFault, Refused, Usage, WriteFault}
use Rattle.fb_request.specs.declared.usage.UsageKind.{UsageKind}
use Rattle.fb_request.specs.declared.usage.UsageKind.TheVariants as usage
use Rattle.fb_command_line.specs.declared.words.WordsFault.{WordsFault}
use Rattle.fb_command_line.specs.declared.words.WordsFault.TheVariants as fault

-- what was done of a request that was read
pub ends_read : (read : Result Request UsageKind) (request : Request) (before after : Moment) (cause : Cause) → read ≡ Ok request
    → RequestEnds request before after cause → EndsRight read before after cause
ends_read read request before after cause e ends = subst (λ (r : Result Request UsageKind). EndsRight r before after cause) (sym e) ends

no_usage : (kind : UsageKind) {P : Type 0} → (Usage kind ≡ WriteFault) ⊎ (Usage kind ≡ NoMemory) → P
no_usage kind (inl e) = absurd cc
no_usage kind (inr e) = absurd cc

never_on : (decoding : Decoding) (g : DecodingGraph) (t : PlanTree) (before after : Moment) (kind : UsageKind)
    → EndsOn decoding g t before after (Usage kind) → ⊥
never_on decoding g t before after kind (inl in_text) = no_usage kind in_text.ends
never_on decoding g t before after kind (inr at_shots) = at_shots.1

never_by_plan : (plan : Option (List ℕ)) (decoding : Decoding) (g : DecodingGraph) (before after : Moment) (kind : UsageKind)
    → EndsByPlan plan decoding g before after (Usage kind) → ⊥
never_by_plan None decoding g before after kind ends = never_on decoding g (single_of g) before after kind ends
never_by_plan (Some name) decoding g before after kind (inl none) = none
never_by_plan (Some name) decoding g before after kind (inr with_plan) =
    never_on decoding g with_plan.t with_plan.read after kind with_plan.ends

-- a request that was read never ends as an invalid command line
never_usage : (request : Request) (before after : Moment) (kind : UsageKind) → RequestEnds request before after (Usage kind) → ⊥
never_usage (decode decoding) before after kind (inl none) = none
never_usage (decode decoding) before after kind (inr with_graph) =
    never_by_plan decoding.plan decoding with_graph.g with_graph.read after kind with_graph.ends
never_usage (check checking) before after kind (inl none) = none
never_usage (check checking) before after kind (inr with_graph) = elim with_graph.ends [
  | inl none ↦ none
  | inr with_report ↦ elim with_report.ends [
    | inl in_text ↦ no_usage kind in_text.ends
    | inr at_shots ↦ at_shots.2
  ]
]
never_usage (sample sampling) before after kind ends = ends.2
never_usage (plan planning) before after kind (inl none) = none
never_usage (plan planning) before after kind (inr with_graph) = with_graph.ends
never_usage (predict predicting) before after kind (inl none) = none
never_usage (predict predicting) before after kind (inr with_graph) = elim with_graph.ends [
  | inl none ↦ none
  | inr with_observables ↦ elim with_observables.ends [ inl none ↦ none | inr with_report ↦ with_report.ends ]
]

pub request_not_usage : (request : Request) (before after : Moment) (cause : Cause) (kind : UsageKind) → RequestEnds request before after cause → cause ≢ Usage kind
request_not_usage request before after cause kind ends e = never_usage request before after kind (subst (RequestEnds request before after) e ends)

pub fault_not_parse : (f : WordsFault) → usage_of f ≢ Some usage.Parse → cause_of_words f ≢ Usage usage.Parse
fault_not_parse (fault.Parse text) other e = other refl
fault_not_parse fault.Format other e = absurd cc
fault_not_parse fault.TwoInputs other e = absurd cc
fault_not_parse fault.NoMemory other e = absurd cc

not_to_end : (f : WordsFault) → IsReadToItsEnd (cause_of_words f) → ⊥
not_to_end (fault.Parse text) none = none
not_to_end fault.Format none = none
not_to_end fault.TwoInputs none = none
not_to_end fault.NoMemory none = none

-- what was read of a request that was read
pub out_read : (read : Result Request UsageKind) (request : Request) (named : Named) (left : Option (List ℕ)) (cause : Cause) → read ≡ Ok request
    → ReadsOut request named left cause → HasReadOut read named left cause
out_read read request named left cause e out = subst (λ (r : Result Request UsageKind). HasReadOut r named left cause) (sym e) out

-- an invalid command line doesn't end a run at the end of its input
pub never_out : (read : Result Request UsageKind) (f : WordsFault) (named : Named) (left : Option (List ℕ)) → HasReadOut read named left (cause_of_words f)
never_out (Ok (decode decoding)) f named left = λ reads. absurd (not_to_end f reads)
never_out (Ok (check checking)) f named left = λ reads. absurd (not_to_end f reads)
never_out (Ok (sample sampling)) f named left = tt
never_out (Ok (plan planning)) f named left = tt
never_out (Ok (predict predicting)) f named left = tt
never_out (Err kind) f named left = tt

-- a command line that is refused does nothing
ends_invalid : (read : Result Request UsageKind) (kind : UsageKind) (m : Moment) → read ≡ Err kind → EndsRight read m m (Usage kind)
ends_invalid read kind m e = subst (λ (r : Result Request UsageKind). EndsRight r m m (Usage kind)) (sym e)
    (inl refl, asks_same m.asked m.asked refl, refl, Appends-nil m.written)

pub ends_refused : (read : Result Request UsageKind) (f : WordsFault) (m : Moment) → IsFaultOf read f → EndsRight read m m (cause_of_words f)
ends_refused read (fault.Parse text) m e = ends_invalid read usage.Parse m e
ends_refused read fault.Format m e = ends_invalid read usage.Format m e
ends_refused read fault.TwoInputs m e = ends_invalid read usage.TwoInputs m e
ends_refused (Ok (decode decoding)) fault.NoMemory m e = inl (asks_none m.asked m.asked (decoding.graph ∷ []) refl, refl, Appends-nil m.written)
ends_refused (Ok (check checking)) fault.NoMemory m e = inl (asks_none m.asked m.asked (checking.graph ∷ []) refl, refl, Appends-nil m.written)
ends_refused (Ok (sample sampling)) fault.NoMemory m e = (asks_same m.asked m.asked refl, refl, Appends-nil m.written)
ends_refused (Ok (plan planning)) fault.NoMemory m e = inl (asks_none m.asked m.asked (planning.graph ∷ []) refl, refl, Appends-nil m.written)
ends_refused (Ok (predict predicting)) fault.NoMemory m e = inl (asks_none m.asked m.asked (predicting.graph ∷ []) refl, refl, Appends-nil m.written)
ends_refused (Err kind) fault.NoMemory m e = (inr refl, asks_same m.asked m.asked refl, refl, Appends-nil m.written)

-- a sink fails only in a run that says so
pub only_write_fault : (cause : Cause) (before now : ℕ) → (cause ≢ WriteFault → now ≡ before) → before < now → cause ≡ WriteFault
only_write_fault WriteFault before now same rose = refl
only_write_fault Done before now same rose = absurd (omega (arith, same (λ e. absurd cc), rose))
only_write_fault Odd before now same rose = absurd (omega (arith, same (λ e. absurd cc), rose))
only_write_fault (Bad count) before now same rose = absurd (omega (arith, same (λ e. absurd cc), rose))
only_write_fault (Refused refusal) before now same rose = absurd (omega (arith, same (λ e. absurd cc), rose))
only_write_fault ReadFault before now same rose = absurd (omega (arith, same (λ e. absurd cc), rose))
only_write_fault NoMemory before now same rose = absurd (omega (arith, same (λ e. absurd cc), rose))
only_write_fault (Usage kind) before now same rose = absurd (omega (arith, same (λ e. absurd cc), rose))
