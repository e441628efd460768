-- What each end of a run says, by what the words ask for.
use Rattle.std.specs.Prelude.{ℕ, ◌≡◌, ◌⊎◌, List, [], Option, Result, Ok, Err, ⊤}
use Rattle.fb_ports.specs.Causes.{Appends}
use Rattle.fb_check.specs.CheckEndings.{CheckEnds}
use Rattle.fb_exits.specs.Ends.{IsReadToItsEnd}
use Rattle.fb_planning.specs.PlanEndings.{PlanEnds}
use Rattle.fb_predicting.specs.PredictEndings.{PredictEnds}
use Rattle.fb_run.specs.Endings.{DecodeEnds}
use Rattle.fb_run.specs.SampleEndings.{SampleEnds}
use Rattle.fb_files.specs.Judging.{Asks, IsReadOutIfNamed, Named}
use Rattle.fb_files.specs.Moments.{Moment}
use Rattle.fb_request.specs.Requests.{Request, check, decode, plan, predict, sample}
use Rattle.fb_exits.specs.declared.ending.Cause.{Cause}
use Rattle.fb_exits.specs.declared.ending.Cause.TheVariants.{NoMemory, Usage}
use Rattle.fb_request.specs.declared.usage.UsageKind.{UsageKind}

-- the end of what the words ask for
abbrev pub RequestEnds : Request → Moment → Moment → Cause → Type 0
RequestEnds (decode decoding) before after cause = DecodeEnds decoding before after cause
RequestEnds (check checking) before after cause = CheckEnds checking before after cause
RequestEnds (sample sampling) before after cause =
    Asks before.asked after.asked [] × (after.faults ≡ before.faults)
    × SampleEnds sampling before.written after.written cause
RequestEnds (plan planning) before after cause = PlanEnds planning before after cause
RequestEnds (predict predicting) before after cause = PredictEnds predicting before after cause

-- a command that reads shots has read its input to its end, if its cause says so
abbrev pub ReadsOut : Request → Named → Option (List ℕ) → Cause → Type 0
ReadsOut (decode decoding) named left cause = IsReadToItsEnd cause → IsReadOutIfNamed named left
ReadsOut (check checking) named left cause = IsReadToItsEnd cause → IsReadOutIfNamed named left
ReadsOut (sample sampling) named left cause = ⊤
ReadsOut (plan planning) named left cause = ⊤
ReadsOut (predict predicting) named left cause = ⊤

-- the same of a command line, if it is valid
abbrev pub HasReadOut : Result Request UsageKind → Named → Option (List ℕ) → Cause → Type 0
HasReadOut (Ok request) named left cause = ReadsOut request named left cause
HasReadOut (Err kind) named left cause = ⊤

-- The end of a run. An invalid command line ends it by what is wrong with it, or for want of memory: nothing is asked for and
-- nothing is written.
abbrev pub EndsRight : Result Request UsageKind → Moment → Moment → Cause → Type 0
EndsRight (Ok request) before after cause = RequestEnds request before after cause
EndsRight (Err kind) before after cause =
    ((cause ≡ Usage kind) ⊎ (cause ≡ NoMemory)) × Asks before.asked after.asked [] × (after.faults ≡ before.faults)
    × Appends before.written after.written []
