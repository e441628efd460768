-- What a refused command line has wrong with it.
use Rattle.std.specs.Prelude.{◌≡◌, Option, Some, None, IfSome, Result, Err}
use Rattle.fb_request.specs.declared.usage.UsageKind.{UsageKind}
use Rattle.fb_request.specs.declared.usage.UsageKind.TheVariants as usage
use Rattle.fb_command_line.specs.declared.words.WordsFault.{WordsFault}
use Rattle.fb_command_line.specs.declared.words.WordsFault.TheVariants as fault

-- what a fault says is wrong with the words; None if memory ran out
abbrev pub usage_of : WordsFault → Option UsageKind
usage_of (fault.Parse text) = Some usage.Parse
usage_of fault.Format = Some usage.Format
usage_of fault.TwoInputs = Some usage.TwoInputs
usage_of fault.NoMemory = None

-- the fault is what is wrong with words of this meaning, or memory ran out
abbrev pub IsFaultOf : {A : Type 0} → Result A UsageKind → WordsFault → Type 0
IsFaultOf meaning fault = IfSome (usage_of fault) (λ kind. meaning ≡ Err kind)
