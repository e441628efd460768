-- The causes of private functions' faults.
use Rattle.std.specs.Prelude.{ℕ, List, string_bytes, ⊤}
use Rattle.fb_exits.specs.declared.ending.Cause.{Cause}
use Rattle.fb_exits.specs.declared.ending.Cause.TheVariants.{NoMemory, Refused, Usage}
use Rattle.fb_exits.specs.declared.ending.Refusal.TheVariants as refusal
use Rattle.fb_gen.specs.declared.faults.GenFault.{GenFault}
use Rattle.fb_gen.specs.declared.faults.GenFault.TheVariants as gen
use Rattle.fb_request.specs.declared.usage.UsageKind.TheVariants as usage
use Rattle.fb_command_line.specs.declared.words.WordsFault.{WordsFault}
use Rattle.fb_command_line.specs.declared.words.WordsFault.TheVariants as fault

-- how a sample ends whose lattice or plan can't be made
abbrev pub cause_of_sample : GenFault → Cause
cause_of_sample gen.LatticeTooLarge = Refused (refusal.Sample gen.LatticeTooLarge)
cause_of_sample gen.TooFewRounds = Refused (refusal.Sample gen.TooFewRounds)
cause_of_sample gen.NoMemory = NoMemory

-- how a run ends whose command line is refused
abbrev pub cause_of_words : WordsFault → Cause
cause_of_words (fault.Parse text) = Usage usage.Parse
cause_of_words fault.Format = Usage usage.Format
cause_of_words fault.TwoInputs = Usage usage.TwoInputs
cause_of_words fault.NoMemory = NoMemory

-- the property of the text for the user, if the command line is refused as invalid
abbrev pub IfParse : (List ℕ → Type 0) → WordsFault → Type 0
IfParse P (fault.Parse text) = P (string_bytes text)
IfParse P fault.Format = ⊤
IfParse P fault.TwoInputs = ⊤
IfParse P fault.NoMemory = ⊤
