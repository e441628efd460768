-- A request whose format is refused.
use Rattle.std.proofs.Common.{refl, Result}
use Rattle.fb_command_line.specs.Faults.{IsFaultOf}
use Rattle.fb_request.specs.Requests.{Request}
use Rattle.fb_command_line.specs.Words.{request_with}
use Rattle.fb_request.specs.declared.usage.UsageKind.{UsageKind}
use Rattle.fb_command_line.specs.declared.words.WordsFault.{WordsFault}
use Rattle.fb_command_line.specs.declared.words.WordsFault.TheVariants as fault

-- the format is why
pub refused_with : {F : Type 0} (accepted : Result F UsageKind) (request : F → Request) (f : WordsFault) → IsFaultOf accepted f
    → IsFaultOf (request_with accepted request) f
refused_with accepted request (fault.Parse text) is = rw is refl
refused_with accepted request fault.Format is = rw is refl
refused_with accepted request fault.TwoInputs is = rw is refl
refused_with accepted request fault.NoMemory is = tt
