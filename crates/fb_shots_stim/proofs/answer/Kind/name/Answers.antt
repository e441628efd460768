use Rattle.std.proofs.Common.{ap, sym}
use Rattle.fb_shots_stim.specs.FaultTexts.{kind_name}
use Rattle.fb_shots_stim.proofs.answer.Kind.name.Goals as goal

pub returns-in-LongRecord : goal.returns-in-LongRecord
returns-in-LongRecord c = sym (ap kind_name c.in-LongRecord.is)
