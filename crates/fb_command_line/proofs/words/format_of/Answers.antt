use Rattle.std.proofs.Common.{refl}
use Rattle.fb_command_line.proofs.words.format_of.Goals as goal

pub returns-in-dets : goal.returns-in-dets
returns-in-dets c = rw c.in-dets.is refl

pub returns-in-hits : goal.returns-in-hits
returns-in-hits c = rw c.in-hits.is refl

pub returns-in-r8 : goal.returns-in-r8
returns-in-r8 c = rw c.in-r8.is refl
