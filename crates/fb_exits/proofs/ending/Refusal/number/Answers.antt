use Rattle.std.proofs.Common.{refl}
use Rattle.fb_exits.proofs.ending.Refusal.number.Goals as goal

pub returns-in-Shot : goal.returns-in-Shot
returns-in-Shot c = rw (c.in-Shot.is, c.from.ensures) refl
