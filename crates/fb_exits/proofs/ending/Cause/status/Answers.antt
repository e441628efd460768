use Rattle.std.proofs.Common.{inl, inr, refl}
use Rattle.fb_exits.proofs.ending.Cause.status.Goals as goal

pub returns-in-Odd : goal.returns-in-Odd
returns-in-Odd c = elim c.in-Odd.is [ inl is ↦ rw is refl | inr bad ↦ rw bad.1 refl ]
