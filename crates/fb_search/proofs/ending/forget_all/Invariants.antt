use Rattle.std.proofs.Common.{take}
use Rattle.fb_search.specs.InternalEndings.{Forgets}
use Rattle.fb_search.proofs.ending.forget_all.Given as goal

abbrev pub invariant-loop-id : goal.invariant-loop-id
invariant-loop-id l = Forgets (take l.id-index l.gone) l.initial.links l.links
