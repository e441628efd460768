use Rattle.std.proofs.Common.{ℕ, arith, length-drop, ◌∙◌}
use Rattle.std.proofs.lemmas.List.{take_rest}
use Rattle.fb_ports.proofs.Onward.{appends_onward, prefix_at}
use Rattle.fb_ports.proofs.writing.put_all.Goals as goal

pub loop-at-preserved : goal.loop-at-preserved
loop-at-preserved g c = (
  omega (arith, length-drop {A = ℕ}, c.in-Ok.ensures.bound),
  appends_onward _ _ _ _ _ _ c.loop-at.invariant.1 (rw take_rest at c.in-Ok.ensures.bytes),
  c.in-Ok.ensures.cause ∙ c.loop-at.invariant.2,
)

pub returns-in_default-clause-prefix : goal.returns-in_default-clause-prefix
returns-in_default-clause-prefix g c = prefix_at _ _ _ _ _ c.loop-at.invariant.1 c.in_default.ensures.bytes
