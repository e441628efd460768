use Rattle.std.proofs.Common.{◌∙◌}
use Rattle.fb_ports.proofs.Onward.{parts_onward, parts_prefix}
use Rattle.fb_ports.proofs.writing.put_parts.Goals as goal

pub returns-in_default-clause-prefix : goal.returns-in_default-clause-prefix
returns-in_default-clause-prefix g c =
    parts_prefix _ _ _ (λ p. p.now) _ _ _ c.loop-part-test.true c.loop-part.invariant.0 c.in_default.ensures.prefix

pub loop-part-preserved : goal.loop-part-preserved
loop-part-preserved g c = (
  parts_onward _ _ _ (λ p. p.now) _ _ _ c.loop-part-test.true c.loop-part.invariant.0 c.in-Ok.ensures.all,
  c.in-Ok.ensures.cause ∙ c.loop-part.invariant.1,
)
