use Rattle.std.proofs.Common.{sym, ◌∙◌, arith, ◌≡◌}
use Rattle.slab.specs.Slab.{get}
use Rattle.fb_blossoms.proofs.Takings.{over_one}
use Rattle.fb_blossoms.proofs.joining.take_all.Goals as goal

pub loop-key-preserved : goal.loop-key-preserved
loop-key-preserved c =
    let here : get c.loop-key.right c.loop-key.key ≡ get c.args.right.now c.loop-key.key = c.loop-key.invariant.1 c.loop-key.key (omega arith) in (
      over_one c.args.nodes.now c.args.right.now c.loop-key.nodes c.take_one.new.nodes c.args.more c.loop-key.key c.loop-key.names.items c.take_one.new.names.items c.loop-key.invariant.0 (get c.loop-key.right c.loop-key.key) (sym here) c.in_ok-take_one.ensures.step,
      λ x h. c.take_one.ensures.rest x (omega (arith, h)) ∙ c.loop-key.invariant.1 x (omega (arith, h)),
    )
