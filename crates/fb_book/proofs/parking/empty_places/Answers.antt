use Rattle.std.proofs.Common.{None, replicate, ap, ◌∙◌, arith}
use Rattle.std.proofs.lemmas.Grind.{common_steps}
use Rattle.fb_book.proofs.parking.empty_places.Goals as goal

pub loop-init : goal.loop-init
loop-init g c = (c.in_ok-places.ensures.items, c.in_ok-places.ensures.capacity)

pub push_reserved-requires : goal.push_reserved-requires
push_reserved-requires g c = grind (arith, common_steps)

pub loop-preserved : goal.loop-preserved
loop-preserved g c = grind (arith, common_steps)

pub returns : goal.returns
returns g c = c.loop.invariant.0 ∙ ap (λ n. replicate n None) (omega (arith, c.count_of-count.ensures.value))
