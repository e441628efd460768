use Rattle.fb_blossoms.specs.InternalLegs.{legs_size}
use Rattle.fb_blossoms.proofs.Turns.{IsUnderWay}
use Rattle.fb_blossoms.proofs.legs.even_path.Given as goal

abbrev pub invariant-loop-leg : goal.invariant-loop-leg
invariant-loop-leg l = IsUnderWay l.nest.links.now l.nest.blossoms.now l.node l.a l.b l.todo.items l.path.items

abbrev pub decreases-loop-leg : goal.decreases-loop-leg
decreases-loop-leg l = legs_size l.nest.blossoms.now l.todo.items
