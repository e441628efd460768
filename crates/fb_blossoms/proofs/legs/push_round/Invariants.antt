use Rattle.fb_blossoms.proofs.Turns.{IsUnderRound}
use Rattle.fb_blossoms.proofs.legs.push_round.Given as goal

abbrev pub invariant-loop-k : goal.invariant-loop-k
invariant-loop-k l =
    IsUnderRound l.nest.links.now l.nest.blossoms.now l.node l.round.onward l.round.end l.fn.todo.items l.k l.at l.fn.ends.to.defect l.todo.items
