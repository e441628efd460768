use Rattle.std.proofs.Common.{None, ◌∙◌}
use Rattle.fb_blossoms.proofs.Moves.{opened, opens, seen_from}
use Rattle.fb_blossoms.proofs.blossoms.Blossoms.open_up.Goals as goal

pub invariant_of-self : goal.invariant_of-self
invariant_of-self c =
    opened c.self.inside.nodes c.remove.new.self c.put_under.new.nodes _ _ c.self.invariant c.args.node c.remove.result c.remove.ensures.value c.remove.ensures.updates
    (seen_from c.remove.new.self c.put_under.new.nodes c.deref.result.now _ None (c.deref.ensures.value ∙ c.into_cycle-cycle.ensures) c.put_under.ensures.slots)
    (rw (← c.self.view_is) at c.requires.blossom) (rw (← c.self.view_is) at c.requires.outer)

pub returns-clause-rest : goal.returns-clause-rest
returns-clause-rest c =
    rw (← c.self.view_is)
    (opens c.self.inside.nodes c.remove.new.self c.put_under.new.nodes _ _ c.self.invariant c.args.node c.remove.result c.remove.ensures.value c.remove.ensures.updates
    (seen_from c.remove.new.self c.put_under.new.nodes c.deref.result.now _ None (c.deref.ensures.value ∙ c.into_cycle-cycle.ensures) c.put_under.ensures.slots)
    (rw (← c.self.view_is) at c.requires.blossom) (rw (← c.self.view_is) at c.requires.outer))
