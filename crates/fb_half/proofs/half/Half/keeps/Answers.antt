use Rattle.fb_half.proofs.half.Half.keeps.Goals as goal

pub returns-clause-packing : goal.returns-clause-packing
returns-clause-packing c =
    rw (← c.self.view_is)
    (c.half_opened.ensures.packing _ _ c.self.invariant.1.state.work.nest.dual c.self.invariant.1.state.work.work.matching.defects)

pub returns-clause-solved : goal.returns-clause-solved
returns-clause-solved c =
    rw (← c.self.view_is) (c.part_solved.ensures.solved _ _ c.self.invariant.1.state c.self.invariant.2)
