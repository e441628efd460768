use Rattle.std.proofs.Common.{arith}
use Rattle.fb_regions.proofs.MarksIn.{length-marks, marked_keys}
use Rattle.fb_regions.proofs.marks.Marks.marked.Goals as goal

pub returns-clause-within : goal.returns-clause-within
returns-clause-within c =
    rw (c.keys.ensures, ← c.self.view_is)
    (λ k d less. let below = c.keeps.ensures.within k d less in
    omega (arith, below, c.self.invariant.within, length-marks c.self.inside.vertices c.self.inside.table))

pub returns-clause-marked : goal.returns-clause-marked
returns-clause-marked c =
    rw (c.keys.ensures, ← c.self.view_is)
    (marked_keys c.self.inside.vertices c.self.inside.table c.keeps.ensures.values c.self.invariant.within c.keeps.ensures.within)
