use Rattle.std.proofs.Common.{◌∙◌}
use Rattle.fb_regions.proofs.MarksIn.{mark_in}
use Rattle.fb_regions.proofs.marks.Marks.at.Goals as goal

pub returns : goal.returns
returns c =
    rw (← c.self.view_is)
    (c.get_ref.ensures ∙ mark_in c.self.inside.vertices c.self.inside.table c.args.v c.self.invariant.within c.keeps.ensures.within)
