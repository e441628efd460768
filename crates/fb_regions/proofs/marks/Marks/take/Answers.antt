use Rattle.fb_regions.proofs.MarksIn.{marks_left}
use Rattle.fb_regions.proofs.marks.Marks.take.Goals as goal

pub returns : goal.returns
returns c =
    rw (← c.self.view_is) (marks_left c.self.inside.vertices c.self.inside.table c.leave.new.self c.args.v c.leave.ensures.values)
