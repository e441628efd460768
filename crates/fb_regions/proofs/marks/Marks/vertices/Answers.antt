use Rattle.std.proofs.Common.{sym}
use Rattle.fb_regions.proofs.MarksIn.{length-marks}
use Rattle.fb_regions.proofs.marks.Marks.vertices.Goals as goal

pub returns : goal.returns
returns c = rw (← c.self.view_is) (sym (length-marks c.self.inside.vertices c.self.inside.table))
