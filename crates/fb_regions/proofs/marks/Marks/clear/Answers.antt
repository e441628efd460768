use Rattle.std.proofs.Common.{ap, sym, ◌∙◌, replicate, None}
use Rattle.fb_regions.specs.InternalNodes.{marks_in}
use Rattle.fb_regions.proofs.MarksIn.{length-marks, marks_none}
use Rattle.fb_regions.proofs.marks.Marks.clear.Goals as goal

pub returns : goal.returns
returns c =
    rw (← c.self.view_is)
    (ap (marks_in c.self.inside.vertices) c.clear.ensures
    ∙ (marks_none c.self.inside.table.bound c.self.inside.vertices
    ∙ ap (λ n. replicate n None) (sym (length-marks c.self.inside.vertices c.self.inside.table))))
