use Rattle.std.proofs.Common.{◌∙◌, ap}
use Rattle.fb_regions.specs.InternalNodes.{marks_in}
use Rattle.fb_regions.proofs.MarksIn.{marks_none}
use Rattle.fb_regions.proofs.marks.Marks.new.Goals as goal

pub returns : goal.returns
returns c = ap (marks_in c.args.vertices) c.empty.ensures ∙ marks_none 0 c.args.vertices
