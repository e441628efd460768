use Rattle.fb_resolve.proofs.Reached.{marks_up}
use Rattle.fb_resolve.proofs.marks.mark_end.Goals as goal

pub returns-in-Some-clause-marks : goal.returns-in-Some-clause-marks
returns-in-Some-clause-marks c =
    λ x inside. marks_up _ _ _ c.in-Some.leaf c.args.vertex x c.keeps.ensures c.in-Some.ensures.leaf c.mark_up.ensures
