use Rattle.std.proofs.Common.{◌≡◌, length}
use Rattle.fb_predicting.proofs.RecordsSoFar.{AreSoFar}
use Rattle.fb_predicting.proofs.records.Records.of_report.Given as goal
use Rattle.fb_verify.specs.Places.{Reading}
use Rattle.fb_verify.specs.Positions.{IsAt, report_from}
use Rattle.fb_verify.specs.Reports.{report_of_text}

-- some reading is at the lines that are left, and its records wait
abbrev pub invariant-loop-said : goal.invariant-loop-said
invariant-loop-said l =
    (r : Reading) × IsAt l.lines r × (report_of_text l.text ≡ report_from l.lines r) × AreSoFar l.to l.observables l.waiting.text r

abbrev pub decreases-loop-said : goal.decreases-loop-said
decreases-loop-said l = length l.lines.rest
