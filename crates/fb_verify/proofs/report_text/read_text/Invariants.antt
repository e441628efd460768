use Rattle.std.proofs.Common.{◌≡◌, length}
use Rattle.fb_verify.specs.Places.{Reading}
use Rattle.fb_verify.specs.Positions.{IsAt, report_from}
use Rattle.fb_verify.specs.Reports.{report_of_text}
use Rattle.fb_verify.proofs.Gathers.{Holds}
use Rattle.fb_verify.proofs.report_text.read_text.Given as goal

-- some reading is at the lines that are left, and its rows are gathered
abbrev pub invariant-loop-said : goal.invariant-loop-said
invariant-loop-said l = (r : Reading) × IsAt l.lines r × (report_of_text l.bytes ≡ report_from l.lines r) × Holds l.gathered r

abbrev pub decreases-loop-said : goal.decreases-loop-said
decreases-loop-said l = length l.lines.rest
