-- Reports that are too long to be read.
use Rattle.std.proofs.Common.{◌≡◌, ℕ, ◌<◌, List, length, Err}
use Rattle.std.proofs.lemmas.Bool.{cond-true, lt-ltb}
use Rattle.fb_verify.specs.Reports.{most_bytes, report_of_text}
use Rattle.fb_verify.specs.declared.report_faults.ReportFault.TheVariants.{TooLong}

pub too_long : (text : List ℕ) → most_bytes < length text → report_of_text text ≡ Err TooLong
unfolding report_of_text
too_long text long = cond-true _ _ _ (lt-ltb most_bytes (length text) long)
