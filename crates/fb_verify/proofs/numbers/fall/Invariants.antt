use Rattle.std.proofs.Common.{◌≡◌, drop}
use Rattle.fb_verify.specs.Verdicts.{first_fall, first_fall_after}
use Rattle.fb_verify.proofs.numbers.fall.Given as goal

abbrev pub invariant-loop-number : goal.invariant-loop-number
invariant-loop-number l = first_fall l.numbers ≡ first_fall_after l.before (drop l.number-index l.rest)
