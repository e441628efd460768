use Rattle.std.proofs.Common.{◌≡◌, ◌+◌, ◌≤◌, drop}
use Rattle.fb_verify.specs.Reports.{number_from, below}
use Rattle.fb_verify.proofs.line_words.digits.Given as goal

-- the number so far, and the rest
abbrev pub invariant-loop-c : goal.invariant-loop-c
invariant-loop-c l = (l.number ≤ l.most) × (below (l.most + 1) (number_from 0 l.text) ≡ below (l.most + 1) (number_from l.number (drop l.c-index l.text)))
