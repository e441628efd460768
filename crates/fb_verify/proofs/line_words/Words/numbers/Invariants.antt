use Rattle.std.proofs.Common.{◌≡◌, length}
use Rattle.fb_verify.specs.Reports.{all_numbers}
use Rattle.fb_verify.specs.InternalWordsLeft.{onto_all}
use Rattle.fb_verify.proofs.line_words.Words.numbers.Given as goal

-- the numbers so far, and those of the rest
abbrev pub invariant-loop-word : goal.invariant-loop-word
invariant-loop-word l = all_numbers l.fn.self ≡ onto_all l.found (all_numbers l.words)

abbrev pub decreases-loop-word : goal.decreases-loop-word
decreases-loop-word l = length l.words
