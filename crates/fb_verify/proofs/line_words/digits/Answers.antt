use Rattle.std.proofs.Common.{◌≡◌, ◌+◌, ◌∙◌, sym, true, get_or, arith}
use Rattle.std.proofs.lemmas.Bool.{and_from, le-leb}
use Rattle.fb_verify.specs.Reports.{is_digit}
use Rattle.fb_verify.proofs.Numerals.{too_large_at}
use Rattle.fb_verify.proofs.line_words.digits.Goals as goal

pub returns-then-next-from-clause-value : goal.returns-then-next-from-clause-value
returns-then-next-from-clause-value c =
    let byte = get_or c.args.text.now c.loop-c.c-index 0 in
    let digit : is_digit byte ≡ true =
    and_from _ _ (le-leb 48 byte c.if-not-is_ascii_digit.ensures.cases.0) (le-leb byte 57 c.if-not-is_ascii_digit.ensures.cases.1) in
    sym (c.loop-c.invariant.1
    ∙ too_large_at (c.args.most + 1) c.loop-c.number c.loop-c.c-index c.args.text.now (omega arith) digit (omega arith))
