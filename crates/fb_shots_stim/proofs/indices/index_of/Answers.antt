use Rattle.std.proofs.Common.{◌≡◌, ◌+◌, ◌-◌, ◌*◌, min, true, get_or, ◌∙◌, arith}
use Rattle.std.proofs.lemmas.Bool.{and_from, le-leb}
use Rattle.fb_shots_stim.specs.NamedDetectors.{is_digit}
use Rattle.fb_shots_stim.proofs.NamedLemmas.{index_more}
use Rattle.fb_shots_stim.proofs.indices.index_of.Goals as goal

pub loop-c-preserved : goal.loop-c-preserved
loop-c-preserved c =
    let byte = get_or c.args.digits.now c.loop-c.c-index 0 in
    let digit : is_digit byte ≡ true = and_from _ _ (le-leb 48 byte c.if-not-is_ascii_digit.ensures.cases.0) (le-leb byte 57 c.if-not-is_ascii_digit.ensures.cases.1) in
    let next : c.min-index.result ≡ min (c.loop-c.index * 10 + (byte - 48)) c.args.limit = omega arith in
    (omega arith, index_more c.args.limit c.loop-c.index c.min-index.result c.loop-c.c-index c.args.digits.now (omega arith) digit next ∙ c.loop-c.invariant.1)
