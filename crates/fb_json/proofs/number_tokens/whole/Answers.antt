use Rattle.std.proofs.Common.{◌≡◌, drop, Some, sym, arith, rules, take_all, length-drop}
use Rattle.serde_json.specs.Data.{unsigned}
use Rattle.serde_json.specs.Read.{number_of}
use Rattle.fb_json.proofs.NumberTexts.{natural_read, signed_by}
use Rattle.fb_json.proofs.number_tokens.whole.Goals as goal

pub returns-then-has_minus : goal.returns-then-has_minus
returns-then-has_minus c =
    let s = c.args.text.now in
    signed_by s _ (sym c.if-has_minus.ensures.sign) (take_all _ (drop 1 s) (omega (arith, length-drop 1 s))) c.negative.result c.negative.ensures

pub returns : goal.returns
returns c =
    let read : number_of c.args.text.now ≡ Some (unsigned c.in_ok-number.number) =
    natural_read c.args.text.now c.scan.result (sym c.if-has_minus.ensures.sign) c.scan.ensures.parts c.to_u64.result _ c.to_u64.ensures c.in_ok-number.was in
    search (rules, read)
