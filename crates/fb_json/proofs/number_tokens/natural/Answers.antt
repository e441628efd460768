use Rattle.std.proofs.Common.{sym}
use Rattle.fb_json.proofs.NumberTexts.{natural_by}
use Rattle.fb_json.proofs.number_tokens.natural.Goals as goal

pub returns : goal.returns
returns c = natural_by c.args.text.now c.scan.result (sym c.if-has_minus.ensures.sign) c.scan.ensures.parts c.to_u64.result c.to_u64.ensures
