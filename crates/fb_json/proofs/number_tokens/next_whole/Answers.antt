use Rattle.std.proofs.Common.{◌≡◌, ◌∷◌, arith}
use Rattle.json.specs.Token.{Token}
use Rattle.serde_json.specs.Find.{of_integer}
use Rattle.fb_json.proofs.NumberTexts.{begins_if}
use Rattle.fb_json.proofs.number_tokens.next_whole.Goals as goal

pub returns-clause-value : goal.returns-clause-value
returns-clause-value c =
    let is : c.args.reader.now ≡ Token.number c.as_bytes.result.now ∷ c.next.new.self = grind arith in
    begins_if of_integer c.as_bytes.result.now c.args.reader.now c.next.new.self is c.whole.result c.whole.ensures
