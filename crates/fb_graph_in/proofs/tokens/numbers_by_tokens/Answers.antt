use Rattle.std.proofs.Common.{◌≡◌, ◌∷◌, [], arith}
use Rattle.std.proofs.lemmas.Option.{IfSome_then}
use Rattle.json.specs.Lex.{tokens}
use Rattle.json.specs.Token.{Token}
use Rattle.serde_json.specs.Data.{object}
use Rattle.fb_json.proofs.Readings.{value_of_some}
use Rattle.fb_graph_in.proofs.TokenMembers.{object_read}
use Rattle.fb_graph_in.proofs.tokens.numbers_by_tokens.Goals as goal

pub returns : goal.returns
returns c =
    let opens : tokens c.in-Ok.text.now ≡ Token.begin_object ∷ c.next.new.self = grind arith in
    let found = rw c.in-Some.is at c.in_ok-found.ensures in
    let ends : c.next_members.new.reader ≡ [] = grind arith in
    let is = object_read c.in-Ok.text.now c.next.new.self c.next_members.new.reader found.0 opens found.1 ends in
    let text = c.in-Ok.ensures.cases in
    let value = value_of_some c.args.bytes.now (object found.0) text.1 (rw text.0 at is) in
    IfSome_then c.numbers_found.result c.numbers_found.ensures (λ n numbers. (object found.0, value, numbers found.0 found.2))
