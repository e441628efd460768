use Rattle.std.proofs.Common.{◌≡◌, ◌∷◌, arith, rules}
use Rattle.json.specs.Token.{Token}
use Rattle.serde_json.specs.Data.{number}
use Rattle.serde_json.specs.Find.{of_integer}
use Rattle.fb_json.specs.NumberTokens.{Begins, natural_data}
use Rattle.fb_graph_in.specs.InternalTokens.{edge_data}
use Rattle.fb_graph_in.proofs.TokenLists.{edge_read}
use Rattle.fb_graph_in.proofs.tokens.next_edge.Goals as goal

pub returns-then-take_end_array-clause-value : goal.returns-then-take_end_array-clause-value
returns-then-take_end_array-clause-value c = λ depth deep.
    let is : c.args.reader.now ≡ Token.begin_array ∷ c.next.new.self = grind arith in
    let a = c.in_ok-first.ensures in
    let b = c.in_ok-second.ensures in
    let w = c.in_ok-weight.ensures in
    let read : Begins depth (Token.begin_array ∷ c.next.new.self) (edge_data (c.in_ok-first.first, c.in_ok-second.second, c.in_ok-weight.weight)) c.take_end_array.new.self =
    edge_read depth c.next.new.self c.next_natural.new.reader c.next_natural-2.new.reader c.next_whole.new.reader c.take_end_array.new.self
    (natural_data c.in_ok-first.first) (natural_data c.in_ok-second.second) (number (of_integer c.in_ok-weight.weight)) deep
    a.open b.open w.open a.shorter b.shorter w.shorter (a.value _) (b.value _) (w.value _) c.if-take_end_array.ensures in
    rw is (search (rules, read))
