use Rattle.std.proofs.Common.{◌≤◌, length, arith}
use Rattle.std.proofs.lemmas.Bool.{le-ltb}
use Rattle.fb_json.specs.JsonText.{most_bytes}
use Rattle.fb_graph_in.proofs.numbers.read_numbers.Goals as goal

pub returns-in-Ok-clause-ok : goal.returns-in-Ok-clause-ok
returns-in-Ok-clause-ok c =
    let few : length c.args.bytes.now ≤ most_bytes = omega arith in
    rw (le-ltb most_bytes (length c.args.bytes.now) few, c.in-Ok.ensures.value) c.numbers_in.ensures.ok
