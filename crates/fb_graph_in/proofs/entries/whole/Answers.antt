use Rattle.std.proofs.Common.{◌∙◌, ap}
use Rattle.std.specs.Prelude.{option_and_then}
use Rattle.serde_json.specs.Find.{as_integer}
use Rattle.fb_graph_in.proofs.entries.whole.Goals as goal

pub returns : goal.returns
returns c = c.as_i128.ensures ∙ ap (option_and_then as_integer) c.in_ok-as_number.ensures
