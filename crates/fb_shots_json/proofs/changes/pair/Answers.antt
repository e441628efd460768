use Rattle.std.proofs.Common.{rules}
use Rattle.fb_shots_json.proofs.Pairs.{pairs}
use Rattle.fb_shots_json.proofs.changes.pair.Goals as goal

pub returns-in_default : goal.returns-in_default
returns-in_default c = search (rules, pairs)

pub returns-in_default-2 : goal.returns-in_default-2
returns-in_default-2 c = search (rules, pairs)
