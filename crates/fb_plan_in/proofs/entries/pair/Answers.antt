use Rattle.std.proofs.Common.{arith, rules}
use Rattle.std.proofs.lemmas.Grind.{common_steps}
use Rattle.fb_plan_in.proofs.Pairs.{pairs}
use Rattle.fb_plan_in.proofs.entries.pair.Goals as goal

pub returns-in_default : goal.returns-in_default
returns-in_default c = search (rules, pairs)

pub returns-in_default-2 : goal.returns-in_default-2
returns-in_default-2 c = search (rules, pairs)

pub returns-in_err-first : goal.returns-in_err-first
returns-in_err-first c = grind (arith, common_steps)

pub returns-in_err-second : goal.returns-in_err-second
returns-in_err-second c = grind (arith, common_steps)

pub returns : goal.returns
returns c = grind (arith, common_steps)
