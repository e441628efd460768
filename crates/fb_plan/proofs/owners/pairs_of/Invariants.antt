use Rattle.std.proofs.Common.{◌≡◌, take}
use Rattle.fb_plan.specs.Rules.{joins_of}
use Rattle.fb_plan.proofs.owners.pairs_of.Given as goal

abbrev pub invariant-loop-fusion : goal.invariant-loop-fusion
invariant-loop-fusion l = l.joins.items ≡ joins_of (take l.fusion-index l.fusions)
