use Rattle.std.proofs.Common.{◌≡◌, ◌-◌, take}
use Rattle.fb_book.proofs.tables.copy_joins.Given as goal

abbrev pub invariant-loop-node : goal.invariant-loop-node
invariant-loop-node l = l.joins.items ≡ take (l.node - l.plan.units) l.plan.joins
