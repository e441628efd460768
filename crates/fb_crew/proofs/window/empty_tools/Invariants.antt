use Rattle.std.proofs.Common.{◌≡◌, length}
use Rattle.fb_crew.proofs.window.empty_tools.Given as goal

abbrev pub invariant-loop : goal.invariant-loop
invariant-loop l = length l.tools.items ≡ l.counter
