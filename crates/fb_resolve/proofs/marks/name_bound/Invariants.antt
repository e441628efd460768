use Rattle.std.proofs.Common.{ℕ, ◌≡◌, ◌≤◌, true, take}
use Rattle.fb_graph.specs.Parity.{is_in}
use Rattle.fb_resolve.proofs.marks.name_bound.Given as goal

abbrev pub invariant-loop-name : goal.invariant-loop-name
invariant-loop-name l = (x : ℕ) → is_in (take l.name-index l.names) x ≡ true → x ≤ l.bound
