use Rattle.std.proofs.Common.{◌≡◌, ◌++◌, map, take}
use Rattle.fb_resolve.proofs.rows.push_walk.Given as goal

abbrev pub invariant-loop-step : goal.invariant-loop-step
invariant-loop-step l = l.edges.items ≡ l.fn.edges.items ++ map (λ s. s.edge) (take l.step-index l.step-items)
