use Rattle.std.proofs.Common.{◌≡◌, map, take}
use Rattle.fb_resolve.proofs.rows.names_of.Given as goal

abbrev pub invariant-loop-place : goal.invariant-loop-place
invariant-loop-place g l = l.names.items ≡ map (λ n. n.name) (take l.place l.regions.nodes)
