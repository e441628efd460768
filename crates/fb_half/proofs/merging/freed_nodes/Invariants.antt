use Rattle.std.proofs.Common.{◌≡◌, get_or, map, take}
use Rattle.fb_half.specs.InternalStandings.{no_match}
use Rattle.fb_half.proofs.merging.freed_nodes.Given as goal

abbrev pub invariant-loop-place : goal.invariant-loop-place
invariant-loop-place l = l.freed.items ≡ map (λ i. (get_or l.matching.matches i no_match).first) (take l.place-index l.place-items)
