use Rattle.std.proofs.Common.{◌≡◌, ◌++◌, map, pos, take}
use Rattle.fb_shots_json.proofs.changes.listed_changes.Given as goal

abbrev pub invariant-loop-pair : goal.invariant-loop-pair
invariant-loop-pair l = l.listed.items ≡ take l.pair-index l.pairs

abbrev pub invariant-loop-edge : goal.invariant-loop-edge
invariant-loop-edge l = l.listed.items ≡ l.pairs ++ map (λ edge. (edge, pos 0)) (take l.edge-index l.erasures)
