use Rattle.std.proofs.Common.{◌≡◌, drop, length}
use Rattle.fb_shots_json.specs.TextJson.{first_fault, pair_fault}
use Rattle.fb_shots_json.proofs.changes.pairs_fault.Given as goal

-- none so far is refused
abbrev pub invariant-loop-pair : goal.invariant-loop-pair
invariant-loop-pair l =
    first_fault (pair_fault (length l.graph.edges)) l.pairs
    ≡ first_fault (pair_fault (length l.graph.edges)) (drop l.pair-index l.pairs)
