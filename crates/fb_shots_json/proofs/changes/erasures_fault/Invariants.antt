use Rattle.std.proofs.Common.{◌≡◌, drop, length}
use Rattle.fb_shots_json.specs.TextJson.{erasure_fault, first_fault}
use Rattle.fb_shots_json.proofs.changes.erasures_fault.Given as goal

-- none so far is refused
abbrev pub invariant-loop-edge : goal.invariant-loop-edge
invariant-loop-edge l =
    first_fault (erasure_fault (length l.graph.edges)) l.erasures
    ≡ first_fault (erasure_fault (length l.graph.edges)) (drop l.edge-index l.erasures)
