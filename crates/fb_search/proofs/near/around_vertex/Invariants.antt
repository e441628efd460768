use Rattle.std.proofs.Common.{take}
use Rattle.fb_search.proofs.NearAround.{IsAround}
use Rattle.fb_search.proofs.near.around_vertex.Given as goal

abbrev pub invariant-loop-edge : goal.invariant-loop-edge
invariant-loop-edge g l =
    IsAround (g.S.Scope.problem l.regions.scope) l.regions.nodes l.matching.unmatched l.v (take l.edge-index l.edge-items) l.around
