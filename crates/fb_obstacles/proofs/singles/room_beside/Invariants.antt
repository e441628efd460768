use Rattle.std.proofs.Common.{take}
use Rattle.fb_obstacles.proofs.SingleEdges.{HasRoomAt}
use Rattle.fb_obstacles.proofs.singles.room_beside.Given as goal

abbrev pub invariant-loop-edge : goal.invariant-loop-edge
invariant-loop-edge g l =
    HasRoomAt (g.S.Scope.problem l.regions.scope).edges l.regions.nodes l.far 0 (take l.edge-index l.edge-items) l.room
