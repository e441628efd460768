use Rattle.std.proofs.Common.{take}
use Rattle.fb_obstacles.specs.InternalWatching.{Enters}
use Rattle.fb_obstacles.proofs.entering.enter_all.Given as goal

abbrev pub invariant-loop-edge : goal.invariant-loop-edge
invariant-loop-edge l = Enters (take l.edge-index l.edges) l.initial.watch l.watch
