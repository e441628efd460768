use Rattle.std.proofs.Common.{length}
use Rattle.fb_graph.specs.Dual.{top_at}
use Rattle.fb_regions.specs.Listed.{back_from}
use Rattle.fb_obstacles.proofs.WatchSteps.{ArePassed}
use Rattle.fb_obstacles.proofs.entering.watch_node.Given as goal

abbrev pub invariant-loop-next : goal.invariant-loop-next
invariant-loop-next g l =
    ArePassed (g.S.Scope.problem l.scope) (top_at l.regions.nodes l.node) l.next l.initial.watch l.watch

abbrev pub decreases-loop-next : goal.decreases-loop-next
decreases-loop-next g l = length (back_from (top_at l.regions.nodes l.node) l.next)
