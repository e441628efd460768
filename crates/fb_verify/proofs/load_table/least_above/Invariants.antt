use Rattle.std.proofs.Common.{get_or, take}
use Rattle.fb_graph.specs.Problem.{edge_at}
use Rattle.fb_graph.specs.ShotGraphs.{shot_graph}
use Rattle.fb_verify.specs.InternalLoads.{IsLeastOver}
use Rattle.fb_verify.proofs.load_table.least_above.Given as goal

abbrev pub invariant-loop-share : goal.invariant-loop-share
invariant-loop-share l =
    IsLeastOver (λ k. (edge_at (shot_graph l.graph l.shot).edges k).weight) (λ k. get_or l.loads k 0) (take l.share-index l.shares) l.least
