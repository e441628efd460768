use Rattle.fb_regions.specs.InternalNodes.{mark_of}
use Rattle.fb_regions.proofs.Backward.{IsBackAfter, the_mark}
use Rattle.fb_regions.proofs.regions.Regions.push_source_walk.Given as goal

abbrev pub invariant-loop-hop : goal.invariant-loop-hop
invariant-loop-hop g l =
    IsBackAfter (g.S.Scope.problem l.self-inside.scope) l.self-inside.marks l.v l.at l.initial.steps.items l.steps.items

abbrev pub decreases-loop-hop : goal.decreases-loop-hop
decreases-loop-hop g l = (the_mark (mark_of l.self-inside.marks l.at)).rank
