use Rattle.fb_graph.proofs.Shots.{length-shot}
use Rattle.fb_graph.proofs.Sets.{rising-nil}
use Rattle.fb_graph.proofs.shot.Shot.from_rising.Goals as goal

pub invariant_of-result : goal.invariant_of-result
invariant_of-result c =
    rw (c.from_vec.ensures, c.from_vec-3.ensures, c.new-2.ensures.items) (c.requires.rising, length-shot c.args.graph.now _ c.limits.ensures c.requires.rising c.requires.real, rising-nil)
