use Rattle.std.proofs.Common.{◌<◌}
use Rattle.std.proofs.lemmas.List.Elements.{All-map}
use Rattle.std.specs.BinaryHeap.{heap_items}
use Rattle.std.specs.declared.cmp.Reverse.{Reverse}
use Rattle.fb_obstacles.specs.declared.queue.Due.{Due}
use Rattle.fb_obstacles.proofs.queue.DueTimes.keeps.Goals as goal

pub returns : goal.returns
returns c =
    rw (← c.self.view_is)
    (All-map (λ (d : Due). d.growth < 18446744073709551616) (λ (x : Reverse Due). x.0) (heap_items c.self.inside.heap) c.self.invariant.small)
