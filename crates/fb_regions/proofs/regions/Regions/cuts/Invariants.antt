use Rattle.std.proofs.Common.{◌≡◌, ◌++◌, drop, filter}
use Rattle.fb_graph.specs.Dual.{all_cuts}
use Rattle.fb_graph.specs.Printed.{is_positive}
use Rattle.fb_regions.specs.InternalClock.{all_at}
use Rattle.fb_regions.specs.InternalNodes.{nodes_of}
use Rattle.fb_regions.proofs.regions.Regions.cuts.Given as goal

abbrev pub invariant-loop-region : goal.invariant-loop-region
invariant-loop-region g l =
    l.cuts ++ filter is_positive (all_cuts (nodes_of l.self-inside.marks (all_at l.self-inside.clock (drop l.region-index l.self-inside.regions.items))))
    ≡ filter is_positive (all_cuts (nodes_of l.self-inside.marks (all_at l.self-inside.clock l.self-inside.regions.items)))
