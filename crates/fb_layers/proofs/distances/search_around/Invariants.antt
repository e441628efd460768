use Rattle.std.proofs.Common.{take}
use Rattle.fb_layers.proofs.Searching.{IsAround}
use Rattle.fb_layers.proofs.distances.search_around.Given as goal

abbrev pub invariant-loop-edge : goal.invariant-loop-edge
invariant-loop-edge l = IsAround l.graph l.initial.search l.search l.place (take l.edge-index l.edges)
