use Rattle.std.proofs.Common.{ℕ, ◌+◌, ◌<◌, ◌≡◌, length, get_or}
use Rattle.fb_gen.specs.TimePlan.{no_fusion, time_fusions}
use Rattle.fb_layers.proofs.rounds.seam_nodes.Given as goal

abbrev pub invariant-loop-i : goal.invariant-loop-i
invariant-loop-i l =
    (length l.nodes.items ≡ l.units)
    × ((k : ℕ) → k < l.i → get_or l.nodes.items (get_or (time_fusions l.units) k no_fusion).seam 0 ≡ l.units + k)
