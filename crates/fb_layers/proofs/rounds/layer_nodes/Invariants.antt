use Rattle.std.proofs.Common.{ℕ, ◌<◌, ◌≡◌, length, get_or}
use Rattle.fb_gen.specs.TimePlan.{IsRoundOf}
use Rattle.fb_layers.proofs.Layering.{IsAt}
use Rattle.fb_layers.proofs.rounds.layer_nodes.Given as goal

abbrev pub invariant-loop-layer : goal.invariant-loop-layer
invariant-loop-layer l = record {
  count : length l.nodes.items ≡ l.layer;
  at : l.layer < l.rounds → IsAt l.rounds l.units l.layer l.unit;
  each : (k : ℕ) → k < l.layer → IsRoundOf l.rounds l.units k (get_or l.nodes.items k 0);
}
