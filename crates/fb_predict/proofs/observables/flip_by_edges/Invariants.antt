use Rattle.std.proofs.Common.{◌≡◌, ℕ, [], false, length, take, get_or}
use Rattle.fb_graph.specs.Parity.{differ, is_odd_count}
use Rattle.fb_predict.specs.ObservableText.{most_observables}
use Rattle.fb_predict.specs.InternalHolders.{occurs_oddly}
use Rattle.fb_predict.proofs.observables.flip_by_edges.Given as goal

abbrev pub invariant-loop-edge : goal.invariant-loop-edge
invariant-loop-edge l = record {
  size : length l.bits ≡ most_observables;
  each : (i : ℕ) → get_or l.bits i false
      ≡ differ (get_or l.fn.bits i false) (is_odd_count (λ e. occurs_oddly (get_or l.holders e []) i) (take l.edge-index l.edges));
}
