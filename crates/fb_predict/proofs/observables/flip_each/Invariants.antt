use Rattle.std.proofs.Common.{◌≡◌, ℕ, false, length, take, get_or}
use Rattle.fb_graph.specs.Parity.{differ}
use Rattle.fb_predict.specs.ObservableText.{most_observables}
use Rattle.fb_predict.specs.InternalHolders.{occurs_oddly}
use Rattle.fb_predict.proofs.observables.flip_each.Given as goal

abbrev pub invariant-loop-number : goal.invariant-loop-number
invariant-loop-number l = record {
  size : length l.bits ≡ most_observables;
  each : (i : ℕ) → get_or l.bits i false ≡ differ (get_or l.fn.bits i false) (occurs_oddly (take l.number-index l.numbers) i);
}
