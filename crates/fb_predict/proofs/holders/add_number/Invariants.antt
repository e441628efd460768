use Rattle.std.proofs.Common.{◌≡◌, ℕ, ◌==◌, ◌&&◌, [], length, take, get_or}
use Rattle.fb_graph.specs.Parity.{differ}
use Rattle.fb_predict.specs.InternalHolders.{AreNumbers, occurs_oddly}
use Rattle.fb_predict.proofs.holders.add_number.Given as goal

abbrev pub invariant-loop-edge : goal.invariant-loop-edge
invariant-loop-edge l = record {
  size : length l.holders.items ≡ length l.fn.holders.items;
  each : (i e : ℕ) → occurs_oddly (get_or l.holders.items e []) i
      ≡ differ (occurs_oddly (get_or l.fn.holders.items e []) i) ((l.number == i) && occurs_oddly (take l.edge-index l.list) e);
  numbers : AreNumbers l.holders.items;
}
