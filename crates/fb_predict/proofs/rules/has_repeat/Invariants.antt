use Rattle.std.proofs.Common.{◌≡◌, ℕ, ◌<◌, ◌≤◌, eqb, get_or, take, drop, [], length}
use Rattle.fb_graph.specs.Parity.{is_in}
use Rattle.fb_predict.specs.ObservableText.{repeats}
use Rattle.fb_predict.proofs.rules.has_repeat.Given as goal

abbrev pub invariant-loop-edge : goal.invariant-loop-edge
invariant-loop-edge l = record {
  size : length l.marks ≡ length l.initial.marks;
  newer : (k : ℕ) → get_or l.marks k 0 ≤ l.number;
  marked : (k : ℕ) → k < length l.marks → eqb (get_or l.marks k 0) l.number ≡ is_in (take l.edge-index l.list) k;
  rest : repeats [] l.list ≡ repeats (take l.edge-index l.list) (drop l.edge-index l.list);
}
