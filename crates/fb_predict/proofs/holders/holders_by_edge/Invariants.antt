use Rattle.std.proofs.Common.{◌≡◌, ℕ, [], length, take, map, get_or}
use Rattle.fb_graph.specs.Parity.{is_in}
use Rattle.fb_predict.specs.InternalHolders.{AreNumbers, occurs_oddly}
use Rattle.fb_predict.proofs.holders.holders_by_edge.Given as goal

abbrev pub invariant-loop-i : goal.invariant-loop-i
invariant-loop-i l = record {
  size : length l.holders.items ≡ l.edge_count;
  odd : (i e : ℕ) → occurs_oddly (get_or l.holders.items e []) i ≡ is_in (get_or (map (λ u. u.items) (take l.i l.lists)) i []) e;
  numbers : AreNumbers l.holders.items;
}
