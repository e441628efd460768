use Rattle.std.proofs.Common.{◌≡◌, ℕ, [], length, get_or}
use Rattle.fb_predict.proofs.holders.empty_lists.Given as goal

abbrev pub invariant-loop-i : goal.invariant-loop-i
invariant-loop-i l = record {
  size : length l.lists.items ≡ l.i;
  empty : (e : ℕ) → get_or l.lists.items e [] ≡ [];
}
