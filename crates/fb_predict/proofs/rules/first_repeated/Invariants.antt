use Rattle.std.proofs.Common.{◌≡◌, ℕ, ◌≤◌, get_or, drop, [], map, length}
use Rattle.fb_predict.specs.ObservableText.{first_where, repeats}
use Rattle.fb_predict.proofs.rules.first_repeated.Given as goal

abbrev pub invariant-loop-i : goal.invariant-loop-i
invariant-loop-i l = record {
  size : length l.marks.items ≡ l.edge_count;
  older : (k : ℕ) → get_or l.marks.items k 0 ≤ l.i;
  rest : first_where (repeats []) 0 (map (λ u. u.items) l.lists) ≡ first_where (repeats []) l.i (map (λ u. u.items) (drop l.i l.lists));
}
