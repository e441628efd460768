use Rattle.std.proofs.Common.{◌≡◌, ◌<◌, ℕ, true, false, length, drop, get_or, nat_eq}
use Rattle.std.specs.List.{list_any}
use Rattle.fb_shots_stim.proofs.record.clear_marks.Given as goal

-- a mark that is still set is of a detector that comes
abbrev pub invariant-loop-k : goal.invariant-loop-k
invariant-loop-k l = (k : ℕ) → k < length l.marks → get_or l.marks k false ≡ true → list_any (nat_eq k) (drop l.k-index l.named) ≡ true
