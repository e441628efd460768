use Rattle.std.proofs.Common.{◌≡◌, ◌≤◌, ◌*◌, ◌^◌, sum_by, take}
use Rattle.fb_verify.proofs.sums.sum_of_values.Given as goal

abbrev pub invariant-loop-place : goal.invariant-loop-place
invariant-loop-place l = (l.total ≡ sum_by (λ c. c.value) (take l.place l.cuts)) × (l.total ≤ l.place * 2 ^ 64)
