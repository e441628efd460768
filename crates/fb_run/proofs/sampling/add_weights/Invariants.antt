use Rattle.std.proofs.Common.{◌≡◌, ◌*◌, ◌^◌, take}
use Rattle.fb_run.specs.InternalSums.{IsLow}
use Rattle.fb_run.specs.Samples.{weights_in}
use Rattle.fb_run.proofs.sampling.add_weights.Given as goal

abbrev pub invariant-loop-row : goal.invariant-loop-row
invariant-loop-row l = (l.sum ≡ weights_in (take l.row-index l.rows)) × IsLow (2 ^ 64 * l.row-index) l.sum
