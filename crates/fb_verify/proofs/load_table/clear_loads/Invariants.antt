use Rattle.std.proofs.Common.{◌≡◌, ℕ, ◌<◌, length, get_or, drop}
use Rattle.fb_verify.specs.InternalLoads.{load_in}
use Rattle.fb_verify.proofs.load_table.clear_loads.Given as goal

abbrev pub invariant-loop-share : goal.invariant-loop-share
invariant-loop-share l = (k : ℕ) → k < length l.loads → load_in (drop l.share-index l.shares) k ≡ 0 → get_or l.loads k 0 ≡ 0
