use Rattle.std.proofs.Common.{◌≡◌, ℕ, ◌<◌, ◌≤◌, ◌*◌, ◌^◌, length, get_or, take}
use Rattle.fb_verify.specs.InternalLoads.{load_in}
use Rattle.fb_verify.proofs.load_table.add_loads.Given as goal

abbrev pub invariant-loop-share : goal.invariant-loop-share
invariant-loop-share l = record {
  sums : (k : ℕ) → k < length l.loads → get_or l.loads k 0 ≡ load_in (take l.share-index l.shares) k;
  bound : (k : ℕ) → k < length l.loads → get_or l.loads k 0 ≤ l.share-index * 2 ^ 64;
}
