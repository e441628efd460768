use Rattle.std.proofs.Common.{ℕ, ◌≡◌, ◌-◌, List, length, take, drop, arith}
use Rattle.std.proofs.lemmas.Grind.{common_steps}
use Rattle.std.specs.List.{copy_within}
use Rattle.fb_records.proofs.pending.remove_prefix.Goals as goal

moved_down : (xs : List ℕ) (count end kept : ℕ) → end ≡ length xs → kept ≡ end - count
    → take kept (copy_within xs count end 0) ≡ drop count xs
moved_down xs count end kept all rest = grind (arith, common_steps)

pub returns : goal.returns
returns c =
    rw (c.truncate.ensures.items, c.copy_within.ensures.items)
    (moved_down c.args.bytes.now.items c.args.count _ _ (omega (arith, c.args.bytes.now.ok.0)) (omega (arith, c.args.bytes.now.ok.0)))
