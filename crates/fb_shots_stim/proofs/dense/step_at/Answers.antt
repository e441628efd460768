use Rattle.std.proofs.Common.{ℕ, ◌≡◌, ◌≢◌, ◌<◌, Bool, true, List, [], ◌∷◌, length, refl, arith}
use Rattle.std.proofs.lemmas.Bool.{ne_eqb}
use Rattle.fb_shots_stim.specs.InternalStep01.{step_01, line_end_01}
use Rattle.fb_shots_stim.proofs.dense.step_at.Goals as goal

-- at the end of the input
ended : (n good : ℕ) (finished : Bool) (tail : List ℕ) → length tail < 1 → finished ≡ true → good ≢ 0
    → step_01 n finished good tail ≡ line_end_01 n good 0
ended n good finished [] none end some = rw (end, ne_eqb good 0 some) refl
ended n good finished (b ∷ bytes) none end some = absurd (omega arith)

pub returns-in-empty-3 : goal.returns-in-empty-3
returns-in-empty-3 c =
    cc (ended c.args.detectors c.args.good c.args.finished c.args.tail.now c.in-empty.len_below c.if-not-finished.false c.if-good-eq0.false)
