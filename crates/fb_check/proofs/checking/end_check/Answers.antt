use Rattle.std.proofs.Common.{◌≡◌, ℕ, inl, refl, rules}
use Rattle.fb_exits.specs.declared.ending.Cause.TheVariants.{Done}
use Rattle.fb_check.specs.Checks.{check_cause}
use Rattle.fb_check.proofs.checking.end_check.Goals as goal

done_if : (rows shots bad : ℕ) → bad ≡ 0 → rows ≡ shots → Done ≡ check_cause rows shots bad
done_if rows shots bad none same = search rules

pub returns-then-rows-shots-clause-end : goal.returns-then-rows-shots-clause-end
returns-then-rows-shots-clause-end g c =
    rw c.in-End.is (inl (c.in-Ok.ensures.all, done_if c.args.rows c.args.shots c.args.bad c.if-bad-eq0.true c.if-rows-shots.true))

pub returns-in-ReadFault-clause-end : goal.returns-in-ReadFault-clause-end
returns-in-ReadFault-clause-end g c = rw c.in-ReadFault.is (refl, refl)
