use Rattle.std.proofs.Common.{ℕ, ◌<◌, get_or, ◌∙◌, sym, subst, length-set}
use Rattle.fb_predict.proofs.Flips.{flips_more}
use Rattle.fb_predict.proofs.observables.flip_each.Goals as goal

pub loop-number-preserved : goal.loop-number-preserved
loop-number-preserved c =
    let at = c.loop-number in
    let numbers = c.args.numbers.now in
    record {
      size = length-set _ _ _ ∙ at.invariant.size;
      each = flips_more c.args.bits.now at.bits numbers at.number-index 0 c.loop-number-test.true
          (subst (λ (m : ℕ). get_or numbers at.number-index 0 < m) (sym at.invariant.size) (c.requires.below at.number-index 0 c.loop-number-test.true))
          at.invariant.each;
    }
