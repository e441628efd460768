use Rattle.std.proofs.Common.{arith, sym, subst, ◌*◌, ◌^◌, length}
use Rattle.std.proofs.lemmas.Int.{ints}
use Rattle.fb_run.specs.InternalSums.{IsLow}
use Rattle.fb_run.proofs.sample_text.Sums.with_window.Goals as goal

pub returns-clause-weight : goal.returns-clause-weight
returns-clause-weight c = omega (
  arith,
  ints,
  c.add_weights.ensures.sum,
  c.add_weights.ensures.limit.above,
  c.add_weights.ensures.limit.below,
  c.requires.weight.above,
  c.requires.weight.below,
  c.requires.rows,
)

pub returns-clause-low_weight : goal.returns-clause-low_weight
returns-clause-low_weight c =
    subst (IsLow (2 ^ 64 * length c.args.rows.now)) c.add_weights.ensures.sum c.add_weights.ensures.limit
