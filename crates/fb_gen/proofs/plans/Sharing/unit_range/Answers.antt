use Rattle.std.proofs.Common.{◌+◌, arith}
use Rattle.std.proofs.lemmas.Grind.{common_steps}
use Rattle.fb_gen.proofs.Rounds.{first_bound, first_within}
use Rattle.fb_gen.proofs.plans.Sharing.unit_range.Goals as goal

pub range-requires-clause-start : goal.range-requires-clause-start
range-requires-clause-start c =
    omega (
      arith,
      c.requires.each c.args.j (omega arith),
      first_within c.args.self.rounds c.args.self.units c.args.j c.requires.shared c.requires.unit,
    )

pub range-requires-clause-end : goal.range-requires-clause-end
range-requires-clause-end c =
    omega (
      arith,
      c.requires.each (c.args.j + 1) (omega arith),
      first_bound c.args.self.rounds c.args.self.units (c.args.j + 1) c.requires.shared (omega arith),
    )

pub returns : goal.returns
returns c = grind (arith, common_steps)
