use Rattle.std.proofs.Common.{arith}
use Rattle.std.proofs.lemmas.Grind.{common_steps}
use Rattle.fb_gen.proofs.Rounds.{first_within}
use Rattle.fb_gen.proofs.plans.Sharing.join.Goals as goal

pub range-range-requires-clause-start : goal.range-range-requires-clause-start
range-range-requires-clause-start c =
    omega (
      arith,
      c.requires.each c.args.fusion.seam (omega arith),
      first_within c.args.self.rounds c.args.self.units c.args.fusion.seam c.requires.shared c.requires.seam,
    )

pub range-range-requires-clause-end : goal.range-range-requires-clause-end
range-range-requires-clause-end c =
    omega (
      arith,
      c.requires.each c.args.fusion.seam (omega arith),
      first_within c.args.self.rounds c.args.self.units c.args.fusion.seam c.requires.shared c.requires.seam,
    )

pub returns : goal.returns
returns c = grind (arith, common_steps)
