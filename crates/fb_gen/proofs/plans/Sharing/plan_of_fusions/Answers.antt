use Rattle.std.proofs.Common.{refl}
use Rattle.fb_gen.proofs.Rulings.{seams_below}
use Rattle.fb_gen.proofs.plans.Sharing.plan_of_fusions.Goals as goal

pub joins-requires-clause-seams : goal.joins-requires-clause-seams
joins-requires-clause-seams c =
    seams_below c.args.self.rounds c.args.self.units c.args.self.units c.args.self.units c.args.fusions.now c.requires.shared
    refl refl c.requires.fusions
