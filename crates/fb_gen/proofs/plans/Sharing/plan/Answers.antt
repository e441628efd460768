use Rattle.fb_gen.proofs.Rulings.{plan_is_time_tree}
use Rattle.fb_gen.proofs.plans.Sharing.plan.Goals as goal

pub unreachable-requires : goal.unreachable-requires
unreachable-requires c =
    cc (
      plan_is_time_tree c.args.self.distance c.args.self.rounds c.args.self.units c.args.graph.now _ c.args.joins.now
          c.requires.shared c.requires.lattice c.requires.units c.requires.joins,
      c.in-Err.ensures.err c.in_default.not-NoMemory,
    )

pub returns-in-Ok-clause-plan : goal.returns-in-Ok-clause-plan
returns-in-Ok-clause-plan c =
    cc (
      plan_is_time_tree c.args.self.distance c.args.self.rounds c.args.self.units c.args.graph.now _ c.args.joins.now
          c.requires.shared c.requires.lattice c.requires.units c.requires.joins,
      c.in-Ok.ensures.ok,
    )
