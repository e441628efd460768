use Rattle.std.proofs.Common.{arith}
use Rattle.fb_gen.specs.InternalSharing.{IsShared}
use Rattle.fb_gen.proofs.Rulings.{plan_is_made}
use Rattle.fb_gen.proofs.plans.time_plan.Goals as goal

pub returns-clause-ok : goal.returns-clause-ok
returns-clause-ok c =
    let shared : IsShared c.args.rounds c.args.units =
    record { positive = c.requires.some; limit = c.requires.limit; enough = omega arith } in
    plan_is_made c.args.distance c.args.rounds c.args.units c.from-3.result c.from-4.result c.from-5.result
    c.in-Ok.plan shared c.from-3.ensures c.from-4.ensures c.from-5.ensures c.in-Ok.ensures.plan
