use Rattle.std.proofs.Common.{◌*◌, refl, arith}
use Rattle.fb_obstacles.proofs.NodeBounds.{first_least, first_raised, others_kept}
use Rattle.fb_obstacles.proofs.watching.Watch.settle_first_node.Goals as goal

pub returns-then-growth-lt18446744073709551615-clause-settled : goal.returns-then-growth-lt18446744073709551615-clause-settled
returns-then-growth-lt18446744073709551615-clause-settled c _ =
    rw (← c.self.view_is) (
      refl,
      first_least c.self.inside.nodes c.self.inside.lowered c.in-Some.first.growth c.args.value c.in-Some.ensures.least
          (omega (
            arith,
            c.growth_after-growth.ensures.exact (omega (arith, c.if-growth-lt18446744073709551615.true)),
            c.if-growth-first.true,
          )),
    )

pub returns-clause-raised : goal.returns-clause-raised
returns-clause-raised c _ =
    rw (← c.self.view_is)
    (λ name is. (
      others_kept c.self.inside.nodes c.postpone_first.new.self c.self.inside.lowered c.postpone_first.ensures.kept name is,
      first_raised c.self.inside.nodes c.postpone_first.new.self c.self.inside.lowered c.growth_after-growth.result (2 * c.args.value)
          c.postpone_first.ensures.added c.growth_after-growth.ensures.most name is,
    ))
