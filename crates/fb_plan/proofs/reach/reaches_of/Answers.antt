use Rattle.std.proofs.Common.{◌≡◌, ◌<◌, ◌∙◌, refl, ap, length, length-set, arith}
use Rattle.std.proofs.lemmas.List.{get_or_read_under}
use Rattle.fb_plan.specs.Reaches.{reach_at, widened_reach}
use Rattle.fb_plan.proofs.Reaches.{reaches_more, reaches_same}
use Rattle.fb_plan.proofs.reach.reaches_of.Goals as goal
use Rattle.fb_plan.proofs.reach.reaches_of.Goals.{in-Some, in_default}

pub loop-v-preserved : goal.loop-v-preserved
loop-v-preserved c =
    let (count, are) = c.loop-v.invariant in
    elim c.match-owner.branch [
      | in-Some w ↦
          let node : w.in-Some.node < length c.loop-v.reaches.items = omega (arith, count, c.requires.owners c.loop-v.v w.in-Some.node w.in-Some.is) in
          let read : w.index.result.now ≡ reach_at c.loop-v.reaches.items w.in-Some.node =
          get_or_read_under c.loop-v.reaches.items w.in-Some.node (length c.loop-v.reaches.items) w.index.result.now (record { first = 0; end = 0 })
          w.index.ensures node refl in
          rw w.reaches-is (
            length-set c.loop-v.reaches.items w.in-Some.node w.with.result ∙ count,
            reaches_more c.args.owners.now c.args.nodes c.loop-v.v w.in-Some.node c.loop-v.reaches.items w.with.result c.loop-v-test.true w.in-Some.is count
                (w.with.ensures ∙ ap (λ r. widened_reach r c.loop-v.v) read) are,
          )
      | in_default w ↦
          rw w.reaches-is (count, reaches_same c.args.owners.now c.args.nodes c.loop-v.v c.loop-v.reaches.items c.loop-v-test.true w.in_default.is are)
    ]
