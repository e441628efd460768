use Rattle.std.proofs.Common.{arith}
use Rattle.fb_graph.proofs.CancelledPairs.{part_cancelled-back, part_cancelled-onward}
use Rattle.fb_graph.proofs.printed.cancel_pairs.Goals as goal
use Rattle.fb_graph.proofs.printed.cancel_pairs.Goals.{then-kept-gt0+then-numbers-kept, else-kept-gt0, else-kept-gt0-via-then-kept-gt0+else-numbers-kept, else-kept-gt0-via-else-kept-gt0}

pub loop-i-preserved : goal.loop-i-preserved
loop-i-preserved c =
    elim c.if-kept-gt0.branch [
      | then-kept-gt0+then-numbers-kept w ↦
          rw (w.numbers-is, w.kept-is)
          (part_cancelled-back _ _ _ _ c.loop-i.auto.numbers c.loop-i-test.true w.if-kept-gt0.true w.if-numbers-kept.true c.loop-i.invariant)
      | else-kept-gt0 w ↦
          rw (w.numbers-is, w.kept-is)
          (part_cancelled-onward _ _ _ _ c.requires c.loop-i.auto.numbers c.loop-i-test.true
          (λ some.
          elim w.else-kept-gt0.branch [
            | else-kept-gt0-via-then-kept-gt0+else-numbers-kept v ↦ v.if-numbers-kept.false
            | else-kept-gt0-via-else-kept-gt0 v ↦ absurd (omega (arith, v.if-kept-gt0.false))
          ])
          c.loop-i.invariant)
    ]
