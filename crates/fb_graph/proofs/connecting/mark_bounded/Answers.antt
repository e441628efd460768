use Rattle.std.proofs.Common.{◌<◌, ◌≤◌, length, ◌∙◌, not, ap, sym, arith, length-set}
use Rattle.fb_graph.specs.InternalLabelling.{label_of}
use Rattle.fb_graph.proofs.Boundaries.{bounded_kept, bounded_set}
use Rattle.fb_graph.proofs.connecting.mark_bounded.Goals as goal
use Rattle.fb_graph.proofs.connecting.mark_bounded.Goals.{then-not-is_real, else-not-is_real}

pub loop-v-preserved : goal.loop-v-preserved
loop-v-preserved g c =
    let p = g.S.Scope.problem c.args.scope.now in
    let below : c.loop-v.v < p.vertices = omega arith in
    let low : label_of c.args.labels.now c.loop-v.v ≤ c.loop-v.v = c.requires.low c.loop-v.v below in
    let room : label_of c.args.labels.now c.loop-v.v < length c.loop-v.bounded.items = omega (arith, c.loop-v.invariant.count) in
    elim c.if-not-is_real.branch [
      | then-not-is_real w ↦
          rw w.bounded-is
          (record {
            count = length-set _ _ _ ∙ c.loop-v.invariant.count;
            each =
                bounded_set p c.args.labels.now c.loop-v.bounded.items c.loop-v.v c.loop-v.invariant.each room
                (ap not (sym c.is_real.ensures ∙ w.if-not-is_real.true));
          })
      | else-not-is_real w ↦
          rw w.bounded-is
          (record {
            count = c.loop-v.invariant.count;
            each =
                bounded_kept p c.args.labels.now c.loop-v.bounded.items c.loop-v.v c.loop-v.invariant.each
                (ap not (sym c.is_real.ensures ∙ w.if-not-is_real.false));
          })
    ]
