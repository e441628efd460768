use Rattle.std.proofs.Common.{◌≡◌, ◌∙◌, length, arith}
use Rattle.fb_layers.proofs.Extending.{begins_first, begins_new, extends_last}
use Rattle.fb_layers.proofs.runs.add_vertex.Goals as goal
use Rattle.fb_layers.proofs.runs.add_vertex.Goals.{else-count-gt0-via-then-count-gt0+else-index-vertex, else-count-gt0-via-else-count-gt0}

pub returns-then-index-vertex-clause-added : goal.returns-then-index-vertex-clause-added
returns-then-index-vertex-clause-added c =
    let count : c.len-count.result ≡ length c.args.ranges.now.items = omega (arith, c.len-count.ensures, c.args.ranges.now.ok.0) in
    extends_last c.args.ranges.now.items c.len-count.result c.args.vertex c.from-vertex.result c.index.result.now
    c.index_mut.result.now count c.if-count-gt0.true c.index.ensures c.if-index-vertex.true c.from-vertex.ensures
    c.index_mut.ensures.value

pub returns-clause-added : goal.returns-clause-added
returns-clause-added c =
    let count : c.len-count.result ≡ length c.args.ranges.now.items = omega (arith, c.len-count.ensures, c.args.ranges.now.ok.0) in
    c.in_ok-push.ensures.items
    ∙ elim c.else-count-gt0.branch [
      | else-count-gt0-via-then-count-gt0+else-index-vertex w ↦
          begins_new c.args.ranges.now.items c.len-count.result c.args.vertex c.from-vertex.result w.index.result.now
          count w.index.ensures w.if-index-vertex.false c.from-vertex.ensures w.if-count-gt0.true
      | else-count-gt0-via-else-count-gt0 w ↦
          begins_first c.args.ranges.now.items c.args.vertex c.from-vertex.result (omega (arith, w.if-count-gt0.false, count)) c.from-vertex.ensures
    ]
