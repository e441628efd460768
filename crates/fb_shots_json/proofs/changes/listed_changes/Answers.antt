use Rattle.std.proofs.Common.{length, pos, arith}
use Rattle.fb_shots_json.proofs.JudgedChanges.{erasures_good, pairs_good}
use Rattle.fb_shots_json.proofs.changes.listed_changes.Goals as goal

pub change_by-requires : goal.change_by-requires
change_by-requires c =
    pairs_good (length c.args.graph.now.edges) c.args.erasures.now c.args.pairs.now c.requires c.loop-pair.pair-index (0, pos 0) c.loop-pair-test.true

pub overflow_cast-edge : goal.overflow_cast-edge
overflow_cast-edge c =
    let within = erasures_good (length c.args.graph.now.edges) c.args.erasures.now c.args.pairs.now c.requires c.loop-edge.edge-index 0 c.loop-edge-test.true in
    let few = c.limits.ensures.edges in
    omega arith
