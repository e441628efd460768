use Rattle.std.proofs.Common.{[], false, get_or}
use Rattle.fb_predict.specs.InternalHolders.{occurs_oddly}
use Rattle.fb_predict.proofs.Flips.{edges_more}
use Rattle.fb_predict.proofs.observables.flip_by_edges.Goals as goal

pub loop-edge-preserved : goal.loop-edge-preserved
loop-edge-preserved c =
    let at = c.loop-edge in
    record {
      size = c.flip_by_edge.ensures.size;
      each = λ i. edges_more (get_or c.args.bits.now i false) (λ e. occurs_oddly (get_or c.args.holders.now e []) i) c.args.edges.now at.edge-index 0
          (get_or at.bits i false) _ c.loop-edge-test.true (at.invariant.each i) (c.flip_by_edge.ensures.each i);
    }
