use Rattle.std.proofs.Common.{[], ◌∷◌, refl}
use Rattle.fb_verify.specs.InternalLoads.{shares_of}
use Rattle.fb_verify.proofs.Adding.{one_added, all_added}
use Rattle.fb_verify.proofs.loads.add_shares.Goals as goal

pub loop-edge-preserved : goal.loop-edge-preserved
loop-edge-preserved c =
    one_added (shares_of c.args.value) (λ k. record { edge = k; value = c.args.value } ∷ []) _ c.loop-edge.shares.items _ c.args.edges.now
    c.loop-edge.edge-index 0 (λ k rest. refl) c.loop-edge-test.true c.loop-edge.invariant c.in_ok-push.ensures.items

pub returns : goal.returns
returns c =
    all_added (shares_of c.args.value) _ c.loop-edge.shares.items c.args.edges.now c.loop-edge.edge-index refl c.loop-edge-test.false
    c.loop-edge.invariant
