use Rattle.std.proofs.Common.{ℕ, List, [], ◌∷◌, ◌++◌, refl, ap, ◌∙◌, append_assoc}
use Rattle.std.proofs.Math.Path.{ap₂}
use Rattle.fb_graph.specs.Problem.{edge_at}
use Rattle.fb_verify.specs.InternalMarks.{ends_of}
use Rattle.fb_verify.proofs.Adding.{one_added, all_added}
use Rattle.fb_verify.proofs.parities.add_ends.Goals as goal

pub loop-edge-preserved : goal.loop-edge-preserved
loop-edge-preserved c =
    let edges = c.args.graph.now.edges in
    let ends = c.loop-edge.ends.items in
    one_added (ends_of edges) (λ k. (edge_at edges k).first ∷ (edge_at edges k).second ∷ []) _ ends _ c.args.edges.now c.loop-edge.edge-index 0
    (λ k rest. refl) c.loop-edge-test.true c.loop-edge.invariant
    (c.in_ok-push-2.ensures.items ∙ ap (λ (pushed : List ℕ). pushed ++ (c.ends-first.result.1 ∷ [])) c.in_ok-push.ensures.items
    ∙ append_assoc ends (c.ends-first.result.0 ∷ []) (c.ends-first.result.1 ∷ [])
    ∙ ap₂ (λ (a b : ℕ). ends ++ (a ∷ b ∷ [])) c.ends-first.ensures.first c.ends-first.ensures.second)

pub returns : goal.returns
returns c =
    all_added (ends_of c.args.graph.now.edges) _ c.loop-edge.ends.items c.args.edges.now c.loop-edge.edge-index refl c.loop-edge-test.false
    c.loop-edge.invariant
