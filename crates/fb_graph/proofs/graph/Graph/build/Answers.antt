use Rattle.std.proofs.Common.{◌≡◌, true, false, length, ap, ◌∙◌, arith}
use Rattle.fb_graph.proofs.Layouts.{flagged, built_is_laid_out, built_is_graph_of}
use Rattle.fb_graph.proofs.graph.Graph.build.Goals as goal
use Rattle.fb_graph.proofs.graph.Graph.build.Goals.{In_ok-adjacent}

virtuals_are : (c : In_ok-adjacent) → c.in_ok-virtuals.virtuals ≡ flagged c.in_ok-flags.flags.items true c.args.n
virtuals_are c =
    c.in_ok-virtuals.ensures
    ∙ ap (λ xs. flagged xs true (length xs)) c.deref.ensures.value
    ∙ ap (λ m. flagged c.in_ok-flags.flags.items true m) c.in_ok-flags.ensures.len

detectors_are : (c : In_ok-adjacent) → c.in_ok-detectors.detectors ≡ flagged c.in_ok-flags.flags.items false c.args.n
detectors_are c =
    c.in_ok-detectors.ensures
    ∙ ap (λ xs. flagged xs false (length xs)) c.deref-2.ensures.value
    ∙ ap (λ m. flagged c.in_ok-flags.flags.items false m) c.in_ok-flags.ensures.len

pub invariant_of-result : goal.invariant_of-result
invariant_of-result c =
    rw (virtuals_are c, detectors_are c, c.in_ok-edges.ensures.items)
    (built_is_laid_out c.args.n c.args.edges.now c.args.virtuals.now c.in_ok-flags.flags.items
    c.in_ok-adjacent.adjacent.items c.in_ok-signs.signs (omega arith) (omega arith)
    (rw (← c.in_ok-edges.ensures.items) c.in_ok-edges.ensures.each) c.in_ok-flags.ensures.len
    c.in_ok-flags.ensures.each c.in_ok-adjacent.ensures.len
    (rw (c.deref-5.ensures.value, c.in_ok-edges.ensures.items) at c.in_ok-adjacent.ensures.each)
    (rw (c.deref-3.ensures.value, c.deref-4.ensures.value, c.in_ok-edges.ensures.items) at c.in_ok-signs.ensures))

pub returns-clause-ok : goal.returns-clause-ok
returns-clause-ok c =
    let negatives = c.in_ok-signs.ensures.negatives in
    rw (virtuals_are c, c.in_ok-edges.ensures.items, negatives)
    (built_is_graph_of c.args.n c.args.edges.now c.args.virtuals.now c.in_ok-flags.flags.items (omega arith) (omega arith)
    c.in_ok-edges.ensures.good c.in_ok-flags.ensures.good c.in_ok-flags.ensures.each)
